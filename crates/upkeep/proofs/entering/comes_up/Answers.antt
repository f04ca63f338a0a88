-- `entering::comes_up` meets its contract, test by test. Assumes nothing.
use Prim.Native.Nat.{ℕ}
use mathlib.Core.Bool.{Bool, not, ◌&&◌}
use mathlib.Core.List.{List}
use mathlib.Core.Path.{◌≡◌, refl, sym, ap, ap₂, ◌∙◌, subst}
use Rattle.model.specs.Moves.{Move}
use Rattle.model.specs.Dominance.{hides}
use Rattle.promises.specs.Layout.{move_in}
use Rattle.promises.specs.Run.{Bytes}
use Rattle.upkeep.specs.Change.{goes_listed, hidden_by_others, hidden_by_coming, comes_up, Parted}
use Rattle.upkeep.specs.Laws.Change.{goes-on-board}
use Rattle.upkeep.specs.Laws.Others.{own-place}
use Rattle.upkeep.specs.declared.exchange.Exchange.{Exchange}
use Rattle.upkeep.proofs.entering.comes_up.Goals as goal

by-tests : (c d n : ℕ) (k : Exchange) (x : Move) (m : List ℕ) {gone hid coming others : Bool}
    → goes_listed c n k.goes m ≡ gone
    → hides d (move_in c d m k.goes) x ≡ hid
    → hidden_by_coming d k x ≡ coming
    → hidden_by_others c d n k.goes x m ≡ others
    → (gone && hid && not coming && not others) ≡ comes_up c d n k x m
unfolding comes_up
by-tests c d n k x m p q r s = sym (λ i. p i && q i && not (r i) && not (s i))

pub returns-then-not-hides : goal.returns-then-not-hides
returns-then-not-hides c =
    let a = c.args in
    let b = a.all.now.board in
    let x = c.move_at-x.ensures in
    by-tests b.head.size b.head.dimension b.head.count a.k (move_in b.head.size b.head.dimension b.bytes.now a.i) b.bytes.now c.requires.goes_listed.goes
    (ap₂ (hides b.head.dimension) (sym c.move_at-going.ensures) (sym x) ∙ sym c.hides.ensures ∙ c.if-not-hides.true) refl refl

pub returns-then-hidden_by_coming : goal.returns-then-hidden_by_coming
returns-then-hidden_by_coming c =
    let a = c.args in
    let b = a.all.now.board in
    let x = c.move_at-x.ensures in
    by-tests b.head.size b.head.dimension b.head.count a.k (move_in b.head.size b.head.dimension b.bytes.now a.i) b.bytes.now c.requires.goes_listed.goes
    (ap₂ (hides b.head.dimension) (sym c.move_at-going.ensures) (sym x) ∙ sym c.hides.ensures ∙ c.if-not-hides.false)
    (ap (hidden_by_coming b.head.dimension a.k) (sym x) ∙ sym c.hidden_by_coming.ensures ∙ c.if-hidden_by_coming.true) refl

pub returns : goal.returns
returns c =
    let a = c.args in
    let b = a.all.now.board in
    let x = c.move_at-x.ensures in
    by-tests b.head.size b.head.dimension b.head.count a.k (move_in b.head.size b.head.dimension b.bytes.now a.i) b.bytes.now c.requires.goes_listed.goes
    (ap₂ (hides b.head.dimension) (sym c.move_at-going.ensures) (sym x) ∙ sym c.hides.ensures ∙ c.if-not-hides.false)
    (ap (hidden_by_coming b.head.dimension a.k) (sym x) ∙ sym c.hidden_by_coming.ensures ∙ c.if-hidden_by_coming.false)
    (ap (λ (y : Move). hidden_by_others b.head.size b.head.dimension b.head.count a.k.goes y b.bytes.now) (sym x) ∙ sym c.hidden_by_others.ensures)

pub move_at-going-requires : goal.move_at-going-requires
move_at-going-requires c =
    let b = c.args.all.now.board in
    goes-on-board b.head.size b.head.count c.args.k.goes b.bytes.now c.requires.goes_listed.goes

pub hidden_by_others-requires-clause-parted : goal.hidden_by_others-requires-clause-parted
unfolding Bytes
hidden_by_others-requires-clause-parted c =
    let a = c.args in
    let b = a.all.now.board in
    subst (λ (x : Move). Parted b.head.size b.head.dimension b.head.count a.i x b.bytes.now) (sym c.move_at-x.ensures)
    (own-place b.head.size b.head.dimension b.head.count b.bytes.now c.requires.goes_listed.sound b.fits a.i c.requires.place)
