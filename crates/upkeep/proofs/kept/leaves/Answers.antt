-- `kept::leaves` meets its contract, test by test. Assumes nothing.
use Prim.Native.Nat.{ℕ}
use mathlib.Core.Bool.{Bool, ◌&&◌, ◌||◌}
use mathlib.Core.List.{List}
use mathlib.Core.Path.{◌≡◌, refl, sym, ap, ◌∙◌}
use borrow.Author.Tests.{eq-eqb, ne_eqb}
use lib.Dec.{eqb}
use Rattle.promises.specs.Layout.{move_in}
use Rattle.memory.specs.Tests.{is_listed}
use Rattle.memory.specs.Laws.Turns.{listed_at}
use Rattle.upkeep.specs.Change.{hidden_by_coming, leaves, leaves_at}
use Rattle.upkeep.specs.declared.exchange.Exchange.{Exchange}
use Rattle.upkeep.proofs.kept.leaves.Goals as goal

by-tests : (c d : ℕ) (k : Exchange) (m : List ℕ) (i : ℕ) {listed gone hidden : Bool}
    → is_listed c m i ≡ listed
    → eqb i k.goes ≡ gone
    → hidden_by_coming d k (move_in c d m i) ≡ hidden
    → (listed && (gone || hidden)) ≡ leaves_at c d k m i
unfolding leaves_at leaves
by-tests c d k m i p q r = sym (λ j. p j && (q j || r j))

pub returns-then-not-is_listed : goal.returns-then-not-is_listed
returns-then-not-is_listed c =
    let a = c.args in
    let b = a.b.now in
    by-tests b.head.size b.head.dimension a.k b.bytes.now a.i (listed_at b.head.size b.bytes.now a.i c.number_at.result c.number_at.ensures.0 ∙ sym c.is_listed.ensures ∙ c.if-not-is_listed.true) refl refl

pub returns-then-i-k : goal.returns-then-i-k
returns-then-i-k c =
    let a = c.args in
    let b = a.b.now in
    by-tests b.head.size b.head.dimension a.k b.bytes.now a.i (listed_at b.head.size b.bytes.now a.i c.number_at.result c.number_at.ensures.0 ∙ sym c.is_listed.ensures ∙ c.if-not-is_listed.false) (eq-eqb a.i a.k.goes c.if-i-k.true) refl

pub returns : goal.returns
returns c =
    let a = c.args in
    let b = a.b.now in
    by-tests b.head.size b.head.dimension a.k b.bytes.now a.i (listed_at b.head.size b.bytes.now a.i c.number_at.result c.number_at.ensures.0 ∙ sym c.is_listed.ensures ∙ c.if-not-is_listed.false) (ne_eqb a.i a.k.goes c.if-i-k.false)
    (ap (hidden_by_coming b.head.dimension a.k) (sym c.move_at.ensures) ∙ sym c.hidden_by_coming.ensures)
