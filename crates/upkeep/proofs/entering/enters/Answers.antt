-- `entering::enters` meets its contract, test by test. Assumes nothing.
use Prim.Native.Nat.{ℕ}
use mathlib.Core.Bool.{Bool, not, ◌&&◌}
use mathlib.Core.List.{List}
use mathlib.Core.Path.{◌≡◌, refl, sym, ◌∙◌}
use borrow.Author.Tests.{eq-eqb, ne_eqb}
use lib.Dec.{eqb}
use Rattle.promises.specs.Layout.{move_in}
use Rattle.memory.specs.Tests.{is_listed}
use Rattle.memory.specs.Laws.Turns.{listed_at}
use Rattle.upkeep.specs.Change.{comes_up, enters_at}
use Rattle.upkeep.specs.declared.exchange.Exchange.{Exchange}
use Rattle.upkeep.proofs.entering.enters.Goals as goal

by-tests : (c d n : ℕ) (k : Exchange) (m : List ℕ) (i : ℕ) {listed gone up : Bool}
    → is_listed c m i ≡ listed
    → eqb i k.goes ≡ gone
    → comes_up c d n k (move_in c d m i) m ≡ up
    → (not listed && (not gone && up)) ≡ enters_at c d n k m i
unfolding enters_at
by-tests c d n k m i p q r = sym (λ j. not (p j) && (not (q j) && r j))

pub returns-then-is_listed : goal.returns-then-is_listed
returns-then-is_listed c =
    let a = c.args in
    let b = a.all.now.board in
    let number = c.number_at in
    by-tests b.head.size b.head.dimension b.head.count a.k b.bytes.now a.i
    (listed_at b.head.size b.bytes.now a.i number.result number.ensures.0 ∙ sym c.is_listed.ensures ∙ c.if-is_listed.true) refl refl

pub returns-then-i-k : goal.returns-then-i-k
returns-then-i-k c =
    let a = c.args in
    let b = a.all.now.board in
    let number = c.number_at in
    by-tests b.head.size b.head.dimension b.head.count a.k b.bytes.now a.i
    (listed_at b.head.size b.bytes.now a.i number.result number.ensures.0 ∙ sym c.is_listed.ensures ∙ c.if-is_listed.false) (eq-eqb a.i a.k.goes c.if-i-k.true) refl

pub returns : goal.returns
returns c =
    let a = c.args in
    let b = a.all.now.board in
    let number = c.number_at in
    by-tests b.head.size b.head.dimension b.head.count a.k b.bytes.now a.i
    (listed_at b.head.size b.bytes.now a.i number.result number.ensures.0 ∙ sym c.is_listed.ensures ∙ c.if-is_listed.false) (ne_eqb a.i a.k.goes c.if-i-k.false)
    (sym c.comes_up.ensures)
