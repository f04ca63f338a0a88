use Prim.Native.Nat.{ℕ}
use mathlib.Core.Bool.{Bool}
use mathlib.Core.List.{List}
use mathlib.Core.Path.{◌≡◌, sym, ap, ◌∙◌}
use native.Mathlib.Omega.{arith}
use Rattle.model.specs.Calls.{block_bad}
use Rattle.promises.specs.Layout.{number_in, block_in}
use Rattle.memory.specs.Laws.Turns.{numbers-none, numbers_more, numbers-fail, blocks-fail}
use Rattle.soundness.proofs.sound.numbers_right.Goals as goal

-- What the number's block is said to be, of the block at the number's place.
said : (c : ℕ) (m : List ℕ) (i : ℕ) {number block : ℕ} {r : Bool} → number ≡ number_in c m i → block ≡ block_in c m number → r ≡ block_bad block → block_bad (block_in c m (number_in c m i)) ≡ r
said c m i is held e = ap (λ (k : ℕ). block_bad (block_in c m k)) (sym is) ∙ ap block_bad (sym held) ∙ sym e

pub loop-i-init : goal.loop-i-init
loop-i-init c = let a = c.args in numbers-none a.c a.m.now

pub returns-then-c-number : goal.returns-then-c-number
returns-then-c-number c =
    let a = c.args in
    sym (numbers-fail a.c a.m.now a.n c.loop-i.i (omega arith) (omega arith))

pub returns-then-block_bad : goal.returns-then-block_bad
returns-then-block_bad c =
    let a = c.args in
    let i = c.loop-i.i in
    sym (blocks-fail a.c a.m.now a.n i (omega arith)
    (said a.c a.m.now i c.number_at-number.ensures c.block_of-block.ensures c.block_bad.ensures ∙ c.if-block_bad.true))

pub loop-i-preserved : goal.loop-i-preserved
loop-i-preserved c =
    let a = c.args in
    let own = c.loop-i in
    numbers_more a.c a.m.now own.i own.invariant (omega arith)
    (said a.c a.m.now own.i c.number_at-number.ensures c.block_of-block.ensures c.block_bad.ensures ∙ c.if-block_bad.false)
