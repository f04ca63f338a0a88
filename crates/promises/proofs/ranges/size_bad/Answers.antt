-- `ranges::size_bad` meets its contract. Assumes nothing.
use Prim.Native.Nat.{ℕ, ◌≤◌, ◌<◌}
use mathlib.Core.Bool.{not}
use mathlib.Core.Logic.{inl, inr}
use mathlib.Core.Path.{◌≡◌, sym, ap, ◌∙◌}
use native.Mathlib.Decide.{dec_lt}
use native.Mathlib.Omega.{arith}
use borrow.Author.Tests.{lt-ltb, le-ltb}
use lib.Dec.{ltb}
use Rattle.model.specs.Calls.{size_bad}
use Rattle.model.proofs.Laws.Tree.{within-true, within-false}
use Rattle.promises.proofs.ranges.size_bad.Goals as goal

most : (n : ℕ) → 16 ≤ n → Dec (4096 < n) → ltb 4096 n ≡ size_bad n
unfolding size_bad
most n least (yes h) = lt-ltb 4096 n h ∙ sym (ap not (within-false 16 4096 n (inr h)))
most n least (no h) = le-ltb 4096 n (omega arith) ∙ sym (ap not (within-true 16 4096 n least (omega arith)))

pub returns-then-c-lt16 : goal.returns-then-c-lt16
unfolding size_bad
returns-then-c-lt16 c =
    let n : ℕ = c.args.c in
    lt-ltb n 16 c.if-c-lt16.true ∙ sym (ap not (within-false 16 4096 n (inl c.if-c-lt16.true)))

pub returns-else-c-lt16 : goal.returns-else-c-lt16
returns-else-c-lt16 c = let n : ℕ = c.args.c in most n (omega arith) (dec_lt 4096 n)
