-- `reading::placed` meets its contract. Assumes nothing.
use Prim.Native.Nat.{ℕ, ◌<◌, ◌≤◌}
use mathlib.Core.Bool.{Bool, cond}
use mathlib.Core.List.{List}
use mathlib.Core.Path.{◌≡◌, sym, ap, ◌∙◌}
use borrow.Author.Tests.{eqb-true, eqb-false, ne_eqb}
use native.Mathlib.Omega.{arith}
use lib.Dec.{eqb}
use lib.ListN.{length, get_or, set}
use lib.Seq.{get_or-set_same, get_or-set_other}
use Rattle.model.proofs.Laws.Bool.{test_cases}
use Rattle.frame_lines.specs.Reading.{most_digits, ByteKept}
use Rattle.frame_lines.proofs.reading.placed.Goals as goal

put : (first : List ℕ) (n b : ℕ) → n < length first → ByteKept first n b (set first n b)
unfolding ByteKept
put first n b room i h =
    test_cases (λ (x : Bool). get_or (set first n b) i 0 ≡ cond x b (get_or first i 0)) (eqb i n)
    (λ e. ap (λ (k : ℕ). get_or (set first n b) k 0) (eqb-true i n e) ∙ get_or-set_same first n b 0 room)
    (λ e. get_or-set_other first n i b 0 (eqb-false i n e))

past : (first : List ℕ) (n b : ℕ) → most_digits ≤ n → ByteKept first n b first
unfolding ByteKept
past first n b full i h = ap (λ (x : Bool). cond x b (get_or first i 0)) (sym (ne_eqb i n (λ z. omega arith)))

pub returns-then-n-lt-DIGITS : goal.returns-then-n-lt-DIGITS
returns-then-n-lt-DIGITS c = put _ _ _ (omega arith)

pub returns-else-n-lt-DIGITS : goal.returns-else-n-lt-DIGITS
returns-else-n-lt-DIGITS c = past _ _ _ c.if-n-lt-DIGITS.false
