-- What the tests of soundness compute. That together they decide `Sound` is a law (Laws/Decide).
use Rattle.std.specs.Prelude.{ℕ, zero, suc, ◌-◌, Bool, true, false, not, ◌&&◌, ◌||◌, ◌≡◌, List, leb, ltb, eqb, length}
use Rattle.std.specs.Bool.{beq}
use Rattle.zorder.specs.Refusal.{cost_count_bad}
use Rattle.model.specs.Moves.{Move, move_before}
use Rattle.model.specs.Dominance.{hides}
use Rattle.model.specs.Calls.{size_bad, memory_need, block_bad}
use Rattle.promises.specs.Layout.{size_in, dimension_in, format_in, format_number, count_in, number_in, flag_in, block_in, move_in}
use Rattle.promises.specs.Sound.{Sound}

-- A test passes at 0, 1, .., n-1.
unfoldable pub all_to : (ℕ → Bool) → ℕ → Bool
all_to p zero = true
all_to p (suc n) = all_to p n && p n

unfoldable pub any_to : (ℕ → Bool) → ℕ → Bool
any_to p n = not (all_to (λ i. not (p i)) n)

unfoldable pub head_right : List ℕ → Bool
head_right m =
    not (size_bad (size_in m))
    && not (cost_count_bad (dimension_in m))
    && eqb (format_in m) format_number
    && leb (memory_need (size_in m)) (length m)
    && leb (count_in m) (size_in m)

-- The number at place i is below c, and its block one of 0 to 63.
unfoldable pub number_right : ℕ → List ℕ → ℕ → Bool
number_right c m i = ltb (number_in c m i) c && not (block_bad (block_in c m (number_in c m i)))

unfoldable pub numbers_right : ℕ → ℕ → List ℕ → Bool
numbers_right c n m = all_to (number_right c m) n

unfoldable pub order_right : ℕ → ℕ → ℕ → List ℕ → Bool
order_right c d n m = all_to (λ i. move_before d (move_in c d m i) (move_in c d m (suc i))) (n - 1)

-- Whether the move with a number is listed, and the one at place i.
abbrev pub is_flagged : ℕ → List ℕ → ℕ → Bool
is_flagged c m k = eqb (flag_in c m k) 1

unfoldable pub is_listed : ℕ → List ℕ → ℕ → Bool
is_listed c m i = is_flagged c m (number_in c m i)

-- A listed move at a place before i hides x.
unfoldable pub hidden_before : ℕ → ℕ → List ℕ → ℕ → Move → Bool
hidden_before c d m i x = any_to (λ j. is_listed c m j && hides d (move_in c d m j) x) i

abbrev pub hidden_at : ℕ → ℕ → List ℕ → ℕ → Bool
hidden_at c d m i = hidden_before c d m i (move_in c d m i)

unfoldable pub flags_right : ℕ → ℕ → ℕ → List ℕ → Bool
flags_right c d n m = all_to (λ i. beq (is_listed c m i) (not (hidden_at c d m i))) n

-- The two halves of that: each move that is not listed is hidden, and no listed one is.
unfoldable pub hidden_right : ℕ → ℕ → ℕ → List ℕ → Bool
hidden_right c d n m = all_to (λ i. is_listed c m i || hidden_at c d m i) n

unfoldable pub listed_right : ℕ → ℕ → ℕ → List ℕ → Bool
listed_right c d n m = all_to (λ i. not (is_listed c m i && hidden_at c d m i)) n

-- The answer says whether the memory is sound.
pub record Decides (r : Bool) (m : List ℕ) : Type 0 where
  pub sound : r ≡ true → Sound m
  pub unsound : r ≡ false → Sound m → ⊥
