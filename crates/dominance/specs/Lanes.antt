-- Rows of costs taken place by place, all at once.
use Rattle.std.specs.Prelude.{ℕ, ◌/◌, ◌%◌, ◌^◌, ◌<◌, Bool, cond, List, ◌≡◌, eqb, ltb, length, get_or}
use Rattle.zorder.specs.Address.{row_costs}
use Rattle.model.specs.Dominance.{less}

-- The row of f 0, f 1 and so on.
pub record Lanes (f : ℕ → ℕ) (row : List ℕ) : Type 0 where
  pub wide : length row ≡ row_costs
  pub holds : (i : ℕ) → i < row_costs → get_or row i 0 ≡ f i

-- The cost where a test holds, elsewhere 65535.
abbrev pub bound : (ℕ → Bool) → List ℕ → ℕ → ℕ
bound test q i = cond (test i) (get_or q i 0) 65535

-- The tests: one of the first d costs, one of a set.
abbrev pub is_first : ℕ → ℕ → Bool
is_first d i = ltb i d

abbrev pub is_chosen : ℕ → ℕ → Bool
is_chosen set i = eqb (set / 2 ^ i % 2) 1

abbrev pub lesser : List ℕ → List ℕ → ℕ → ℕ
lesser p q i = cond (less (get_or q i 0) (get_or p i 0)) (get_or q i 0) (get_or p i 0)

abbrev pub greater : List ℕ → List ℕ → ℕ → ℕ
greater p q i = cond (less (get_or p i 0) (get_or q i 0)) (get_or q i 0) (get_or p i 0)
