-- A set of numbers, as words of 64 bits hold it.
use Rattle.std.specs.Prelude.{ℕ, ◌/◌, ◌%◌, ◌^◌, Bool, ◌||◌, ◌≡◌, List, eqb, get_or}

unfoldable pub in_set : List ℕ → ℕ → Bool
in_set ws n = eqb (get_or ws (n / 64) 0 / 2 ^ (n % 64) % 2) 1

-- The second set is the first with n besides.
unfoldable pub With : List ℕ → ℕ → List ℕ → Type 0
With ws n ws' = (k : ℕ) → in_set ws' k ≡ (eqb k n || in_set ws k)
