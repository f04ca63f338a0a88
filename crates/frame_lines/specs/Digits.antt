-- Upper-case hexadecimal: the digits, and the bytes and numbers that they spell.
use Rattle.std.specs.Prelude.{ℕ, ◌+◌, ◌-◌, ◌*◌, Bool, cond, ◌||◌, List, [], ◌∷◌, map, ltb}
use Rattle.model.specs.Basics.{within}

-- '0' to '9' and 'A' to 'F', as bytes.
unfoldable pub is_digit : ℕ → Bool
is_digit b = within 48 57 b || within 65 70 b

-- What a digit counts; 0 for any other byte.
unfoldable pub value_of : ℕ → ℕ
value_of b = cond (within 48 57 b) (b - 48) (cond (within 65 70 b) (b - 55) 0)

unfoldable pub digit_of : ℕ → ℕ
digit_of n = cond (ltb n 10) (48 + n) (55 + n)

-- Pairs as one number each, the first the higher.
unfoldable pub joined : ℕ → List ℕ → List ℕ
joined base [] = []
joined base (h ∷ []) = []
joined base (h ∷ l ∷ ns) = (h * base + l) ∷ joined base ns

-- The bytes that a line spells.
unfoldable pub bytes_of : List ℕ → List ℕ
bytes_of line = joined 16 (map value_of line)

-- "numbers highest byte first .. Number and cost have two bytes."
unfoldable pub numbers_of : List ℕ → List ℕ
numbers_of bytes = joined 256 bytes
