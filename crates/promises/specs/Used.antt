-- The bytes in use. All others are free: no answer depends on them (memory/specs/Laws/Answers).
use Rattle.std.specs.Prelude.{ℕ, ◌+◌, Bool, true, ◌||◌, List, ◌≡◌, eqb, leb, length, get_or}
use Rattle.model.specs.Basics.{any}
use Rattle.model.specs.Calls.{memory_need}
use Rattle.promises.specs.Layout.{size_place, format_place, count_place, number_place, height_place, flag_place, block_place, cost_place, size_in, dimension_in, count_in, number_in, tab}
use Rattle.promises.specs.Written.{in_area}

-- C, d, the format and the count.
unfoldable pub head_use : ℕ → Bool
head_use i = in_area size_place (format_place + 1) i || in_area count_place (count_place + 2) i

-- Numbers and heights at the first n places.
unfoldable pub rows_use : ℕ → ℕ → ℕ → Bool
rows_use c n i = in_area (number_place 0) (number_place n) i || in_area (height_place c 0) (height_place c n) i

-- The flag, the block and the first d costs of a move's number.
unfoldable pub move_use : ℕ → ℕ → ℕ → ℕ → Bool
move_use c d i number = eqb i (flag_place c number) || eqb i (block_place c number) || in_area (cost_place c number 0) (cost_place c number d) i

unfoldable pub in_use : List ℕ → ℕ → Bool
in_use m i =
    let c = size_in m in
    let n = count_in m in
    head_use i || rows_use c n i || any (move_use c (dimension_in m) i) (tab (number_in c m) n)

-- As long as C needs.
unfoldable pub long_enough : List ℕ → Bool
long_enough m = leb (memory_need (size_in m)) (length m)

-- The bytes in use are the same, and both are as long as C needs, or neither is.
pub record SameInUse (m m' : List ℕ) : Type 0 where
  pub bytes : (i : ℕ) → in_use m i ≡ true → get_or m' i 0 ≡ get_or m i 0
  pub long : long_enough m' ≡ long_enough m
