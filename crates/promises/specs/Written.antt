-- Which bytes an accepted call may write, on a board of size c: docs/DECISIONS.md has the picture. All others are as before.
use Rattle.std.specs.Prelude.{ℕ, ◌+◌, Bool, false, not, ◌&&◌, ◌||◌, List, ◌≡◌, leb, ltb, eqb, length, get_or}
use Rattle.model.specs.Calls.{Change, enter, withdraw, recost}
use Rattle.promises.specs.Layout.{size_place, format_place, count_place, number_place, block_place, work_place}

-- The byte i is one from a up to b.
unfoldable pub in_area : ℕ → ℕ → ℕ → Bool
in_area a b i = leb a i && ltb i b

-- Moves: the count; rows, flags, costs and work area, but not the blocks between flags and costs.
unfoldable pub moves_write : ℕ → ℕ → Bool
moves_write c i =
    in_area count_place (count_place + 2) i
    || (in_area (number_place 0) (work_place c c) i && not (in_area (block_place c 0) (block_place c c) i))

-- The block that a change gives: that of its number, and no other.
unfoldable pub block_writes : ℕ → Change → ℕ → Bool
block_writes c (enter n block costs) i = eqb i (block_place c n)
block_writes c (withdraw n) i = false
block_writes c (recost n block costs) i = eqb i (block_place c n)

unfoldable pub change_writes : ℕ → Change → ℕ → Bool
change_writes c x i = moves_write c i || block_writes c x i

-- A load: C, d and the format, moves and blocks.
unfoldable pub load_writes : ℕ → ℕ → Bool
load_writes c i =
    in_area size_place (format_place + 1) i || moves_write c i || in_area (block_place c 0) (block_place c c) i

-- A memory as long as before in which only bytes differ of which the test holds.
pub record Only (writes : ℕ → Bool) (m m' : List ℕ) : Type 0 where
  pub length : length m' ≡ length m
  pub same : (i : ℕ) → writes i ≡ false → get_or m' i 0 ≡ get_or m i 0
