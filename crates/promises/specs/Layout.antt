-- The lent memory: fields at offsets that the size C alone determines (docs/DECISIONS.md has the picture). Numbers are two
-- bytes, the lower first. Flags, blocks and costs go by move number, so that a change of the tree leaves them where they are.
use Rattle.std.specs.Prelude.{ℕ, zero, suc, ◌+◌, ◌*◌, ◌/◌, ◌%◌, List, [], ◌∷◌, ◌++◌, eqb, get_or, set}
use Rattle.zorder.specs.Address.{padded}
use Rattle.model.specs.Basics.{select}
use Rattle.model.specs.Moves.{Move}
use Rattle.model.specs.Calls.{Board, blocks_on}
use Rattle.line.specs.Line.{Placed, moves_in}

unfoldable pub word_at : ℕ → List ℕ → ℕ
word_at o m = get_or m o 0 + 256 * get_or m (o + 1) 0

unfoldable pub set_word : ℕ → ℕ → List ℕ → List ℕ
set_word o v m = set (set m o (v % 256)) (o + 1) (v / 256)

-- Where each field stands.
abbrev pub size_place : ℕ
size_place = 0

abbrev pub dimension_place : ℕ
dimension_place = 2

abbrev pub format_place : ℕ
format_place = 3

abbrev pub count_place : ℕ
count_place = 4

abbrev pub number_place : ℕ → ℕ
number_place i = 16 + 2 * i

abbrev pub height_place : ℕ → ℕ → ℕ
height_place c i = 16 + 2 * c + i

abbrev pub flag_place : ℕ → ℕ → ℕ
flag_place c n = 16 + 3 * c + n

abbrev pub block_place : ℕ → ℕ → ℕ
block_place c n = 16 + 4 * c + n

abbrev pub cost_place : ℕ → ℕ → ℕ → ℕ
cost_place c n j = 16 + 5 * c + 16 * n + 2 * j

abbrev pub work_place : ℕ → ℕ → ℕ
work_place c i = 16 + 21 * c + 2 * i

-- The head: C, d, the format and how many moves are on the board.
unfoldable pub size_in : List ℕ → ℕ
size_in m = word_at size_place m

unfoldable pub dimension_in : List ℕ → ℕ
dimension_in m = get_or m dimension_place 0

unfoldable pub format_in : List ℕ → ℕ
format_in m = get_or m format_place 0

-- The number of this layout. A layout that reads the same bytes otherwise takes another.
abbrev pub format_number : ℕ
format_number = 1

unfoldable pub count_in : List ℕ → ℕ
count_in m = word_at count_place m

-- By place in Z-order: the number of the move, and its height. By number: the flag that says whether it is listed, its block and its costs.
unfoldable pub number_in : ℕ → List ℕ → ℕ → ℕ
number_in c m i = word_at (number_place i) m

unfoldable pub height_in : ℕ → List ℕ → ℕ → ℕ
height_in c m i = get_or m (height_place c i) 0

unfoldable pub flag_in : ℕ → List ℕ → ℕ → ℕ
flag_in c m n = get_or m (flag_place c n) 0

unfoldable pub block_in : ℕ → List ℕ → ℕ → ℕ
block_in c m n = get_or m (block_place c n) 0

unfoldable pub cost_in : ℕ → List ℕ → ℕ → ℕ → ℕ
cost_in c m n j = word_at (cost_place c n j) m

-- A place of the work area, which holds numbers of moves while nodes are removed.
unfoldable pub work_in : ℕ → List ℕ → ℕ → ℕ
work_in c m i = word_at (work_place c i) m

module _ {A : Type 0} where
  -- f 0, f 1, .., k entries in all.
  unfoldable pub tab : (ℕ → A) → ℕ → List A
  tab f zero = []
  tab f (suc k) = tab f k ++ f k ∷ []

-- The heights of the first n rows.
unfoldable pub heights_from : ℕ → ℕ → List ℕ → List ℕ
heights_from c n m = tab (height_in c m) n

unfoldable pub costs_in : ℕ → ℕ → List ℕ → ℕ → List ℕ
costs_in c d m n = padded d (tab (cost_in c m n) d)

unfoldable pub move_in : ℕ → ℕ → List ℕ → ℕ → Move
move_in c d m i = record { number = number_in c m i; costs = costs_in c d m (number_in c m i) }

unfoldable pub placed_in : ℕ → ℕ → List ℕ → ℕ → Placed
placed_in c d m i = record { move = move_in c d m i; height = height_in c m i }

-- The line that n rows of the memory hold, for a given size and number of costs; and the memory's own.
unfoldable pub line_from : ℕ → ℕ → ℕ → List ℕ → List Placed
line_from c d n m = tab (placed_in c d m) n

unfoldable pub line_in : List ℕ → List Placed
line_in m = line_from (size_in m) (dimension_in m) (count_in m) m

unfoldable pub board_in : List ℕ → Board
board_in m =
    record {
      size = size_in m;
      dimension = dimension_in m;
      moves = moves_in (line_in m);
      blocks = blocks_on (moves_in (line_in m)) (block_in (size_in m) m);
    }

-- The kept list: the moves whose flag is 1.
unfoldable pub kept_from : ℕ → List ℕ → List Move → List Move
kept_from c m ms = select (λ x. eqb (flag_in c m x.number) 1) ms

unfoldable pub kept_in : List ℕ → List Move
kept_in m = kept_from (size_in m) m (moves_in (line_in m))
