-- Calls and what turns them down (document 01). Every answer has a number (0 accepted) and a detail; the refusal 3, for
-- memory that is not sound, is judged elsewhere: here the board is given.
use Rattle.std.specs.Prelude.{ℕ, suc, ◌+◌, ◌*◌, ◌^◌, Bool, false, cond, not, ◌&&◌, ◌||◌, List, [], ◌∷◌, map, ltb, leb, eqb, length, take}
use Rattle.zorder.specs.Refusal.{refusal, cost_count_bad, cost_past_bad}
use Rattle.model.specs.Basics.{any, has, within}
use Rattle.model.specs.Moves.{Move, InputRow, Row, move_of, insert, in_z_order}
use Rattle.model.specs.Lists.{skyline, band, rank, on_k, chosen, chosen_costs, listed_rows}
use Rattle.model.specs.Hours.{Hours, block_count, minute_bad, hours_bad, open_moves}
use Rattle.model.specs.Withdrawing.{without, unchanged}
use Rattle.model.specs.Notice.{notice_of}

pub record Answer : Type 0 where
  pub number : ℕ
  pub detail : ℕ

unfoldable pub accepted : Answer
accepted = record { number = 0; detail = 0 }

-- "a detail, zero where nothing else is said"
unfoldable pub refused_with : ℕ → Answer
refused_with n = record { number = n; detail = 0 }

-- The first answer if it refuses, else the second: "Checks run in the order given."
unfoldable pub or_else : Answer → Answer → Answer
or_else a b = cond (eqb a.number 0) b a

-- "8 is given exactly if more rows are needed than lent; its detail is the number needed."
unfoldable pub rows_answer : ℕ → ℕ → Answer
rows_answer need lent = cond (ltb lent need) (record { number = 8; detail = need }) accepted

-- "A board has a size C (16 to 4,096) and d costs", 2 to 8 (Card 13), and moves, here in Z-order. "Each move carries a block"
-- (Card 8): for each number that of its move, 0 where there is none. It is no part of the move, whose place is by number and
-- costs alone.
pub record Board : Type 0 where
  pub size : ℕ
  pub dimension : ℕ
  pub moves : List Move
  pub blocks : ℕ → ℕ

-- Load: "2 if C or d is out of range, 1 if the memory is under 64·C + 1,024 bytes."
unfoldable pub size_bad : ℕ → Bool
size_bad c = not (within 16 4096 c)

unfoldable pub memory_need : ℕ → ℕ
memory_need c = 64 * c + 1024

-- "a block, 0 to 63" (Card 8)
unfoldable pub block_bad : ℕ → Bool
block_bad block = not (within 0 63 block)

-- "Then rows in turn, each for 4 (number at or above C), 7 (cost past d not zero), 5 (number in an earlier row)." "It refuses a
-- block above 63 with 11, after 4, wherever a move is given" (Card 8).
unfoldable pub row_refusal : ℕ → ℕ → List ℕ → InputRow → ℕ
row_refusal c d earlier r =
    refusal
    ((leb c r.number, 4) ∷ (block_bad r.block, 11) ∷ (cost_past_bad d r.costs, 7) ∷ (has r.number earlier, 5) ∷ [])

-- "The detail of 4, 5 and 7 is the place, counting from 0, of the first row that fails", and so that of 11.
unfoldable pub rows_refusal : ℕ → ℕ → ℕ → List ℕ → List InputRow → Answer
rows_refusal c d place earlier [] = accepted
rows_refusal c d place earlier (r ∷ rs) =
    cond (eqb (row_refusal c d earlier r) 0)
    (rows_refusal c d (suc place) (r.number ∷ earlier) rs)
    (record { number = row_refusal c d earlier r; detail = place })

unfoldable pub load_answer : ℕ → ℕ → ℕ → List InputRow → Answer
load_answer bytes c d rows =
    or_else (refused_with (refusal ((size_bad c || cost_count_bad d, 2) ∷ (ltb bytes (memory_need c), 1) ∷ [])))
    (rows_refusal c d 0 [] rows)

unfoldable pub on_board : ℕ → List Move → Bool
on_board n ms = any (λ m. eqb m.number n) ms

-- A number given a block.
unfoldable pub give_block : ℕ → ℕ → (ℕ → ℕ) → ℕ → ℕ
give_block n block blocks k = cond (eqb k n) block (blocks k)

-- The blocks of the numbers on the board, 0 of every other.
unfoldable pub blocks_on : List Move → (ℕ → ℕ) → ℕ → ℕ
blocks_on ms blocks n = cond (on_board n ms) (blocks n) 0

unfoldable pub row_blocks : List InputRow → ℕ → ℕ
row_blocks [] = λ n. 0
row_blocks (r ∷ rs) = give_block r.number r.block (row_blocks rs)

unfoldable pub loaded : ℕ → ℕ → List InputRow → Board
loaded c d rows = record { size = c; dimension = d; moves = in_z_order d (map move_of rows); blocks = row_blocks rows }

-- The three changes: enter and re-cost by number, block and costs.
pub data Change : Type 0 where
  enter : ℕ → ℕ → List ℕ → Change
  withdraw : ℕ → Change
  recost : ℕ → ℕ → List ℕ → Change

-- "Enter: .. 4, 7 for a cost past d, 5 if the number is on the board, 8. Withdraw: .. 4, 6 if the number is not on the
-- board, 8. Re-cost: .. 4, 7, 6, 8." With 11 after 4 (Card 8).
unfoldable pub change_refusal : Board → Change → ℕ
change_refusal b (enter n block costs) =
    refusal
    ((leb b.size n, 4) ∷ (block_bad block, 11) ∷ (cost_past_bad b.dimension costs, 7) ∷ (on_board n b.moves, 5) ∷ [])
change_refusal b (withdraw n) = refusal ((leb b.size n, 4) ∷ (not (on_board n b.moves), 6) ∷ [])
change_refusal b (recost n block costs) =
    refusal
    ((leb b.size n, 4) ∷ (block_bad block, 11) ∷ (cost_past_bad b.dimension costs, 7) ∷ (not (on_board n b.moves), 6) ∷ [])

-- "Enter adds the move. Withdraw takes away the move of that number. Re-cost gives that number the new costs."
unfoldable pub changed_moves : ℕ → Change → List Move → List Move
changed_moves d (enter n block costs) ms = insert d (record { number = n; costs = costs }) ms
changed_moves d (withdraw n) ms = without n ms
changed_moves d (recost n block costs) ms = insert d (record { number = n; costs = costs }) (without n ms)

unfoldable pub changed_blocks : Change → (ℕ → ℕ) → ℕ → ℕ
changed_blocks (enter n block costs) = give_block n block
changed_blocks (withdraw n) = give_block n 0
changed_blocks (recost n block costs) = give_block n block

unfoldable pub changed : Board → Change → Board
changed b c =
    record {
      size = b.size;
      dimension = b.dimension;
      moves = changed_moves b.dimension c b.moves;
      blocks = changed_blocks c b.blocks;
    }

-- "Re-costing: .. unless the costs are equal, which changes nothing": no move. "Re-costing with equal costs and another block
-- changes the block only" (Card 8), with an equal one nothing at all.
unfoldable pub keeps_moves : Board → Change → Bool
keeps_moves b (enter n block costs) = false
keeps_moves b (withdraw n) = false
keeps_moves b (recost n block costs) = unchanged n costs b.moves

unfoldable pub changes_nothing : Board → Change → Bool
changes_nothing b (enter n block costs) = false
changes_nothing b (withdraw n) = false
changes_nothing b (recost n block costs) = unchanged n costs b.moves && eqb block (b.blocks n)

-- The list of a board, and the notice of a change: the difference of the lists before and after it.
unfoldable pub list_of : Board → List Move
list_of b = skyline b.dimension b.moves

unfoldable pub change_notice : Board → Change → List Row
change_notice b c = notice_of (list_of b) (list_of (changed b c))

unfoldable pub change_answer : Board → Change → ℕ → Answer
change_answer b c lent = or_else (refused_with (change_refusal b c)) (rows_answer (length (change_notice b c)) lent)

-- The lists, and the hours call (Card 8), "no list of demand 2 and no list call of demand 3".
pub data Query : Type 0 where
  list : Query
  band_query : ℕ → Query
  rank_query : ℕ → Query
  on_k_query : ℕ → Query
  chosen_query : ℕ → Query
  hours_query : ℕ → List Hours → Query

-- "12 for a fifth window, .. (detail: the lowest such block)", whether a move lies there or not.
unfoldable pub hours_refusal : ℕ → List Hours → Answer
hours_refusal block [] = accepted
hours_refusal block (h ∷ hs) = cond (hours_bad h) (record { number = 12; detail = block }) (hours_refusal (suc block) hs)

-- "Band, for b from 0 to 4,095 .. Rank, for t from 1 to 4,096 .. On k, for k from 1 to d .. Chosen costs, a non-empty set
-- of the first d": else 7. Hours: 7 for the minute, then 12.
unfoldable pub query_refusal : Board → Query → Answer
query_refusal b list = accepted
query_refusal b (band_query n) = refused_with (refusal ((not (within 0 4095 n), 7) ∷ []))
query_refusal b (rank_query t) = refused_with (refusal ((not (within 1 4096 t), 7) ∷ []))
query_refusal b (on_k_query k) = refused_with (refusal ((not (within 1 b.dimension k), 7) ∷ []))
query_refusal b (chosen_query set) = refused_with (refusal ((eqb set 0 || leb (2 ^ b.dimension) set, 7) ∷ []))
query_refusal b (hours_query minute hours) =
    or_else (refused_with (refusal ((minute_bad minute, 7) ∷ []))) (hours_refusal 0 (take block_count hours))

unfoldable pub query_rows : Board → Query → List Row
query_rows b list = listed_rows (list_of b)
query_rows b (band_query n) = listed_rows (band b.dimension n b.moves)
query_rows b (rank_query t) = rank b.dimension t b.moves
query_rows b (on_k_query k) = listed_rows (on_k b.dimension k b.moves)
query_rows b (chosen_query set) = listed_rows (chosen (chosen_costs b.dimension set) b.moves)
query_rows b (hours_query minute hours) = listed_rows (skyline b.dimension (open_moves minute hours b.blocks b.moves))

unfoldable pub query_answer : Board → Query → ℕ → Answer
query_answer b q lent = or_else (query_refusal b q) (rows_answer (length (query_rows b q)) lent)
