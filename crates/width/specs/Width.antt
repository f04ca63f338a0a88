-- The same board with other costs in its rows: g gives the costs of a row. With the first four of them, boards are as rows of
-- four costs hold them (Card 13: "Boards of d up to 4 give the same lists, notices and counts as before").
use Rattle.std.specs.Prelude.{ℕ, zero, suc, ◌-◌, List, ◌++◌, map, take, replicate}
use Rattle.zorder.specs.Address.{row_costs}
use Rattle.model.specs.Moves.{Move, InputRow, Row}
use Rattle.model.specs.Tree.{Entry, Tree, empty, rooted}
use Rattle.model.specs.Hours.{Hours}
use Rattle.model.specs.Calls as calls
use Rattle.model.specs.Calls.{Board, Query, Change, enter, withdraw, recost}

-- The lists that the laws are of. One that comes later is not among them.
pub data Covered : Type 0 where
  list : Covered
  band_query : ℕ → Covered
  rank_query : ℕ → Covered
  on_k_query : ℕ → Covered
  chosen_query : ℕ → Covered
  hours_query : ℕ → List Hours → Covered

unfoldable pub query_of : Covered → Query
query_of list = calls.list
query_of (band_query b) = calls.band_query b
query_of (rank_query t) = calls.rank_query t
query_of (on_k_query k) = calls.on_k_query k
query_of (chosen_query set) = calls.chosen_query set
query_of (hours_query minute hours) = calls.hours_query minute hours

-- The first n costs of a row.
abbrev pub narrow : ℕ → List ℕ → List ℕ
narrow n cs = take n cs

-- A row of n costs with zeros behind.
abbrev pub widened : ℕ → List ℕ → List ℕ
widened n cs = cs ++ replicate (row_costs - n) 0

module _ (g : List ℕ → List ℕ) where
  abbrev pub move_with : Move → Move
  move_with m = record { number = m.number; costs = g m.costs }

  abbrev pub input_with : InputRow → InputRow
  input_with r = record { number = r.number; block = r.block; costs = g r.costs }

  abbrev pub row_with : Row → Row
  row_with r = record { mark = r.mark; number = r.number; costs = g r.costs }

  abbrev pub board_with : Board → Board
  board_with b = record { size = b.size; dimension = b.dimension; moves = map move_with b.moves; blocks = b.blocks }

  unfoldable pub change_with : Change → Change
  change_with (enter n block costs) = enter n block (g costs)
  change_with (withdraw n) = withdraw n
  change_with (recost n block costs) = recost n block (g costs)

  unfoldable pub entry_with : (h : ℕ) → Entry h → Entry h
  entry_with zero m = move_with m
  entry_with (suc h) es = map (entry_with h) es

  unfoldable pub tree_with : Tree → Tree
  tree_with empty = empty
  tree_with (rooted h es) = rooted h (map (entry_with h) es)
