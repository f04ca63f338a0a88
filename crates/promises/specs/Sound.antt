-- "The memory is sound if it is at least 64·C + 1,024 bytes long for a C and d in range and holds such a tree, freed nodes
-- reusable, and a kept list equal to Definition 2's", with Card 4's rule; and the block of each move on the board is one of 0 to
-- 63 (Card 8). No node is stored, so none has to be freed (docs/DECISIONS.md). Bytes of another layout would be read wrongly, so
-- the format is asked as well.
use Rattle.std.specs.Prelude.{ℕ, ◌<◌, ◌≤◌, true, false, List, ◌≡◌, length}
use Rattle.zorder.specs.Refusal.{cost_count_bad}
use Rattle.model.specs.Basics.{Each}
use Rattle.model.specs.Lists.{skyline}
use Rattle.model.specs.Tree.{Tree, moves_of, ruled}
use Rattle.model.specs.Calls.{Board, size_bad, memory_need}
use Rattle.model.specs.Sound.{BlocksFit}
use Rattle.line.specs.Line.{line_of}
use Rattle.promises.specs.Layout.{size_in, dimension_in, format_in, format_number, count_in, line_in, board_in, kept_in}

-- A tree that keeps document 01's rules stands in the memory.
pub record Stands (m : List ℕ) (t : Tree) : Type 0 where
  pub size : size_bad (size_in m) ≡ false
  pub dimension : cost_count_bad (dimension_in m) ≡ false
  pub format : format_in m ≡ format_number
  pub room : memory_need (size_in m) ≤ length m
  pub count : count_in m ≤ size_in m
  pub numbers : Each (λ r. r.move.number < size_in m) (line_in m)
  pub line : line_in m ≡ line_of t
  pub rules : ruled (dimension_in m) t ≡ true
  pub kept : kept_in m ≡ skyline (dimension_in m) (moves_of t)

pub record Sound (m : List ℕ) : Type 0 where
  pub tree : Tree
  pub stands : Stands m tree
  pub blocks : BlocksFit (board_in m)

-- The memory is sound and holds this board and this tree.
pub record Holding (m : List ℕ) (b : Board) (t : Tree) : Type 0 where
  pub stands : Stands m t
  pub board : board_in m ≡ b
  pub blocks : BlocksFit b
