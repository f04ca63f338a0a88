-- What "sound" demands of a board, apart from bytes (document 01, "The tree").
use Rattle.std.specs.Prelude.{ℕ, ◌<◌, true, false, ◌≡◌, map}
use Rattle.zorder.specs.Between.{RowCosts}
use Rattle.zorder.specs.Refusal.{cost_count_bad}
use Rattle.model.specs.Basics.{Each, distinct}
use Rattle.model.specs.Moves.{Move, ordered}
use Rattle.model.specs.Calls.{Board, size_bad, block_bad}

-- "A row is a move number and an array of" eight (Card 13) "costs, each 0 to 65,535; costs past d are zero. Numbers run from 0
-- to C−1."
pub record Fit (c d : ℕ) (m : Move) : Type 0 where
  pub number : m.number < c
  pub costs : RowCosts d m.costs

-- "a block, 0 to 63" (Card 8), of each move on the board.
abbrev pub BlocksFit : Board → Type 0
BlocksFit b = Each (λ m. block_bad (b.blocks m.number) ≡ false) b.moves

-- ".. each on the board at most once."
pub record SoundBoard (b : Board) : Type 0 where
  pub size : size_bad b.size ≡ false
  pub dimension : cost_count_bad b.dimension ≡ false
  pub fit : Each (Fit b.size b.dimension) b.moves
  pub once : distinct (map (λ m. m.number) b.moves) ≡ true
  pub blocks : BlocksFit b
  pub order : ordered b.dimension b.moves ≡ true
