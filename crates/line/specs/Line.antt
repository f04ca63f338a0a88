-- The line of a tree: its moves in Z-order, each with its height, the number of levels at which it is the first move of its
-- node. Level 1 is the leaves. (The heights are those of a deterministic skip list.)
use Rattle.std.specs.Prelude.{ℕ, zero, suc}
use mathlib.Core.List.{List, [], ◌∷◌, ◌++◌, map, flat_map}
use Rattle.model.specs.Moves.{Move, no_move}
use Rattle.model.specs.Tree.{Entry, Tree, empty, rooted}

pub record Placed : Type 0 where
  pub move : Move
  pub height : ℕ

-- Stands where a line has ended.
abbrev pub none : Placed
none = record { move = no_move; height = 0 }

-- The line of what stands h levels above the moves, its first move of height k: the other entries of a node begin at their
-- own level.
unfoldable pub line_at : (h k : ℕ) → Entry h → List Placed
line_at zero k m = record { move = m; height = k } ∷ []
line_at (suc h) k [] = []
line_at (suc h) k (e ∷ es) = line_at h k e ++ flat_map (line_at h h) es

unfoldable pub line_of : Tree → List Placed
line_of empty = []
line_of (rooted h es) = line_at (suc h) (suc h) es

unfoldable pub moves_in : List Placed → List Move
moves_in rs = map (λ r. r.move) rs

unfoldable pub heights_in : List Placed → List ℕ
heights_in rs = map (λ r. r.height) rs
