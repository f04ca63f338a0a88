-- The nodes of a tree, and those that a list opens.
use Rattle.std.specs.Prelude.{ℕ, zero, suc, Bool, not}
use mathlib.Core.List.{List, [], ◌∷◌, flat_map}
use Rattle.zorder.specs.Between.{near_of, far_of}
use Rattle.model.specs.Basics.{any, count, first_or, last_or}
use Rattle.model.specs.Moves.{Move, no_move}
use Rattle.model.specs.Dominance.{dominates}
use Rattle.model.specs.Tree.{Entry, Tree, empty, rooted, moves_under, moves_of}

-- A node by its first and last move and the moves under it.
pub record Node : Type 0 where
  pub first : Move
  pub last : Move
  pub under : List Move

unfoldable pub node_of : List Move → Node
node_of ms = record { first = first_or no_move ms; last = last_or no_move ms; under = ms }

-- A parent before its children, all in Z-order.
unfoldable pub nodes_from : (h : ℕ) → List (Entry h) → List Node
nodes_from zero ms = node_of (moves_under 1 ms) ∷ []
nodes_from (suc h) es = node_of (moves_under (suc (suc h)) es) ∷ flat_map (nodes_from h) es

unfoldable pub nodes_of : Tree → List Node
nodes_of empty = []
nodes_of (rooted h es) = nodes_from h es

-- The corners of a node's region.
unfoldable pub near_corner_of : ℕ → Node → List ℕ
near_corner_of d n = near_of d n.first.costs n.last.costs

unfoldable pub far_corner_of : ℕ → Node → List ℕ
far_corner_of d n = far_of d n.first.costs n.last.costs

-- "the nodes opened: exactly the nodes whose near corner no move on the board dominates"
unfoldable pub opens : ℕ → List Move → Node → Bool
opens d ms n = not (any (λ m. dominates d m.costs (near_corner_of d n)) ms)

unfoldable pub nodes_opened : ℕ → Tree → ℕ
nodes_opened d t = count (opens d (moves_of t)) (nodes_of t)
