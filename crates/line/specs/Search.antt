-- The nodes of a line, and those that a search still has before it.
use Rattle.std.specs.Prelude.{ℕ, zero, suc, Bool, List, [], ◌∷◌, ◌++◌, drop, get_or}
use Rattle.model.specs.Basics.{count}
use Rattle.model.specs.Nodes.{Node, node_of}
use Rattle.line.specs.Line.{Placed, none, moves_in}
use Rattle.line.specs.Places.{height_at, tail_of}

-- The node at level l that starts with row r: its moves stand before the next row with height l or more.
unfoldable pub node_at : ℕ → Placed → List Placed → Node
node_at l r rs = node_of (moves_in (r ∷ tail_of l rs))

-- The nodes at levels l down to 1 that start with row r.
unfoldable pub nodes_at : ℕ → Placed → List Placed → List Node
nodes_at zero r rs = []
nodes_at (suc l) r rs = node_at (suc l) r rs ∷ nodes_at l r rs

-- All nodes: row by row, the highest first.
unfoldable pub nodes_in : List Placed → List Node
nodes_in [] = []
nodes_in (r ∷ rs) = nodes_at r.height r rs ++ nodes_in rs

-- Those that are left when a search stands at level l of the first row.
unfoldable pub nodes_left : ℕ → List Placed → List Node
nodes_left l [] = []
nodes_left l (r ∷ rs) = nodes_at l r rs ++ nodes_in rs

-- By places: the node at level l that starts at place i.
abbrev pub node_from : List Placed → ℕ → ℕ → Node
node_from rs i l = node_at l (get_or rs i none) (drop (suc i) rs)

-- How many nodes a search opens from level l of place i on, and from all of place i on: those that pass a test.
unfoldable pub opened_from : (Node → Bool) → List Placed → ℕ → ℕ → ℕ
opened_from opens rs i l = count opens (nodes_left l (drop i rs))

abbrev pub opened_past : (Node → Bool) → List Placed → ℕ → ℕ
opened_past opens rs i = opened_from opens rs i (height_at rs i)
