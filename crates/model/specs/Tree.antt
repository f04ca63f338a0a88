-- The tree (document 01, "The tree"): a nest of lists, so that all leaves lie equally deep.
use Rattle.std.specs.Prelude.{ℕ, zero, suc, Bool, true, ◌&&◌, length}
use mathlib.Core.List.{List, [], ◌∷◌, flat_map}
use Rattle.zorder.specs.Between.{side_of}
use Rattle.model.specs.Basics.{all, within, first_or, last_or}
use Rattle.model.specs.Moves.{Move, no_move, ordered}

-- What a node h levels above the leaves holds: "Leaves hold moves, upper nodes hold nodes." A node of that level is a
-- `List (Entry h)`, and itself an `Entry (suc h)`.
abbrev pub Entry : ℕ → Type 0
Entry zero = Move
Entry (suc h) = List (Entry h)

-- "An empty board has no node." Otherwise the root, h levels above the leaves.
pub data Tree : Type 0 where
  empty : Tree
  rooted : (h : ℕ) → List (Entry h) → Tree

unfoldable pub moves_under : (h : ℕ) → Entry h → List Move
moves_under zero m = m ∷ []
moves_under (suc h) es = flat_map (moves_under h) es

unfoldable pub moves_of : Tree → List Move
moves_of empty = []
moves_of (rooted h es) = moves_under (suc h) es

unfoldable pub first_move : (h : ℕ) → Entry h → Move
first_move h e = first_or no_move (moves_under h e)

unfoldable pub last_move : (h : ℕ) → Entry h → Move
last_move h e = last_or no_move (moves_under h e)

-- "A node's region is that of its least and greatest address": its side.
unfoldable pub node_side : ℕ → (h : ℕ) → List (Entry h) → ℕ
node_side d h es = side_of d (first_move (suc h) es).costs (last_move (suc h) es).costs

-- "A node holds 3 to 8 entries": so an entry below the root, with all that lies under it ..
unfoldable pub filled : (h : ℕ) → Entry h → Bool
filled zero m = true
filled (suc h) es = within 3 8 (length es) && all (filled h) es

-- .. "but a root leaf holds 1 to 8 and an upper root 2 to 8."
unfoldable pub root_least : ℕ → ℕ
root_least zero = 1
root_least (suc h) = 2

unfoldable pub filled_tree : Tree → Bool
filled_tree empty = true
filled_tree (rooted h es) = within (root_least h) 8 (length es) && all (filled h) es

-- A tree that keeps the rules: entries in number, moves "all in Z-order".
unfoldable pub ruled : ℕ → Tree → Bool
ruled d t = filled_tree t && ordered d (moves_of t)
