-- What the search through the nodes computes. `goes` is the place of a move that goes, or past the last where none does.
use Rattle.std.specs.Prelude.{ℕ, ◌+◌, ◌-◌, ◌<◌, ◌≤◌, Bool, false, not, ◌&&◌, ◌||◌, ◌≡◌, eqb, leb, take}
use mathlib.Core.List.{List, Memᴰ}
use Rattle.zorder.specs.Between.{near_of, far_of}
use Rattle.model.specs.Dominance.{nowhere_greater, dominates}
use Rattle.model.specs.Tree.{Tree}
use Rattle.model.specs.Nodes.{Node, near_corner_of, far_corner_of, nodes_opened}
use Rattle.model.specs.Runs.{NodeIn}
use Rattle.line.specs.Line.{Placed, moves_in}
use Rattle.line.specs.Places.{move_at}
use Rattle.line.specs.Search.{opened_past}
use Rattle.promises.specs.Layout.{height_in, move_in, line_from}
use Rattle.promises.specs.Sound.{Stands}
use Rattle.memory.specs.Tests.{any_to, is_listed}
use Rattle.nodes.specs.declared.nodes.Leaf.{Leaf}
use Rattle.memory.specs.declared.head.Head.{Head}
pub use Rattle.memory.specs.Held.{SoundAt, SoundRows}

-- Whether the move at place j is listed, is not the going one, and dominates a corner.
abbrev pub dominates_corner : ℕ → ℕ → ℕ → List ℕ → List ℕ → ℕ → Bool
dominates_corner c d goes m corner j = is_listed c m j && (not (eqb j goes) && dominates d (move_in c d m j).costs corner)

-- Whether such a move stands at a place below n.
unfoldable pub corner_dominated : ℕ → ℕ → ℕ → ℕ → List ℕ → List ℕ → Bool
corner_dominated c d goes n m corner = any_to (dominates_corner c d goes m corner) n

-- Whether the going move, if one goes, is nowhere greater than a corner.
unfoldable pub goes_within : ℕ → ℕ → ℕ → ℕ → List ℕ → List ℕ → Bool
goes_within c d goes n m corner = leb n goes || nowhere_greater (take d (move_in c d m goes).costs) (take d corner)

-- A corner of the node from place i up to place e.
unfoldable pub corner_at : (ℕ → List ℕ → List ℕ → List ℕ) → ℕ → ℕ → List ℕ → ℕ → ℕ → List ℕ
corner_at corner c d m i e = corner d (move_in c d m i).costs (move_in c d m (e - 1)).costs

-- Whether the search opens that node: only places before it are asked.
unfoldable pub opens_places : ℕ → ℕ → ℕ → ℕ → List ℕ → ℕ → ℕ → Bool
opens_places c d goes n m i e =
    goes_within c d goes n m (corner_at far_of c d m i e) && not (corner_dominated c d goes i m (corner_at near_of c d m i e))

-- Whether it opens a node of the tree.
unfoldable pub opens_at : ℕ → ℕ → ℕ → ℕ → List ℕ → Node → Bool
opens_at c d goes n m z =
    goes_within c d goes n m (far_corner_of d z) && not (corner_dominated c d goes n m (near_corner_of d z))

pub record LevelAt (c n : ℕ) (m : List ℕ) (i r : ℕ) : Type 0 where
  pub inside : i < n → r ≡ height_in c m i
  pub outside : n ≤ i → r ≡ 0

-- A node starts at place i, or it is past the last.
pub record NodesFrom (c n : ℕ) (m : List ℕ) (i : ℕ) : Type 0 where
  pub within : i ≤ n
  pub starts : i < n → 0 < height_in c m i

-- The move at place j lies under a node that is not opened.
pub record Passed (opens : Node → Bool) (rs : List Placed) (j : ℕ) : Type 0 where
  pub node : Node
  pub within : NodeIn (moves_in rs) node
  pub under : Memᴰ (move_at rs j) node.under
  pub unopened : opens node ≡ false

-- The next leaf that is opened from place i on: the places up to it lie under nodes that are not opened, and the nodes opened on
-- the way and those that are opened past it are all.
pub record NextLeaf (opens : Node → Bool) (rs : List Placed) (n i : ℕ) (r : Leaf) : Type 0 where
  pub from : i ≤ r.start
  pub order : r.start ≤ r.end
  pub further : i < n → i < r.end
  pub total : opened_past opens rs i ≡ r.opened + opened_past opens rs r.end
  pub passed : (j : ℕ) → i ≤ j → j < r.start → Passed opens rs j

pub record LeafRows (c d goes n : ℕ) (m : List ℕ) (i : ℕ) (r : Leaf) : Type 0 where
  pub next : NextLeaf (opens_at c d goes n m) (line_from c d n m) n i r
  pub after : NodesFrom c n m r.end

abbrev pub LeafFrom : Head → ℕ → List ℕ → ℕ → Leaf → Type 0
LeafFrom h goes = LeafRows h.size h.dimension goes h.count

pub record Opened (d : ℕ) (m : List ℕ) (r : ℕ) : Type 0 where
  pub is : (t : Tree) → Stands m t → r ≡ nodes_opened d t
