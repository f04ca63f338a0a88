-- Nodes and entries by places of a line. The node at level l that starts at a place ends at the next place with height l or
-- more; its entries start at its places with height l-1 or more.
use Rattle.std.specs.Prelude.{ℕ, zero, suc, ◌+◌, ◌-◌, cond, List, [], ◌∷◌, ◌++◌, leb}
use lib.ListN.{take, drop, get_or}
use Rattle.zorder.specs.Between.{side_of}
use Rattle.model.specs.Basics.{count}
use Rattle.model.specs.Moves.{Move}
use Rattle.line.specs.Line.{Placed, none, heights_in}

-- ---- from heights alone

-- How many stand before the first that is l or more.
unfoldable pub lower_among : ℕ → List ℕ → ℕ
lower_among l [] = 0
lower_among l (k ∷ ks) = cond (leb l k) 0 (suc (lower_among l ks))

-- Where the node at level l that holds place p starts, and ends.
unfoldable pub start_among : ℕ → ℕ → List ℕ → ℕ
start_among l zero ks = 0
start_among l (suc p) ks = cond (leb l (get_or ks (suc p) 0)) (suc p) (start_among l p ks)

unfoldable pub end_among : ℕ → ℕ → List ℕ → ℕ
end_among l p ks = suc p + lower_among l (drop (suc p) ks)

-- How many entries of level l start from place s up to place e.
unfoldable pub entries_among : ℕ → ℕ → ℕ → List ℕ → ℕ
entries_among l s e ks = count (leb l) (take (e - s) (drop s ks))

-- Where the entry j of level l, counted from place s on from 0, starts.
unfoldable pub entry_among : ℕ → ℕ → ℕ → List ℕ → ℕ
entry_among l s zero ks = s
entry_among l s (suc j) ks = end_among l (entry_among l s j ks) ks

-- ---- of a line

unfoldable pub move_at : List Placed → ℕ → Move
move_at rs i = (get_or rs i none).move

unfoldable pub height_at : List Placed → ℕ → ℕ
height_at rs i = (get_or rs i none).height

-- Nodes and entries, by its heights.

abbrev pub lower : ℕ → List Placed → ℕ
lower l rs = lower_among l (heights_in rs)

abbrev pub node_start : ℕ → ℕ → List Placed → ℕ
node_start l p rs = start_among l p (heights_in rs)

abbrev pub node_end : ℕ → ℕ → List Placed → ℕ
node_end l p rs = end_among l p (heights_in rs)

abbrev pub entries : ℕ → ℕ → ℕ → List Placed → ℕ
entries l s e rs = entries_among l s e (heights_in rs)

abbrev pub entry_at : ℕ → ℕ → ℕ → List Placed → ℕ
entry_at l s j rs = entry_among l s j (heights_in rs)

-- The side of the region from place i to place j.
unfoldable pub side_at : ℕ → ℕ → ℕ → List Placed → ℕ
side_at d i j rs = side_of d (move_at rs i).costs (move_at rs j).costs

unfoldable pub set_height : ℕ → ℕ → List Placed → List Placed
set_height i k rs = lib.ListN.set rs i (record { move = move_at rs i; height = k })

unfoldable pub insert_at : ℕ → Placed → List Placed → List Placed
insert_at p r rs = take p rs ++ r ∷ drop p rs

-- The rows before the next one that starts an entry of level l.
unfoldable pub tail_of : ℕ → List Placed → List Placed
tail_of l [] = []
tail_of l (r ∷ rs) = cond (leb l r.height) [] (r ∷ tail_of l rs)
