-- Entering a move: its place and height, then the nodes of nine split from the leaf up.
use Rattle.std.specs.Prelude.{ℕ, zero, suc, ◌+◌, ◌-◌, Bool, true, false, cond, List, [], ◌∷◌, ltb, eqb}
use Rattle.zorder.specs.Between.{side_of}
use Rattle.model.specs.Moves.{Move, move_before}
use Rattle.model.specs.Entering.{least_by}
use Rattle.line.specs.Line.{Placed}
use Rattle.line.specs.Places.{move_at, height_at, node_start, node_end, entries, entry_at, side_at, set_height, insert_at}

-- The place of a new move: how many stand before it.
unfoldable pub place_for : ℕ → Move → List Placed → ℕ
place_for d x [] = 0
place_for d x (r ∷ rs) = cond (move_before d r.move x) (suc (place_for d x rs)) 0

-- In the gap before place p, whose move starts nodes up to level k: whether the later neighbour gets the lesser side.
unfoldable pub later_in_gap : ℕ → Move → ℕ → List Placed → Bool
later_in_gap d x p rs =
    let k = height_at rs p in
    ltb (side_of d x.costs (move_at rs (node_end k p rs - 1)).costs) (side_of d (move_at rs (node_start k (p - 1) rs)).costs x.costs)

-- Whether the new move becomes the first of the nodes that start at place p.
unfoldable pub takes_over : ℕ → Move → ℕ → List Placed → Bool
takes_over d x p rs =
    cond (eqb p 0) true
    (cond (eqb (height_at rs p) 0) false (later_in_gap d x p rs))

unfoldable pub placed : ℕ → Move → ℕ → List Placed → List Placed
placed d x p rs =
    cond (takes_over d x p rs)
    (insert_at p (record { move = x; height = height_at rs p }) (set_height p 0 rs))
    (insert_at p (record { move = x; height = 0 }) rs)

-- The sum of the two sides if the node at level l from s to e is cut before its entry j.
unfoldable pub cut_sides : ℕ → ℕ → ℕ → ℕ → List Placed → ℕ → ℕ
cut_sides d l s e rs j =
    let q = entry_at (l - 1) s j rs in
    side_at d s (q - 1) rs + side_at d q (e - 1) rs

unfoldable pub cut_entry : ℕ → ℕ → ℕ → ℕ → List Placed → ℕ
cut_entry d l s e rs = least_by (cut_sides d l s e rs) 3 (4 ∷ 5 ∷ 6 ∷ [])

-- The node at level l that holds place p, cut in two; a root gets a new root.
unfoldable pub split_at : ℕ → ℕ → ℕ → List Placed → List Placed
split_at d l p rs =
    let s = node_start l p rs in
    let e = node_end l p rs in
    let cut = set_height (entry_at (l - 1) s (cut_entry d l s e rs) rs) l rs in
    cond (eqb (height_at rs 0) l) (set_height 0 (suc l) cut) cut

-- From level l up, while the node that holds place p has nine entries.
unfoldable pub cascade : ℕ → ℕ → ℕ → ℕ → List Placed → List Placed
cascade d zero l p rs = rs
cascade d (suc f) l p rs =
    elim (ltb 8 (entries (l - 1) (node_start l p rs) (node_end l p rs) rs))
    [ true ↦ cascade d f (suc l) p (split_at d l p rs) | false ↦ rs ]

unfoldable pub flat_enter : ℕ → Move → List Placed → List Placed
flat_enter d x [] = record { move = x; height = 1 } ∷ []
flat_enter d x (r ∷ rs) =
    let p = place_for d x (r ∷ rs) in
    cascade d (suc r.height) 1 p (placed d x p (r ∷ rs))
