-- Entering: "go down into the child whose span, first move to last in Z-order, holds the new one; .."
use Rattle.std.specs.Prelude.{ℕ, zero, suc, ◌+◌, Bool, true, false, cond, List, [], ◌∷◌, ◌++◌, ltb, leb, length, take, drop}
use Rattle.zorder.specs.Between.{side_of}
use Rattle.model.specs.Moves.{Move, move_before, insert}
use Rattle.model.specs.Tree.{Entry, Tree, empty, rooted, first_move, last_move, node_side}

-- ".. in a gap, the neighbour whose region after entering has the lesser side, the earlier on a tie."
unfoldable pub earlier_in_gap : ℕ → (h : ℕ) → Move → Entry h → Entry h → Bool
earlier_in_gap d h x e f =
    leb (side_of d (first_move h e).costs x.costs) (side_of d x.costs (last_move h f).costs)

-- Whether to go down into e and not into f, which stands next: x comes before f, and lies in e's span or before it, or in
-- the gap between the two with e the one to take.
unfoldable pub goes_into : ℕ → (h : ℕ) → Move → Entry h → Entry h → Bool
goes_into d h x e f =
    cond (move_before d x (first_move h f))
    (cond (move_before d (last_move h e) x) (earlier_in_gap d h x e f) true)
    false

-- The child to go down into, by its place: "before the first child, the first; past the last, the last".
unfoldable pub child_place : ℕ → (h : ℕ) → Move → List (Entry h) → ℕ
child_place d h x [] = 0
child_place d h x (e ∷ []) = 0
child_place d h x (e ∷ f ∷ fs) = cond (goes_into d h x e f) 0 (suc (child_place d h x (f ∷ fs)))

-- "A node of nine splits 3+6, 4+5, 5+4 or 6+3: least sum of the two sides, then least left part."
unfoldable pub sides_at : ℕ → (h : ℕ) → List (Entry h) → ℕ → ℕ
sides_at d h es k = node_side d h (take k es) + node_side d h (drop k es)

unfoldable pub least_by : (ℕ → ℕ) → ℕ → List ℕ → ℕ
least_by f k [] = k
least_by f k (j ∷ js) = least_by f (cond (ltb (f j) (f k)) j k) js

unfoldable pub left_part : ℕ → (h : ℕ) → List (Entry h) → ℕ
left_part d h es = least_by (sides_at d h es) 3 (4 ∷ 5 ∷ 6 ∷ [])

unfoldable pub split : ℕ → (h : ℕ) → List (Entry h) → List (List (Entry h))
split d h es = cond (ltb 8 (length es)) (take (left_part d h es) es ∷ drop (left_part d h es) es ∷ []) (es ∷ [])

module _ {A : Type 0} where
  -- The entry at a place gives way to the entries that f makes of it.
  unfoldable pub replace_at : ℕ → (A → List A) → List A → List A
  replace_at i f [] = []
  replace_at zero f (x ∷ xs) = f x ++ xs
  replace_at (suc i) f (x ∷ xs) = x ∷ replace_at i f xs

-- A node with the new move entered: it may now hold nine.
unfoldable pub enter_node : ℕ → (h : ℕ) → Move → List (Entry h) → List (Entry h)
enter_node d zero x ms = insert d x ms
enter_node d (suc h) x es = replace_at (child_place d (suc h) x es) (λ c. split d h (enter_node d h x c)) es

-- "A root that splits gets a new root."
unfoldable pub root_of : (h : ℕ) → List (List (Entry h)) → Tree
root_of h [] = empty
root_of h (es ∷ []) = rooted h es
root_of h (es ∷ fs ∷ rest) = rooted (suc h) (es ∷ fs ∷ rest)

-- "the first move of an empty board makes a root leaf"
unfoldable pub enter_tree : ℕ → Move → Tree → Tree
enter_tree d x empty = rooted 0 (x ∷ [])
enter_tree d x (rooted h es) = root_of h (split d h (enter_node d h x es))
