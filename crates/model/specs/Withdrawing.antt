-- Withdrawing and re-costing (document 01, "The tree").
use Rattle.std.specs.Prelude.{ℕ, zero, suc, Bool, cond, not, List, [], ◌∷◌, ◌++◌, ltb, eqb, length}
use Rattle.model.specs.Basics.{select, equal}
use Rattle.model.specs.Moves.{Move, in_z_order}
use Rattle.model.specs.Tree.{Entry, Tree, empty, rooted, moves_under, moves_of}
use Rattle.model.specs.Entering.{enter_tree}

unfoldable pub without : ℕ → List Move → List Move
without n ms = select (λ m. not (eqb m.number n)) ms

-- What is left of a node that a move was taken out of, and the moves under nodes that were removed.
pub record Remainder (h : ℕ) : Type 0 where
  pub entries : List (Entry h)
  pub moves : List Move

-- "a node other than the root with fewer than 3 entries is removed": one child of a node, put before what is left of the
-- others.
unfoldable pub keep_child : (h : ℕ) → Remainder h → Remainder (suc h) → Remainder (suc h)
keep_child h c rest =
    cond (ltb (length c.entries) 3)
    (record { entries = rest.entries; moves = moves_under (suc h) c.entries ++ c.moves ++ rest.moves })
    (record { entries = c.entries ∷ rest.entries; moves = c.moves ++ rest.moves })

unfoldable pub keep_children : (h : ℕ) → (List (Entry h) → Remainder h) → List (List (Entry h)) → Remainder (suc h)
keep_children h f [] = record { entries = []; moves = [] }
keep_children h f (c ∷ cs) = keep_child h (f c) (keep_children h f cs)

-- ".. then its parent is looked at likewise": from the leaves up.
unfoldable pub withdraw_node : ℕ → (h : ℕ) → List (Entry h) → Remainder h
withdraw_node n zero ms = record { entries = without n ms; moves = [] }
withdraw_node n (suc h) es = keep_children h (withdraw_node n h) es

-- "An upper root left with one child gives way to it, repeatedly."
unfoldable pub settled : (h : ℕ) → List (Entry h) → Tree
settled zero [] = empty
settled zero (m ∷ ms) = rooted zero (m ∷ ms)
settled (suc h) [] = empty
settled (suc h) (c ∷ []) = settled h c
settled (suc h) (c ∷ e ∷ es) = rooted (suc h) (c ∷ e ∷ es)

unfoldable pub enter_all : ℕ → List Move → Tree → Tree
enter_all d [] t = t
enter_all d (m ∷ ms) t = enter_all d ms (enter_tree d m t)

-- "All moves under removed nodes are then entered again in Z-order."
unfoldable pub withdraw_tree : ℕ → ℕ → Tree → Tree
withdraw_tree d n empty = empty
withdraw_tree d n (rooted h es) =
    let l = withdraw_node n h es in
    enter_all d (in_z_order d l.moves) (settled h l.entries)

-- The costs of the move of that number.
unfoldable pub costs_on : ℕ → List Move → List ℕ
costs_on n [] = []
costs_on n (m ∷ ms) = cond (eqb m.number n) m.costs (costs_on n ms)

-- When a re-cost changes nothing: "unless the costs are equal".
unfoldable pub unchanged : ℕ → List ℕ → List Move → Bool
unchanged n costs ms = equal costs (costs_on n ms)

-- "Re-costing: withdraw, then enter, unless the costs are equal, which changes nothing."
unfoldable pub recost_tree : ℕ → Move → Tree → Tree
recost_tree d x t = cond (unchanged x.number x.costs (moves_of t)) t (enter_tree d x (withdraw_tree d x.number t))
