-- Dominance: Definitions 1, 5 and 7 of Z-SKY, in document 01's words ("Less is better"), and what keeps a move out of the list.
use Rattle.std.specs.Prelude.{ℕ, Bool, true, false, not, ◌&&◌, ◌||◌, List, [], ◌∷◌, map, ltb, take, get_or}
use Rattle.model.specs.Basics.{any, parts, numbers_from, equal}
use Rattle.model.specs.Moves.{Move}

-- The comparison of two costs.
unfoldable pub less : ℕ → ℕ → Bool
less a b = ltb a b

unfoldable pub nowhere_greater : List ℕ → List ℕ → Bool
nowhere_greater [] qs = true
nowhere_greater (p ∷ ps) [] = true
nowhere_greater (p ∷ ps) (q ∷ qs) = not (less q p) && nowhere_greater ps qs

unfoldable pub somewhere_less : List ℕ → List ℕ → Bool
somewhere_less [] qs = false
somewhere_less (p ∷ ps) [] = false
somewhere_less (p ∷ ps) (q ∷ qs) = less p q || somewhere_less ps qs

-- "p dominates q if p is nowhere greater and somewhere less", on the costs given.
unfoldable pub better : List ℕ → List ℕ → Bool
better p q = nowhere_greater p q && somewhere_less p q

-- Definition 1, on the first d costs of two rows.
unfoldable pub dominates : ℕ → List ℕ → List ℕ → Bool
dominates d p q = better (take d p) (take d q)

-- The costs at the places of a set, and Definition 7: dominance on them.
unfoldable pub at : List ℕ → List ℕ → List ℕ
at s p = map (λ i. get_or p i 0) s

unfoldable pub dominates_at : List ℕ → List ℕ → List ℕ → Bool
dominates_at s p q = better (at s p) (at s q)

-- Definition 5: dominance on some k of the first d costs.
unfoldable pub dominates_on : ℕ → ℕ → List ℕ → List ℕ → Bool
dominates_on d k p q = any (λ s. dominates_at s p q) (parts k (numbers_from 0 d))

-- Card 4's twins: equal costs, the first d as in Definition 1.
unfoldable pub equal_costs : ℕ → List ℕ → List ℕ → Bool
equal_costs d p q = equal (take d p) (take d q)

unfoldable pub lower_twin : ℕ → Move → Move → Bool
lower_twin d m n = equal_costs d m.costs n.costs && ltb m.number n.number

-- Document 02, Card 4: "A move is hidden if another dominates it or if one with equal costs has a lower number."
unfoldable pub hides : ℕ → Move → Move → Bool
hides d m n = dominates d m.costs n.costs || lower_twin d m n
