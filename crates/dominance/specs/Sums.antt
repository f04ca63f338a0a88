-- A sum over the comparison of two costs.
use Rattle.std.specs.Prelude.{ℕ, ◌+◌, cond, List, [], ◌∷◌}
use Rattle.model.specs.Dominance.{less}

-- At how many places the first list has the lesser cost.
unfoldable pub count_less : List ℕ → List ℕ → ℕ
count_less [] qs = 0
count_less (p ∷ ps) [] = 0
count_less (p ∷ ps) (q ∷ qs) = cond (less p q) 1 0 + count_less ps qs
