-- A row that a call tells, as numbers: mark, number, costs.
use Rattle.std.specs.Prelude.{ℕ, List, ◌∷◌}
use Rattle.model.specs.Moves.{Move}
use Rattle.rows.specs.declared.row.Row.{Row}

unfoldable pub row_numbers : Row → List ℕ
row_numbers r = r.mark ∷ r.number ∷ r.costs

-- The row of a move under a mark.
unfoldable pub move_numbers : ℕ → Move → List ℕ
move_numbers mark x = mark ∷ x.number ∷ x.costs
