-- `row::row_of` meets its contract. Assumes nothing.
use Rattle.std.proofs.Common.{rules}
use Rattle.rows.specs.Rows.{move_numbers}
use Rattle.rows.proofs.row.row_of.Goals as goal

pub returns : goal.returns
unfolding move_numbers
returns c = search rules
