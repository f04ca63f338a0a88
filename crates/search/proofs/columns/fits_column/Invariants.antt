-- `columns::fits_column` meets its contract. The loop's invariant: no cost passed is greater exactly if the or is 0. Assumes nothing.
use mathlib.Core.Path.{◌≡◌}
use lib.Dec.{eqb}
use Rattle.search.specs.Columns.{column_fits}
use Rattle.search.proofs.columns.fits_column.Given as goal

abbrev pub invariant-loop-k : goal.invariant-loop-k
invariant-loop-k l = eqb l.worse 0 ≡ column_fits l.k l.columns l.q l.j
