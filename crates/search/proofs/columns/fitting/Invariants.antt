-- `columns::fitting` meets its contract. The loop's invariant: the columns passed are counted. Assumes nothing.
use mathlib.Core.Path.{◌≡◌}
use Rattle.search.specs.Columns.{count_to, column_fits}
use Rattle.search.proofs.columns.fitting.Given as goal

abbrev pub invariant-loop-j : goal.invariant-loop-j
invariant-loop-j l = l.fitting ≡ count_to (column_fits l.w l.columns l.q) l.j
