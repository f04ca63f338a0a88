-- `columns::fill` meets its contract. The loop's invariant: the columns passed are the row. Assumes nothing.
use Prim.Native.Nat.{ℕ, ◌<◌}
use Rattle.search.specs.Columns.{Column}
use Rattle.search.proofs.columns.fill.Given as goal

abbrev pub invariant-loop-at : goal.invariant-loop-at
invariant-loop-at l = (t : ℕ) → t < l.at → Column l.columns t l.costs
