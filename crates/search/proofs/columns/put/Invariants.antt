-- `columns::put` meets its contract. The loop's invariant: the costs passed stand in the column. Assumes nothing.
use Rattle.search.specs.Laws.Columns.{PutTo}
use Rattle.search.proofs.columns.put.Given as goal

abbrev pub invariant-loop-k : goal.invariant-loop-k
invariant-loop-k l = PutTo l.initial.cells l.at l.costs l.k l.cells
