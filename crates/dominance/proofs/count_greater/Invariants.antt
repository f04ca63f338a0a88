-- `count_greater` meets its contract. The loop's invariant: the costs passed are summed up. Assumes nothing.
use Rattle.zorder.specs.Address.{row_costs}
use Rattle.dominance.specs.Laws.Sums.{SumTo, first_of, first_small}
use Rattle.dominance.proofs.count_greater.Given as goal

abbrev pub invariant-loop-i : goal.invariant-loop-i
invariant-loop-i l = SumTo (first_of l.d) (first_small l.d) l.q l.p row_costs l.i l.greater
