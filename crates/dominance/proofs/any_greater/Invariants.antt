-- `any_greater` meets its contract. The loop's invariant: the or is 0 exactly if the sum over the costs passed is. Assumes nothing.
use Rattle.zorder.specs.Address.{row_costs}
use Rattle.dominance.specs.Laws.Sums.{OrTo}
use Rattle.dominance.specs.Laws.Tests.{factor_of, factor-small}
use Rattle.dominance.proofs.any_greater.Given as goal

abbrev pub invariant-loop-i : goal.invariant-loop-i
invariant-loop-i g l = OrTo (factor_of g.test) (factor-small g.test) l.q l.p row_costs l.i l.greater
