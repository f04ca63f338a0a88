-- `by_cost` meets its contract. The loop's invariant: the places before i are filled. Assumes nothing.
use lib.ListN.{get_or}
use Rattle.dominance.specs.Laws.Lanes.{FilledTo}
use Rattle.dominance.proofs.by_cost.Given as goal

abbrev pub invariant-loop-i : goal.invariant-loop-i
invariant-loop-i g l = FilledTo (λ i. g.made (get_or l.p i 0) (get_or l.q i 0)) l.i l.row
