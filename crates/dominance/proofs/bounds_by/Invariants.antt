-- `bounds_by` meets its contract. The loop's invariant: the places before i are filled. Assumes nothing.
use Rattle.dominance.specs.Lanes.{bound}
use Rattle.dominance.specs.Laws.Lanes.{FilledTo}
use Rattle.dominance.proofs.bounds_by.Given as goal

abbrev pub invariant-loop-i : goal.invariant-loop-i
invariant-loop-i g l = FilledTo (bound g.test l.q) l.i l.bounds
