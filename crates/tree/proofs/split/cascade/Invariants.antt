-- `split::cascade` meets its contract. The loop's invariant: what is left to do from the present line is what was left at
-- first (`Cascade`). Assumes nothing.
use Rattle.std.specs.Prelude.{◌+◌, ◌-◌}
use Rattle.tree.specs.Laws.Cascade.{Climbed}
use Rattle.tree.proofs.split.cascade.Given as goal

abbrev pub invariant-loop-l : goal.invariant-loop-l
invariant-loop-l l = Climbed l.h.size l.h.dimension l.h.count l.p l.initial.m l.m (l.top + 2 - l.l) l.l
