use Rattle.std.proofs.Common.{length}
use Rattle.framing.specs.Serving.{HoldsState, Lent}
use Rattle.frames.proofs.answer_all.Given as goal

abbrev pub invariant-loop-rest : goal.invariant-loop-rest
invariant-loop-rest g l = HoldsState l.q.dimension l.m × Lent l.m l.out

abbrev pub decreases-loop-rest : goal.decreases-loop-rest
decreases-loop-rest g l = length l.rest
