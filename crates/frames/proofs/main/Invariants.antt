use Rattle.framing.specs.Serving.{HoldsState, Lent}
use Rattle.frames.proofs.main.Given as goal

abbrev pub invariant-loop : goal.invariant-loop
invariant-loop l = HoldsState l.p.dimension l.m × Lent l.m l.out
