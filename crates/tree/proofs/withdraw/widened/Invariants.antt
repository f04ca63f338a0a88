-- `withdraw::widened` meets its contract. The loop's invariant: what is left of the widening gives the whole. Assumes nothing.
use Rattle.tree.specs.Laws.Widening.{Widens}
use Rattle.tree.proofs.withdraw.widened.Given as goal

abbrev pub invariant-loop-l : goal.invariant-loop-l
invariant-loop-l l = Widens l.c l.n l.p l.l l.rows.start l.rows.end l.m
