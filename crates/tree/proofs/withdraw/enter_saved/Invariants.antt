-- `withdraw::enter_saved` meets its contract. The loop's invariant: the first j saved moves are entered. Assumes nothing.
use Rattle.tree.specs.Laws.Again.{Entering}
use Rattle.tree.proofs.withdraw.enter_saved.Given as goal

abbrev pub invariant-loop-j : goal.invariant-loop-j
invariant-loop-j l = Entering l.h.size l.h.dimension l.h.count l.k l.j l.initial.m l.m
