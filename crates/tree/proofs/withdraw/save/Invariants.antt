-- `withdraw::save` meets its contract. The loop's invariant: the numbers of the rows before place i are saved. Assumes nothing.
use Rattle.tree.specs.Laws.Saving.{Saving}
use Rattle.tree.proofs.withdraw.save.Given as goal

abbrev pub invariant-loop-i : goal.invariant-loop-i
invariant-loop-i l = Saving l.c l.rows.start l.i l.number l.k l.initial.m l.m
