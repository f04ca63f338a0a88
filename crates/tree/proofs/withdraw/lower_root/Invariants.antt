-- `withdraw::lower_root` meets its contract. The loop's invariant: what is left of the lowering gives the whole. Assumes nothing.
use Rattle.tree.specs.Laws.Lowering.{Lowers}
use Rattle.tree.proofs.withdraw.lower_root.Given as goal

abbrev pub invariant-loop-l : goal.invariant-loop-l
invariant-loop-l l = Lowers l.c l.n l.l l.initial.m l.m
