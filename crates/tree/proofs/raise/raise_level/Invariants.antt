-- `raise::raise_level` meets its contract. The loop's invariant: finishing the rows from place i on gives the whole level.
-- Assumes nothing.
use Prim.Native.Nat.{◌≤◌}
use Rattle.tree.specs.Laws.Raising.{Raising}
use Rattle.tree.proofs.raise.raise_level.Given as goal

abbrev pub invariant-loop-i : goal.invariant-loop-i
invariant-loop-i l = (l.j ≤ l.i) × Raising l.c l.n l.l l.entries l.i l.j l.initial.m l.m
