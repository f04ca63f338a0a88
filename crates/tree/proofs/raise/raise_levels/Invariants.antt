-- `raise::raise_levels` meets its contract. The loop's invariant: making the levels from l up gives the whole. Each level has at
-- most half the entries of the one below, so that there are few. Assumes nothing.
use Rattle.tree.specs.Laws.Raising.{Levels}
use Rattle.tree.proofs.raise.raise_levels.Given as goal

abbrev pub invariant-loop-entries : goal.invariant-loop-entries
invariant-loop-entries l = Levels l.c l.n l.l l.entries l.initial.m l.m

abbrev pub decreases-loop-entries : goal.decreases-loop-entries
decreases-loop-entries l = l.entries
