-- `heights::heights_right` meets its contract. The loop's invariant: the levels that are left give the whole answer.
-- Assumes nothing.
use mathlib.Core.Path.{◌≡◌}
use Rattle.line.specs.Heights.{levels_right, heights_right}
use Rattle.promises.specs.Layout.{heights_from}
use Rattle.soundness.proofs.heights.heights_right.Given as goal

abbrev pub invariant-loop-l : goal.invariant-loop-l
invariant-loop-l l = levels_right l.top l.l (heights_from l.c l.n l.m) ≡ heights_right (heights_from l.c l.n l.m)
