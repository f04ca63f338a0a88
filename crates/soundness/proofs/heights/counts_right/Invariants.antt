-- `heights::counts_right` meets its contract. The loop's invariant: what is left of the line gives the whole answer.
-- Assumes nothing.
use Prim.Native.Nat.{◌≤◌}
use mathlib.Core.Path.{◌≡◌}
use lib.ListN.{drop}
use Rattle.line.specs.Heights.{counts_from, counts_at}
use Rattle.promises.specs.Layout.{heights_from}
use Rattle.soundness.proofs.heights.counts_right.Given as goal

abbrev pub invariant-loop-i : goal.invariant-loop-i
invariant-loop-i l =
    (l.entries ≤ l.i)
    × (counts_from l.l l.lo l.entries (drop l.i (heights_from l.c l.n l.m)) ≡ counts_at l.l l.lo (heights_from l.c l.n l.m))
