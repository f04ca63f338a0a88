-- `places::node-end` meets its contract. The loop's invariant: the present place and the rows left below the level give the end.
-- Assumes nothing.
use Prim.Native.Nat.{◌+◌}
use mathlib.Core.Path.{◌≡◌}
use lib.ListN.{drop}
use Rattle.line.specs.Places.{lower_among, end_among}
use Rattle.promises.specs.Layout.{heights_from}
use Rattle.nodes.proofs.places.node_end.Given as goal

abbrev pub invariant-loop-e : goal.invariant-loop-e
invariant-loop-e l =
    l.e + lower_among l.l (drop l.e (heights_from l.c l.n l.m)) ≡ end_among l.l l.p (heights_from l.c l.n l.m)
