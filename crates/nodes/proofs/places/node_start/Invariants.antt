-- `places::node_start` meets its contract. The loop's invariant: the node that holds the present place starts where the whole
-- does. Assumes nothing.
use Prim.Native.Nat.{ℕ, ◌-◌, ◌<◌}
use mathlib.Core.Path.{◌≡◌}
use Rattle.line.specs.Places.{start_among}
use Rattle.promises.specs.Layout.{heights_from}
use Rattle.nodes.proofs.places.node_start.Given as goal

abbrev pub invariant-loop-s : goal.invariant-loop-s
invariant-loop-s l =
    (n : ℕ) → l.p < n → start_among l.l (l.s - 1) (heights_from l.c n l.m) ≡ start_among l.l l.p (heights_from l.c n l.m)
