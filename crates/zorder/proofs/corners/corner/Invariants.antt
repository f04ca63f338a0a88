-- `corners::corner` meets its contract. The loop's invariant: the row holds the first i costs of the corner. Assumes nothing.
use mathlib.Core.List.{map}
use mathlib.Core.Path.{◌≡◌}
use lib.ListN.{take}
use Rattle.zorder.proofs.Fill.{filled}
use Rattle.zorder.proofs.corners.corner.Given as goal

abbrev pub invariant-loop-i : goal.invariant-loop-i
invariant-loop-i g l = l.corner ≡ filled (map (g.filled l.u) (take l.d l.costs)) l.i
