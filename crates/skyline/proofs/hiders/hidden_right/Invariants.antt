-- `hiders::hidden_right` meets its contract. The loop's invariant: the moves passed that are not listed are hidden, and the corners
-- are those of the listed moves passed. Of the hiders kept nothing is known. Assumes nothing.
use Prim.Native.Nat.{◌-◌, ◌≤◌, ◌<◌}
use mathlib.Core.Bool.{true}
use mathlib.Core.Path.{◌≡◌}
use Rattle.search.specs.Search.{ListedCorners}
use Rattle.memory.specs.Tests.{hidden_right}
use Rattle.skyline.proofs.hiders.hidden_right.Given as goal

abbrev pub invariant-loop-i : goal.invariant-loop-i
invariant-loop-i l =
    (l.i ≤ l.n) × (l.at < 8) × ListedCorners l.b.head l.b.bytes.now l.i l.corners × (hidden_right l.b.head.size l.b.head.dimension l.i l.b.bytes.now ≡ true)

abbrev pub decreases-loop-i : goal.decreases-loop-i
decreases-loop-i l = l.n - l.i
