-- `chunks::listed_right` meets its contract. The loop's invariant: no move at a place passed hides a listed one, and once a chunk is
-- passed the runs have their greatest bounds. Assumes nothing.
use Prim.Native.Nat.{◌-◌, ◌≤◌, ◌<◌}
use mathlib.Core.Path.{◌≡◌}
use lib.ListN.{length}
use Rattle.skyline.specs.Chunks.{Unhidden, Highs}
use Rattle.skyline.proofs.chunks.listed_right.Given as goal

abbrev pub invariant-loop-from : goal.invariant-loop-from
invariant-loop-from l =
    (l.from ≤ l.n)
    × Unhidden l.b.head.size l.b.head.dimension l.b.bytes.now 0 l.from 0 l.n
    × (length l.highs ≡ 64)
    × (0 < l.from → l.from < l.n → Highs l.b.head.size l.b.head.dimension l.b.bytes.now l.n l.highs)

abbrev pub decreases-loop-from : goal.decreases-loop-from
decreases-loop-from l = l.n - l.from
