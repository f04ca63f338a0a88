-- `chunks::next_chunk` meets its contract. The loop's invariant: the listed moves passed are the first columns, and none of them hides
-- another. Assumes nothing.
use Prim.Native.Nat.{◌+◌, ◌-◌, ◌≤◌}
use mathlib.Core.Path.{◌≡◌}
use Rattle.search.specs.Columns.{count_to}
use Rattle.skyline.specs.Chunks.{listed, Gathered, Unhidden}
use Rattle.skyline.proofs.chunks.next_chunk.Given as goal

abbrev pub invariant-loop-i : goal.invariant-loop-i
invariant-loop-i l =
    (l.from ≤ l.i)
    × (l.i ≤ l.n)
    × (l.count ≤ 64)
    × (l.count + l.from ≤ l.i)
    × (count_to (listed l.b.head.size l.b.bytes.now) l.i ≡ count_to (listed l.b.head.size l.b.bytes.now) l.from + l.count)
    × Gathered l.b.head.size l.b.bytes.now l.from l.i l.columns l.low
    × Unhidden l.b.head.size l.b.head.dimension l.b.bytes.now l.from l.i l.from l.i

abbrev pub decreases-loop-i : goal.decreases-loop-i
decreases-loop-i l = l.n - l.i
