-- `chunks::later_unhidden` meets its contract. The loop's invariant: no move of the chunk hides a place passed. Assumes nothing.
use Prim.Native.Nat.{◌-◌, ◌≤◌}
use Rattle.skyline.specs.Chunks.{Unhidden}
use Rattle.skyline.proofs.chunks.later_unhidden.Given as goal

abbrev pub invariant-loop-f : goal.invariant-loop-f
invariant-loop-f l =
    (l.chunk.to ≤ l.f) × (l.f ≤ l.n) × Unhidden l.b.head.size l.b.head.dimension l.b.bytes.now l.chunk.from l.chunk.to l.chunk.to l.f

abbrev pub decreases-loop-f : goal.decreases-loop-f
decreases-loop-f l = l.n - l.f
