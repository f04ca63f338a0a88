-- `highs::put_highs` meets its contract. The loop's invariant: the rows are those of the places passed. Assumes nothing.
use Prim.Native.Nat.{◌-◌, ◌≤◌}
use Rattle.skyline.specs.Chunks.{Highs}
use Rattle.skyline.proofs.highs.put_highs.Given as goal

abbrev pub invariant-loop-i : goal.invariant-loop-i
invariant-loop-i l = (l.i ≤ l.n) × Highs l.b.head.size l.b.head.dimension l.b.bytes.now l.i l.highs

abbrev pub decreases-loop-i : goal.decreases-loop-i
decreases-loop-i l = l.n - l.i
