-- `highs::run_high` meets its contract. The loop's invariant: the row is that with the places passed. Assumes nothing.
use Prim.Native.Nat.{◌-◌, ◌≤◌}
use Rattle.skyline.specs.Chunks.{HighWith}
use Rattle.skyline.proofs.highs.run_high.Given as goal

abbrev pub invariant-loop-j : goal.invariant-loop-j
invariant-loop-j l = (l.i ≤ l.j) × (l.j ≤ l.to) × HighWith l.b.head.size l.b.head.dimension l.b.bytes.now l.i l.j l.initial.top l.top

abbrev pub decreases-loop-j : goal.decreases-loop-j
decreases-loop-j l = l.to - l.j
