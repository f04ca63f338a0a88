-- `chunks::run_unhidden` meets its contract. The loop's invariant: no move of the columns hides a place passed. Assumes nothing.
use Prim.Native.Nat.{ℕ, ◌-◌, ◌≤◌}
use Rattle.skyline.specs.Chunks.{Gathered, Unhidden}
use Rattle.skyline.proofs.chunks.run_unhidden.Given as goal

abbrev pub invariant-loop-j : goal.invariant-loop-j
invariant-loop-j l =
    (l.i ≤ l.j) × (l.j ≤ l.to) × ((a b : ℕ) → Gathered l.b.head.size l.b.bytes.now a b l.columns l.low → Unhidden l.b.head.size l.b.head.dimension l.b.bytes.now a b l.i l.j)

abbrev pub decreases-loop-j : goal.decreases-loop-j
decreases-loop-j l = l.to - l.j
