-- `search::run_corner` meets its contract. The loop's invariant: the corner is that with the places passed. Assumes nothing.
use Prim.Native.Nat.{◌≤◌}
use Rattle.search.specs.Search.{CornerWith}
use Rattle.search.proofs.search.run_corner.Given as goal

abbrev pub invariant-loop-j : goal.invariant-loop-j
invariant-loop-j l = (l.i ≤ l.j) × (l.j ≤ l.to) × CornerWith l.among l.b.head.size l.b.bytes.now l.i l.j l.initial.corner l.corner
