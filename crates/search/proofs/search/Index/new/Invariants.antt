-- `search::Index::new` meets its contract. The loop's invariant: the corners are those of the places passed. Assumes nothing.
use Prim.Native.Nat.{◌-◌, ◌≤◌}
use Rattle.search.specs.Search.{Corners}
use Rattle.search.proofs.search.Index.new.Given as goal

abbrev pub invariant-loop-i : goal.invariant-loop-i
invariant-loop-i l = (l.i ≤ l.n) × Corners l.among l.b.head.size l.b.bytes.now l.i l.corners

abbrev pub decreases-loop-i : goal.decreases-loop-i
decreases-loop-i l = l.n - l.i
