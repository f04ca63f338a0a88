-- `search::next_within` meets its contract. The loop's invariant: none of the places passed fits. Assumes nothing.
use Prim.Native.Nat.{◌-◌, ◌≤◌}
use Rattle.search.specs.Search.{fits, None}
use Rattle.search.proofs.search.next_within.Given as goal

abbrev pub invariant-loop-f : goal.invariant-loop-f
invariant-loop-f l = (l.i ≤ l.f) × (l.f ≤ l.to) × None (fits l.among l.b.head.size l.b.bytes.now l.q) l.i l.f

abbrev pub decreases-loop-f : goal.decreases-loop-f
decreases-loop-f l = l.to - l.f
