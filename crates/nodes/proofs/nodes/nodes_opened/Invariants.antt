-- `nodes::nodes_opened` meets its contract. The loop's invariant: the nodes opened so far and those from the present place on are
-- all. Assumes nothing.
use Prim.Native.Nat.{◌-◌}
use Rattle.nodes.specs.Laws.Search.{Counting}
use Rattle.nodes.proofs.nodes.nodes_opened.Given as goal

abbrev pub invariant-loop-i : goal.invariant-loop-i
invariant-loop-i l = Counting l.b.head.size l.b.head.dimension l.n l.n l.b.bytes.now l.opened l.i

abbrev pub decreases-loop-i : goal.decreases-loop-i
decreases-loop-i l = l.n - l.i
