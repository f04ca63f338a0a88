-- `nodes::next_leaf` meets its contract. The loop's invariant: the nodes opened so far and those that the search opens from the
-- present place and level on are all, and the places passed lie under nodes that are not opened. The measure is the rest of the
-- places, then the level. Assumes nothing.
use Prim.Native.Nat.{◌+◌, ◌*◌, ◌-◌}
use Rattle.nodes.specs.Laws.Search.{Searchable, Searching}
use Rattle.nodes.proofs.nodes.next_leaf.Given as goal

abbrev pub invariant-loop-i : goal.invariant-loop-i
invariant-loop-i l =
    Searchable l.listed.board.head.size l.listed.board.head.dimension l.n l.listed.board.bytes.now × Searching l.listed.board.head.size l.listed.board.head.dimension l.goes l.n l.listed.board.bytes.now l.from l.opened l.i l.l

abbrev pub decreases-loop-i : goal.decreases-loop-i
decreases-loop-i l = (l.n - l.i) * 256 + l.l
