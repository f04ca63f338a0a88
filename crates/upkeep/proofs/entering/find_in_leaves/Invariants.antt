-- `entering::find_in_leaves` meets its contract. The loop's invariant: of the moves passed those that enter are added, and the
-- nodes opened so far and those still to be opened are all. Assumes nothing.
use Prim.Native.Nat.{◌-◌}
use Rattle.nodes.specs.Laws.Search.{Counting}
use Rattle.upkeep.specs.Change.{enters_at, Passing}
use Rattle.upkeep.proofs.entering.find_in_leaves.Given as goal

abbrev pub invariant-loop-i : goal.invariant-loop-i
invariant-loop-i l =
    Counting l.all.board.head.size l.all.board.head.dimension l.k.goes l.all.board.head.count l.all.board.bytes.now l.opened l.i × Passing l.all.board.head.size l.all.board.bytes.now (enters_at l.all.board.head.size l.all.board.head.dimension l.all.board.head.count l.k l.all.board.bytes.now) l.initial.changed 0 l.i l.changed l.count

abbrev pub decreases-loop-i : goal.decreases-loop-i
decreases-loop-i l = l.n - l.i
