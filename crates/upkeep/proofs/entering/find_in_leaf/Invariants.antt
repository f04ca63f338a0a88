-- `entering::find_in_leaf` meets its contract. The loop's invariant: of the leaf's moves passed those that enter are added.
-- Assumes nothing.
use Rattle.upkeep.specs.Change.{enters_at, Passing}
use Rattle.upkeep.proofs.entering.find_in_leaf.Given as goal

abbrev pub invariant-loop-i : goal.invariant-loop-i
invariant-loop-i l =
    Passing l.all.board.head.size l.all.board.bytes.now (enters_at l.all.board.head.size l.all.board.head.dimension l.all.board.head.count l.k l.all.board.bytes.now) l.initial.changed l.start l.i l.changed l.entered
