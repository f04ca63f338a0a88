-- `kept::find_leaving` meets its contract. The loop's invariant: of the moves passed those that leave are added. Assumes
-- nothing.
use Rattle.upkeep.specs.Change.{leaves_at, Passing}
use Rattle.upkeep.proofs.kept.find_leaving.Given as goal

abbrev pub invariant-loop-i : goal.invariant-loop-i
invariant-loop-i l = Passing l.b.head.size l.b.bytes.now (leaves_at l.b.head.size l.b.head.dimension l.k l.b.bytes.now) l.initial.changed 0 l.i l.changed l.left
