-- `flags::set_flags` meets its contract. The loop's invariant: the flags of the places passed are set, the others as they
-- were. Assumes nothing.
use Rattle.upkeep.specs.Laws.Flags.{Flagging}
use Rattle.upkeep.proofs.flags.set_flags.Given as goal

abbrev pub invariant-loop-i : goal.invariant-loop-i
invariant-loop-i l = Flagging l.h.size l.h.count l.i l.u.changed l.initial.m l.m
