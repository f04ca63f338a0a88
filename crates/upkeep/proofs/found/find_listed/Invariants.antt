-- `found::find_listed` meets its contract. The loop's invariant: of the moves passed the listed ones are found. Assumes nothing.
use Rattle.memory.specs.Tests.{is_flagged}
use Rattle.upkeep.specs.Laws.Found.{FindsTo}
use Rattle.upkeep.proofs.found.find_listed.Given as goal

abbrev pub invariant-loop-i : goal.invariant-loop-i
invariant-loop-i l = FindsTo l.b.head.size l.b.bytes.now (is_flagged l.b.head.size l.b.bytes.now) l.initial.numbers l.i l.numbers l.count
