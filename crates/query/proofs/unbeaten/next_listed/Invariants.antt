-- `unbeaten::next_listed` meets its contract. The loop's invariant: none of the moves passed is listed. Assumes nothing.
use Rattle.search.specs.Search.{None}
use Rattle.memory.specs.Tests.{is_listed}
use Rattle.query.proofs.unbeaten.next_listed.Given as goal

abbrev pub invariant-loop-j : goal.invariant-loop-j
invariant-loop-j l = None (is_listed l.b.head.size l.b.bytes.now) l.i l.j
