-- `search::within` meets its contract. The loop's invariant: none of the places passed fits. Assumes nothing.
use Rattle.search.specs.Search.{fits, None}
use Rattle.search.proofs.search.within.Given as goal

abbrev pub invariant-loop-j : goal.invariant-loop-j
invariant-loop-j l = None (fits l.among l.b.head.size l.b.bytes.now l.q) l.i l.j
