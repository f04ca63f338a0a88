-- `split::cut_place` meets its contract. The loop's invariant: the cuts before the entries 3 to the counter's are tried (`Cut`).
-- Assumes nothing.
use Rattle.promises.specs.Layout.{line_from}
use Rattle.tree.specs.Laws.Cut.{Tried}
use Rattle.tree.proofs.split.cut_place.Given as goal

abbrev pub invariant-loop : goal.invariant-loop
invariant-loop l = Tried l.h.dimension l.l l.node.start l.node.end (line_from l.h.size l.h.dimension l.h.count l.m) l.counter l.q l.best l.least
