-- `enter::takes_over` meets its contract. Assumes nothing.
use native.Mathlib.Omega.{arith}
use Rattle.dominance.specs.Move.{as_move}
use Rattle.tree.specs.Laws.Putting.{over_first, over-past, over_none, over-gap}
use Rattle.tree.proofs.enter.takes_over.Goals as goal

pub returns-then-p-eq0 : goal.returns-then-p-eq0
returns-then-p-eq0 c = over_first c.requires (as_move c.args.x) c.if-p-eq0.true

pub returns-then-n-p : goal.returns-then-n-p
returns-then-n-p c = over-past c.requires (as_move c.args.x) (omega arith) (omega arith)

pub returns-then-k-eq0 : goal.returns-then-k-eq0
returns-then-k-eq0 c =
    over_none c.requires (as_move c.args.x) (omega arith) (omega arith) (omega arith)

pub returns : goal.returns
returns c =
    over-gap c.requires (as_move c.args.x)
    (omega (arith, c.if-p-eq0.false)) (omega (arith, c.if-n-p.false)) c.height_at-k.ensures (omega (arith, c.if-k-eq0.false))
    c.node_start.ensures c.node_end.ensures
    c.number_at.ensures c.costs_of-first.ensures c.number_at-2.ensures c.costs_of-last.ensures
    c.side_of.ensures c.side_of-2.ensures
