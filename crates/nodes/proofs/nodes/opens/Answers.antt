-- `nodes::opens` meets its contract, corner by corner. Assumes nothing.
use mathlib.Core.Bool.{not}
use mathlib.Core.Path.{sym, ap, ◌∙◌}
use Rattle.nodes.specs.Laws.Corners.{opens-out, opens-near}
use Rattle.nodes.proofs.nodes.opens.Goals as goal

pub returns-then-exceeds_far : goal.returns-then-exceeds_far
returns-then-exceeds_far c =
    let a = c.args in
    let b = a.listed.now.board in
    opens-out b.head.size b.head.dimension a.goes b.head.count b.bytes.now a.i a.e c.number_at.ensures.0
    c.number_at-2.ensures.0 c.costs_of-first.ensures c.costs_of-last.ensures
    (sym c.exceeds_far.ensures ∙ c.if-exceeds_far.true)

pub returns : goal.returns
returns c =
    let a = c.args in
    let b = a.listed.now.board in
    ap not c.corner_dominated.ensures
    ∙ opens-near b.head.size b.head.dimension a.goes b.head.count b.bytes.now a.i a.e c.number_at.ensures.0
    c.number_at-2.ensures.0 c.costs_of-first.ensures
    c.costs_of-last.ensures (sym c.exceeds_far.ensures ∙ c.if-exceeds_far.false) c.near_of.ensures
