use Prim.Native.Nat.{◌+◌, ◌-◌}
use native.Mathlib.Omega.{arith}
use Rattle.line.specs.Line.{heights_in}
use Rattle.promises.specs.Layout.{line_from}
use Rattle.nodes.specs.Laws.Steps.{entry-turn}
use Rattle.nodes.specs.Laws.Heights.{end_line, entry-line}
use Rattle.tree.specs.Laws.Cut.{nine-entry, nine-cut, tried-first, tried-less, tried-more, tried-all}
use Rattle.tree.proofs.split.cut_place.Goals.{else-sides-least, then-sides-least}
use Rattle.tree.proofs.split.cut_place.Goals as goal

pub entry_at-q-requires : goal.entry_at-q-requires
entry_at-q-requires c = nine-entry c.requires

pub cut_sides-least-requires : goal.cut_sides-least-requires
cut_sides-least-requires c =
    let a = c.args in
    nine-cut c.requires 3 (omega arith) (omega arith) (entry-line a.h.dimension c.entry_at-q.ensures)

pub loop-init : goal.loop-init
loop-init c =
    let a = c.args in
    tried-first c.requires (entry-line a.h.dimension c.entry_at-q.ensures) c.cut_sides-least.ensures

pub node_end-q-requires : goal.node_end-q-requires
node_end-q-requires c =
    let p = c.requires in
    let own = c.loop in
    let inside = nine-cut p own.counter (omega (arith, own.invariant.from)) (omega arith) own.invariant.at in
    (p.readable.room, p.readable.rows, omega (arith, inside.after, p.ends))

pub cut_sides-sides-requires : goal.cut_sides-sides-requires
cut_sides-sides-requires c =
    let a = c.args in
    let p = c.requires in
    let own = c.loop in
    nine-cut p (own.counter + 1) (omega arith) (omega arith)
    (entry-turn (a.l - 1) a.node.now.start own.counter own.q c.node_end-q.result (heights_in (line_from a.h.size a.h.dimension a.h.count a.m.now)) own.invariant.at
    (end_line a.h.dimension c.node_end-q.ensures))

pub loop-preserved : goal.loop-preserved
loop-preserved c =
    let a = c.args in
    let p = c.requires in
    let own = c.loop in
    let next = end_line a.h.dimension c.node_end-q.ensures in
    let sides = c.cut_sides-sides.ensures in
    elim c.if-sides-least.branch [ then-sides-least w ↦ tried-less p own.invariant (omega arith) next sides (omega arith) w.best-is w.least-is | else-sides-least w ↦ tried-more p own.invariant (omega arith) next sides (omega arith) w.best-is w.least-is ]

pub returns : goal.returns
returns c = tried-all c.requires c.loop.invariant (omega arith)
