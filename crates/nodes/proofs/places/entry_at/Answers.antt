use mathlib.Core.Path.{refl}
use Rattle.line.specs.Places.{entry_among}
use Rattle.promises.specs.Layout.{heights_from}
use Rattle.nodes.specs.Laws.Steps.{entry-turn}
use Rattle.nodes.proofs.places.entry_at.Goals as goal

pub loop-init : goal.loop-init
unfolding entry_among
loop-init c = refl

pub loop-preserved : goal.loop-preserved
loop-preserved c =
    let a = c.args in
    let l = c.loop in
    let r = c.node_end-q in
    entry-turn a.l a.s l.counter l.q r.result (heights_from a.c a.n a.m.now) l.invariant r.ensures.is
