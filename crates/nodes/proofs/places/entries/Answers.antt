use native.Mathlib.Omega.{arith}
use Rattle.promises.specs.Layout.{heights_from}
use Rattle.memory.specs.Laws.Lines.{length-heights_from, get_or-heights_from}
use Rattle.nodes.specs.Laws.Steps.{entry_here, entry-none, entries-end}
use Rattle.nodes.proofs.places.entries.Goals.{else-l-height_at, then-l-height_at}
use Rattle.nodes.proofs.places.entries.Goals as goal

pub loop-i-preserved : goal.loop-i-preserved
loop-i-preserved c =
    let a = c.args in
    let i = c.loop-i.i in
    let inv = c.loop-i.invariant in (
      elim c.if-l-height_at.branch [ then-l-height_at w ↦ omega arith | else-l-height_at w ↦ omega arith ],
      λ n h.
          let ks = heights_from a.c n a.m.now in
          let long = length-heights_from a.c n a.m.now in
          let height = get_or-heights_from a.c n a.m.now i (omega arith) in
          elim c.if-l-height_at.branch [ then-l-height_at w ↦ omega (arith, inv.1 n h, entry_here a.l i a.e ks (omega arith) (omega arith) (omega (arith, height, c.height_at.ensures))) | else-l-height_at w ↦ omega (arith, inv.1 n h, entry-none a.l i a.e ks (omega arith) (omega arith) (omega (arith, height, c.height_at.ensures))) ],
    )

pub returns : goal.returns
returns c =
    let a = c.args in
    let i = c.loop-i.i in
    let inv = c.loop-i.invariant in
    record {
      is = λ n h. omega (arith, inv.1 n h, entries-end a.l i a.e (heights_from a.c n a.m.now) (omega arith));
      within = omega arith;
    }
