use mathlib.Core.Path.{◌≡◌, sym, ◌∙◌}
use native.Mathlib.Omega.{arith}
use Rattle.promises.specs.Layout.{heights_from}
use Rattle.memory.specs.Laws.Lines.{length-heights_from, get_or-heights_from}
use Rattle.nodes.specs.Laws.Steps.{end-first, end-here, end_later, end-last}
use Rattle.nodes.proofs.places.node_end.Goals as goal

pub loop-e-init : goal.loop-e-init
loop-e-init c = let a = c.args in end-first a.l a.p (heights_from a.c a.n a.m.now)

pub returns-then-l-height_at : goal.returns-then-l-height_at
returns-then-l-height_at c =
    let a = c.args in
    let e = c.loop-e.e in
    record {
      is =
          let ks = heights_from a.c a.n a.m.now in
          sym (end-here a.l e ks (omega (arith, length-heights_from a.c a.n a.m.now))
          (omega (arith, get_or-heights_from a.c a.n a.m.now e (omega arith), c.height_at.ensures)))
          ∙ c.loop-e.invariant;
      after = omega arith;
      within = omega arith;
    }

pub loop-e-preserved : goal.loop-e-preserved
loop-e-preserved c =
    let a = c.args in
    let e = c.loop-e.e in
    let ks = heights_from a.c a.n a.m.now in
    end_later a.l e ks (omega (arith, length-heights_from a.c a.n a.m.now))
    (omega (arith, get_or-heights_from a.c a.n a.m.now e (omega arith), c.height_at.ensures))
    ∙ c.loop-e.invariant

pub returns : goal.returns
returns c =
    let a = c.args in
    let e = c.loop-e.e in
    let all : a.n ≡ e = omega arith in
    record {
      is =
          let ks = heights_from a.c a.n a.m.now in
          all ∙ sym (end-last a.l e ks (omega (arith, length-heights_from a.c a.n a.m.now))) ∙ c.loop-e.invariant;
      after = omega arith;
      within = omega arith;
    }
