use Prim.Native.Nat.{ℕ, ◌+◌, ◌-◌}
use mathlib.Core.Path.{◌≡◌, ap, ◌∙◌}
use Rattle.line.specs.Places.{start_among}
use native.Mathlib.Omega.{arith}
use Rattle.promises.specs.Layout.{heights_from}
use Rattle.memory.specs.Laws.Lines.{get_or-heights_from}
use Rattle.nodes.specs.Laws.Steps.{start-here, start-earlier, start_first}
use Rattle.nodes.proofs.places.node_start.Goals as goal

pub loop-s-init : goal.loop-s-init
loop-s-init c =
    let a = c.args in
    let at : a.p + 1 - 1 ≡ a.p = omega arith in
    λ n h. ap (λ (s : ℕ). start_among a.l s (heights_from a.c n a.m.now)) at

pub returns-then-l-height_at : goal.returns-then-l-height_at
returns-then-l-height_at c =
    let a = c.args in
    let s = c.loop-s.s - 1 in
    let inv = c.loop-s.invariant in
    record {
      is = λ n h.
          start-here a.l s (heights_from a.c n a.m.now) (omega arith)
          (omega (arith, get_or-heights_from a.c n a.m.now s (omega arith), c.height_at.ensures))
          ∙ inv n h;
      within = omega arith;
    }

pub loop-s-preserved : goal.loop-s-preserved
loop-s-preserved c =
    let a = c.args in
    let s = c.loop-s.s - 1 in
    let inv = c.loop-s.invariant in
    λ n h.
    start-earlier a.l s (heights_from a.c n a.m.now) (omega arith)
    (omega (arith, get_or-heights_from a.c n a.m.now s (omega arith), c.height_at.ensures))
    ∙ inv n h

pub returns : goal.returns
returns c =
    let a = c.args in
    let s = c.loop-s.s - 1 in
    let inv = c.loop-s.invariant in
    record {
      is = λ n h. start_first a.l s (heights_from a.c n a.m.now) (omega arith) ∙ inv n h;
      within = omega arith;
    }
