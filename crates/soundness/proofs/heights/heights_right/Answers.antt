use Prim.Native.Nat.{ℕ}
use mathlib.Core.Bool.{true, false}
use mathlib.Core.Path.{◌≡◌, sym, ap, ◌∙◌}
use native.Mathlib.Omega.{arith}
use borrow.Author.Tests.{eqb-true, eqb-false}
use Rattle.line.specs.Heights.{first_highest, counts_at, levels_right}
use Rattle.promises.specs.Layout.{heights_from}
use Rattle.soundness.specs.Laws.Levels.{heights-none, heights-by, level-right, level-wrong}
use Rattle.soundness.proofs.heights.heights_right.Goals as goal

pub returns-then-n-eq0 : goal.returns-then-n-eq0
returns-then-n-eq0 c =
    let a = c.args in
    sym (heights-none a.c a.m.now a.n (omega (arith, eqb-true)))

pub returns-then-not-first_highest : goal.returns-then-not-first_highest
returns-then-not-first_highest c =
    let a = c.args in
    let lost : first_highest (heights_from a.c a.n a.m.now) ≡ false = sym c.first_highest.ensures ∙ c.if-not-first_highest.true in
    sym (heights-by a.c a.m.now a.n (omega (arith, eqb-false)) false lost)

pub loop-l-init : goal.loop-l-init
loop-l-init c =
    let a = c.args in
    let line = heights_from a.c a.n a.m.now in
    let found : first_highest line ≡ true = sym c.first_highest.ensures ∙ c.if-not-first_highest.false in
    ap (λ (top : ℕ). levels_right top top line) c.height_at-top.ensures
    ∙ sym (heights-by a.c a.m.now a.n (omega (arith, eqb-false)) true found)

pub returns-then-not-counts_right : goal.returns-then-not-counts_right
returns-then-not-counts_right c =
    let a = c.args in
    let own = c.loop-l in
    let top = c.height_at-top.result in
    let line = heights_from a.c a.n a.m.now in
    sym
    (level-wrong top own.l line (omega arith)
    (ap (λ (lo : ℕ). counts_at own.l lo line) (sym c.least_entries.ensures) ∙ sym c.counts_right.ensures ∙ c.if-not-counts_right.true))
    ∙ own.invariant

pub loop-l-preserved : goal.loop-l-preserved
loop-l-preserved c =
    let a = c.args in
    let own = c.loop-l in
    let top = c.height_at-top.result in
    let line = heights_from a.c a.n a.m.now in
    sym
    (level-right top own.l line (omega arith)
    (ap (λ (lo : ℕ). counts_at own.l lo line) (sym c.least_entries.ensures) ∙ sym c.counts_right.ensures ∙ c.if-not-counts_right.false))
    ∙ own.invariant

pub returns : goal.returns
unfolding levels_right
returns c =
    let a = c.args in
    let own = c.loop-l in
    let none : 0 ≡ own.l = omega arith in
    ap (λ (l : ℕ). levels_right c.height_at-top.result l (heights_from a.c a.n a.m.now)) none ∙ own.invariant
