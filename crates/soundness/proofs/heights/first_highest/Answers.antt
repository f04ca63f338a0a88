use Prim.Native.Nat.{ℕ, ◌-◌}
use mathlib.Core.Bool.{true}
use mathlib.Core.Path.{◌≡◌, refl, sym, subst}
use native.Mathlib.Omega.{arith}
use borrow.Author.Tests.{eqb-true, eqb-false, leb-true, leb-false}
use Rattle.memory.specs.Tests.{all_to}
use Rattle.soundness.specs.Laws.Levels.{lower_next, lower-next, highest-none, highest-found, highest-flat, highest-lost}
use Rattle.soundness.proofs.heights.first_highest.Goals as goal

pub returns-then-n-eq0 : goal.returns-then-n-eq0
returns-then-n-eq0 c =
    let a = c.args in
    sym (highest-none a.c a.m.now a.n (omega (arith, eqb-true)))

pub returns-then-top-eq0 : goal.returns-then-top-eq0
returns-then-top-eq0 c =
    let a = c.args in
    sym (highest-flat a.c a.m.now a.n (omega (arith, eqb-false)) (omega (arith, eqb-true)))

pub loop-i-init : goal.loop-i-init
unfolding all_to
loop-i-init c = refl

pub returns-then-top-height_at : goal.returns-then-top-height_at
returns-then-top-height_at c =
    let a = c.args in
    let i = c.loop-i.i in
    sym (highest-lost a.c a.m.now a.n (omega arith) i (omega arith) (omega arith) (omega (arith, leb-true)))

pub loop-i-preserved : goal.loop-i-preserved
loop-i-preserved c =
    let a = c.args in
    let own = c.loop-i in
    lower-next a.c a.m.now own.i (omega arith) own.invariant (omega (arith, leb-false))

pub returns : goal.returns
returns c =
    let a = c.args in
    let own = c.loop-i in
    let all : own.i ≡ a.n = omega arith in
    sym (highest-found a.c a.m.now a.n (omega arith) (omega (arith, eqb-false)) (subst (λ (k : ℕ). all_to (lower_next a.c a.m.now) (k - 1) ≡ true) all own.invariant))
