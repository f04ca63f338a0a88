use Prim.Native.Nat.{ℕ}
use mathlib.Core.Path.{◌≡◌, refl, subst}
use native.Mathlib.Omega.{arith}
use Rattle.search.specs.Search.{Corners}
use Rattle.search.specs.Laws.Search.{corners-none, corners-more}
use Rattle.search.proofs.search.Index.new.Goals as goal

pub loop-i-init : goal.loop-i-init
loop-i-init c = (omega arith, corners-none _ refl)

pub loop-i-preserved : goal.loop-i-preserved
loop-i-preserved c =
    let own = c.loop-i in
    let asked = c.args.b.now.readable in
    let e = c.run_end-e in
    (omega arith, corners-more own.i e.result own.corners c.run_corner.result (omega (arith, asked.rows, asked.room)) e.ensures.2 own.invariant.1 c.run_corner.ensures)

pub invariant_of-result : goal.invariant_of-result
invariant_of-result c =
    let own = c.loop-i in
    let a = c.args in
    let b = a.b.now in
    let all : own.i ≡ b.head.count = omega arith in
    record { indexed = subst (λ (n : ℕ). Corners a.among b.head.size b.bytes.now n own.corners) all own.invariant.1 }
