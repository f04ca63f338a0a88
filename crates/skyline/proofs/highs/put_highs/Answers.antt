use Prim.Native.Nat.{ℕ}
use mathlib.Core.Path.{◌≡◌, subst}
use native.Mathlib.Omega.{arith}
use Rattle.skyline.specs.Chunks.{Highs}
use Rattle.skyline.specs.Laws.Highs.{highs-none, highs-more}
use Rattle.skyline.proofs.highs.put_highs.Goals as goal

pub loop-i-init : goal.loop-i-init
loop-i-init c = (omega arith, highs-none _ c.requires)

pub loop-i-preserved : goal.loop-i-preserved
loop-i-preserved c =
    let own = c.loop-i in
    let asked = c.args.b.now.readable in
    let e = c.run_end-e in
    (omega arith, highs-more own.i e.result own.highs c.run_high.result (omega (arith, asked.rows, asked.room)) e.ensures.2 own.invariant.1 c.run_high.ensures)

pub returns : goal.returns
returns c =
    let own = c.loop-i in
    let a = c.args in
    let b = a.b.now in
    let all : own.i ≡ b.head.count = omega arith in
    subst (λ (n : ℕ). Highs b.head.size b.head.dimension b.bytes.now n own.highs) all own.invariant.1
