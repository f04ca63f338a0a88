use Prim.Native.Nat.{ℕ, ◌+◌}
use mathlib.Core.Path.{◌≡◌, subst}
use native.Mathlib.Omega.{arith}
use Rattle.search.specs.Search.{CornerWith}
use Rattle.search.specs.Laws.Search.{corner-none, corner-join}
use Rattle.search.proofs.search.run_corner.Goals as goal

pub loop-j-init : goal.loop-j-init
loop-j-init c = (omega arith, omega arith, corner-none _ _)

pub loop-j-preserved : goal.loop-j-preserved
loop-j-preserved c =
    let own = c.loop-j in
    let a = c.args in
    (omega arith, omega arith, corner-join a.i own.j (own.j + 1) a.low own.corner c.corner_with-lower.result own.invariant.2 c.corner_with-lower.ensures)

pub returns : goal.returns
returns c =
    let own = c.loop-j in
    let a = c.args in
    let b = a.b.now in
    let all : own.j ≡ a.to = omega arith in
    subst (λ (n : ℕ). CornerWith a.among b.head.size b.bytes.now a.i n a.low own.corner) all own.invariant.2
