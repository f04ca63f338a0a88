-- `foresee::needed` meets its contract. Assumes nothing.
use Prim.Native.Nat.{ℕ, ◌+◌}
use mathlib.Core.Bool.{Bool, cond}
use mathlib.Core.Path.{◌≡◌, sym, ap}
use native.Mathlib.Omega.{arith}
use Rattle.planning.specs.Change.{needed_rows}
use Rattle.planning.proofs.foresee.needed.Goals as goal

pub returns-then-u : goal.returns-then-u
unfolding needed_rows
returns-then-u c =
    let u = c.args.u in
    ap (λ (b : Bool). u.left + u.entered + cond b 1 0) (sym c.if-u.true)

pub returns : goal.returns
unfolding needed_rows
returns c =
    let u = c.args.u in
    let none : ◌≡◌ {A = ℕ} (cond u.listed 1 0) 0 = ap (λ (b : Bool). cond b 1 0) c.if-u.false in
    omega arith
