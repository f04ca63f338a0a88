-- `corners::ones_below` meets its contract: the bits that `zeros_below` cleared hold the ones. Assumes nothing.
use Prim.Native.Nat.{ℕ, ◌*◌, ◌/◌, ◌^◌}
use mathlib.Core.Path.{◌≡◌, ◌∙◌}
use native.Mathlib.Omega.{arith}
use lib.Pow.{pow_mono}
use Rattle.zorder.proofs.Laws.Corners.{zeros_below-one, ones_below-one}
use Rattle.zorder.proofs.Bits.{fill-ones-lt}
use Rattle.zorder.proofs.corners.ones_below.Goals as goal

pub overflow_add-result : goal.overflow_add-result
overflow_add-result c =
    let u : ℕ = c.args.u in
    let a : ℕ = c.args.c in
    let shifted : c.zeros_below.result ≡ a / 2 ^ u * 2 ^ u = c.zeros_below.ensures ∙ zeros_below-one u a in
    omega (arith, pow_mono c.requires, fill-ones-lt 16 u a c.requires c.ranges.c.fits)

pub returns : goal.returns
returns c =
    let u : ℕ = c.args.u in
    let a : ℕ = c.args.c in
    omega (arith, pow_mono c.requires, c.zeros_below.ensures ∙ zeros_below-one u a, ones_below-one u a)
