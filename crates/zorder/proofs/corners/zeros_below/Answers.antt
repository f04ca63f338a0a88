-- `corners::zeros_below` meets its contract: shifting right and back loses only the last bits. Assumes nothing.
use Prim.Native.Nat.{◌^◌}
use native.Mathlib.Nat.{div-mul-le_self}
use native.Mathlib.Omega.{arith}
use Rattle.zorder.proofs.Laws.Corners.{zeros_below-one}
use Rattle.zorder.proofs.corners.zeros_below.Goals as goal

pub returns : goal.returns
returns c = omega (arith, div-mul-le_self c.args.c (2 ^ c.args.u), zeros_below-one c.args.u c.args.c)
