-- `separate::too_large` meets its contract: an address below the power has that many leading zeros. Assumes nothing.
use Prim.Native.Nat.{◌*◌}
use native.Mathlib.Omega.{arith}
use Rattle.zorder.specs.Refusal.{address_bad}
use Rattle.zorder.proofs.Bits.{leading-large}
use Rattle.zorder.proofs.separate.too_large.Goals as goal

pub returns : goal.returns
unfolding address_bad
returns c = leading-large 128 (16 * c.args.d) c.args.a (omega arith) (omega arith)
