-- `set_factor` meets its contract. Assumes nothing.
use native.Mathlib.Omega.{arith}
use Rattle.dominance.specs.Laws.Tests.{bit-number}
use Rattle.dominance.proofs.set_factor.Goals as goal

pub returns : goal.returns
returns c = (bit-number c.args.set c.args.i, omega arith)
