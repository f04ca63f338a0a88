-- `blocks::entries_read` meets its contract. Assumes nothing.
use native.Mathlib.Omega.{arith}
use lib.ListN.{length-take}
use Rattle.model.specs.Hours.{block_count}
use Rattle.hours.proofs.blocks.entries_read.Goals as goal

pub returns : goal.returns
returns c = omega (arith, length-take block_count c.args.hours.now)
