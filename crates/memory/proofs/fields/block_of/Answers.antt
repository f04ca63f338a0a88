-- `fields::block_of` meets its contract. Assumes nothing.
use Prim.Native.Nat.{ℕ}
use mathlib.Core.Path.{ap}
use lib.ListN.{get_or}
use Rattle.promises.specs.Layout.{block_in}
use Rattle.memory.proofs.fields.block_of.Goals as goal

pub returns : goal.returns
unfolding block_in
returns c = ap (λ (o : ℕ). get_or c.args.m.now o 0) c.block_place.ensures
