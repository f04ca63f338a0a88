-- `stores::set_block` meets its contract. Assumes nothing.
use Prim.Native.Nat.{ℕ}
use mathlib.Core.Path.{ap}
use lib.ListN.{set}
use Rattle.memory.specs.Stores.{set_block}
use Rattle.memory.proofs.stores.set_block.Goals as goal

pub returns : goal.returns
unfolding set_block
returns c = let a = c.args in ap (λ (o : ℕ). set a.m.now o a.block) c.block_place.ensures
