-- `stores::set_height` meets its contract. Assumes nothing.
use Prim.Native.Nat.{ℕ}
use mathlib.Core.Path.{ap}
use lib.ListN.{set}
use Rattle.memory.specs.Stores.{set_height}
use Rattle.memory.proofs.stores.set_height.Goals as goal

pub returns : goal.returns
unfolding set_height
returns c = let a = c.args in ap (λ (o : ℕ). set a.m.now o a.height) c.height_place.ensures
