-- `fields::height_at` meets its contract. Assumes nothing.
use Prim.Native.Nat.{ℕ}
use mathlib.Core.Path.{ap}
use lib.ListN.{get_or}
use Rattle.promises.specs.Layout.{height_in}
use Rattle.memory.proofs.fields.height_at.Goals as goal

pub returns : goal.returns
unfolding height_in
returns c = ap (λ (o : ℕ). get_or c.args.m.now o 0) c.height_place.ensures
