-- `fields::is_listed` meets its contract. Assumes nothing.
use Prim.Native.Nat.{ℕ}
use mathlib.Core.Path.{ap}
use lib.Dec.{eqb}
use lib.ListN.{get_or}
use Rattle.promises.specs.Layout.{flag_in}
use Rattle.memory.proofs.fields.is_listed.Goals as goal

pub returns : goal.returns
unfolding flag_in
returns c = ap (λ (o : ℕ). eqb (get_or c.args.m.now o 0) 1) c.flag_place.ensures
