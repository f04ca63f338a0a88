-- `has` meets its contract. Assumes nothing.
use Prim.Native.Nat.{ℕ, ◌/◌, ◌%◌, ◌^◌}
use mathlib.Core.Path.{ap}
use lib.Bits.{and_mask}
use lib.Dec.{eqb}
use lib.ListN.{get_or}
use Rattle.numbers.specs.Set.{in_set}
use Rattle.numbers.proofs.has.Goals as goal

pub returns : goal.returns
unfolding in_set
returns c =
    let a = c.args in
    ap (λ (b : ℕ). eqb b 1) (and_mask (get_or a.set.now (a.n / 64) 0 / 2 ^ (a.n % 64)) 1)
