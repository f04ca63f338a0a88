-- `unbeaten::chosen_bounds` meets its contract. Assumes nothing.
use Prim.Native.Nat.{ℕ, ◌%◌}
use mathlib.Core.Path.{subst}
use native.Mathlib.Omega.{arith}
use lib.Pow.{pow_pos}
use Rattle.zorder.proofs.Bits.{shl_one}
use Rattle.dominance.specs.Lanes.{Lanes, bound, is_chosen}
use Rattle.query.proofs.unbeaten.chosen_bounds.Goals as goal

pub nonzero_rem-set : goal.nonzero_rem-set
nonzero_rem-set c = omega (arith, shl_one 64 c.args.d (omega arith), pow_pos c.args.d)

pub returns : goal.returns
returns c =
    let a = c.args in
    subst (λ (n : ℕ). Lanes (bound (is_chosen (a.set % n)) a.q) c.bounds_in.result) (shl_one 64 a.d (omega arith)) c.bounds_in.ensures
