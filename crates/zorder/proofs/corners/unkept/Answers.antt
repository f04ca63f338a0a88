-- `corners::unkept` meets its contract: the groups that agree are those whose bits are all leading zeros of the exclusive or.
-- Assumes nothing.
use Prim.Native.Nat.{ℕ, ◌-◌, ◌*◌, ◌/◌, ◌^◌, ◌≤◌, ◌<◌}
use mathlib.Core.Logic.{◌↔◌}
use mathlib.Core.Path.{◌≡◌, sym, ◌∙◌}
use native.Mathlib.Nat.{mul_comm, div-le_of_le-mul, div-eq_of_lt, lt_of_lt_of_le}
use native.Mathlib.Omega.{arith}
use lib.Bits.{bit_xor}
use lib.Count.{count_leading_zeros, leading_le}
use lib.Pow.{pow_mono}
use Rattle.zorder.specs.Address.{row_costs}
use Rattle.zorder.specs.Region.{unkept}
use Rattle.zorder.proofs.Laws.Region.{unkept-unique}
use Rattle.zorder.proofs.Bits.{round-up-iff, shr-eq-leading}
use Rattle.zorder.proofs.corners.unkept.Goals.{Start}
use Rattle.zorder.proofs.corners.unkept.Goals as goal

-- What the code counts, of two addresses of d costs.
record Counted (d a b zeros : ℕ) : Type 0 where
  room : 128 - 16 * d ≤ zeros
  most : (zeros - (128 - 16 * d)) / d ≤ 16
  count : 16 - (zeros - (128 - 16 * d)) / d ≡ unkept d a b

counted : (d a b : ℕ) → 1 ≤ d → d ≤ row_costs → a < 2 ^ (16 * d) → b < 2 ^ (16 * d) → Counted d a b (count_leading_zeros 128 (bit_xor a b))
counted d a b some few f h =
    let zeros : ℕ = count_leading_zeros 128 (bit_xor a b) in
    let m : ℕ = 128 - zeros in
    let fit : 16 * d ≤ 128 = omega arith in
    let agree = shr-eq-leading 128 a b (lt_of_lt_of_le f (pow_mono fit)) (lt_of_lt_of_le h (pow_mono fit)) in
    let within : m ≤ 16 * d = (agree (16 * d)).0 (div-eq_of_lt f ∙ sym (div-eq_of_lt h)) in
    let past : 16 * d - m ≡ zeros - (128 - 16 * d) = omega (arith, leading_le 128 (bit_xor a b)) in
    let turned : 16 * d ≡ d * 16 = mul_comm 16 d in
    record {
      room = omega arith;
      most = div-le_of_le-mul d (omega (arith, leading_le 128 (bit_xor a b)));
      count =
          unkept-unique d a b (16 - (zeros - (128 - 16 * d)) / d) (rw turned at f) (rw turned at h) (omega arith) λ u l.
          let by_length = agree (d * u) in
          let by-group : (m ≤ d * u) ↔ (16 - (zeros - (128 - 16 * d)) / d ≤ u) = rw past at (round-up-iff 16 d m u some within l) in
          (λ e. by-group.0 (by_length.0 e), λ k. by_length.1 (by-group.1 k));
    }

counted-here : (c : Start) → Counted c.args.d c.args.a c.args.b (count_leading_zeros 128 (bit_xor c.args.a c.args.b))
counted-here c = counted c.args.d c.args.a c.args.b c.requires.0 c.requires.1 c.requires.2 c.requires.3

pub overflow_sub-result-2 : goal.overflow_sub-result-2
overflow_sub-result-2 c = (counted-here c).room

pub returns : goal.returns
returns c = ((counted-here c).count, omega arith)
