use Prim.Native.Nat.{ℕ, ◌+◌, ◌-◌, ◌*◌, ◌/◌, ◌%◌, ◌^◌}
use mathlib.Core.Path.{refl, sym, ap, subst}
use native.Mathlib.Nat.{one-mul}
use native.Mathlib.Omega.{arith}
use lib.Bits.{bit_or}
use Rattle.zorder.specs.Address.{bit, cost_from_bits}
use Rattle.zorder.proofs.Bits.{and_one}
use Rattle.zorder.proofs.Digits.{Digits, Whole, digit-in, digits-end}
use Rattle.zorder.proofs.separate.cost_in.Goals.{In-loop-j}
use Rattle.zorder.proofs.separate.cost_in.Goals as goal

-- The bits of the cost, as digits of one bit.
cost-bits : (d e a : ℕ) → Digits 1 (λ (k : ℕ). bit (d * k + e) a) (λ (k : ℕ). cost_from_bits d e k a)
unfolding bit cost_from_bits
cost-bits d e a = record {
  none = refl;
  more = λ k. ap (λ (n : ℕ). bit (d * k + e) a * 2 ^ n + cost_from_bits d e k a) (sym (one-mul k));
  small = λ k. omega arith;
}

pub loop-j-preserved : goal.loop-j-preserved
unfolding bit
loop-j-preserved c =
    let a = c.args in
    let own = c.loop-j in
    let next : ℕ → ℕ = λ k. cost_from_bits a.d a.e k a.a in
    subst
    (λ (b : ℕ). Whole 1 next 16 (bit_or (own.c * 2 % 2 ^ 16) b) (own.j - 1))
    (sym (and_one (a.a / 2 ^ (a.d * (own.j - 1) + a.e))))
    (digit-in (cost-bits a.d a.e a.a) 16 16 own.c own.j (omega arith) c.loop-j-test.true own.invariant)

pub returns : goal.returns
returns c =
    let a = c.args in
    let own = c.loop-j in
    digits-end (cost-bits a.d a.e a.a) 16 own.c own.j c.loop-j-test.false own.invariant
