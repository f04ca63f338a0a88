-- A loop that takes in a number's digits of m bits, highest first, by a shift and an or.
-- Assumes nothing.
use Prim.Native.Nat.{ℕ, zero, suc, ◌+◌, ◌-◌, ◌*◌, ◌%◌, ◌^◌, ◌≤◌, ◌<◌}
use mathlib.Core.Path.{◌≡◌, ap, subst, ◌∙◌}
use native.Mathlib.Nat.{mul-suc, mul-zero, lt_of_lt_of_le, mul-le-mul_left}
use native.Mathlib.Omega.{arith}
use lib.Arith.{digits_lt}
use lib.Bits.{bit_or}
use lib.Pow.{pow_pos, pow-add, pow_mono}
use Rattle.zorder.proofs.Bits.{shl-or}

-- `value k` is the number of the digits k-1 to 0.
pub record Digits (m : ℕ) (digit value : ℕ → ℕ) : Type 0 where
  pub none : value 0 ≡ 0
  pub more : (k : ℕ) → value (suc k) ≡ digit k * 2 ^ (m * k) + value k
  pub small : (k : ℕ) → digit k < 2 ^ m

-- Between turns a, with the j digits to come, is the number of n digits.
abbrev pub Whole : ℕ → (ℕ → ℕ) → ℕ → ℕ → ℕ → Type 0
Whole m value n a j = a * 2 ^ (m * j) + value j ≡ value n

module _ {m : ℕ} {digit value : ℕ → ℕ} (D : Digits m digit value) where
  power : (k : ℕ) → 2 ^ (m * suc k) ≡ 2 ^ m * 2 ^ (m * k)
  power k = ap (λ (n : ℕ). 2 ^ n) (omega (arith, mul-suc m k)) ∙ pow-add 2 m (m * k)

  pub value-lt : (k : ℕ) → value k < 2 ^ (m * k)
  value-lt zero = rw (D.none, mul-zero) (omega arith)
  value-lt (suc k) = rw (D.more k, power k) (digits_lt (D.small k) (value-lt k))

  -- One digit more, and room for it.
  digit-more-suc : (n a k : ℕ) → Whole m value n a (suc k) → Whole m value n (a * 2 ^ m + digit k) k × (a * 2 ^ m < 2 ^ (m * n))
  digit-more-suc n a k inv =
      let sum : a * (2 ^ m * 2 ^ (m * k)) + (digit k * 2 ^ (m * k) + value k) ≡ value n = rw (power k, D.more k) at inv in
      (omega arith, omega (arith, mul-le-mul_left (a * 2 ^ m) (pow_pos (m * k)), value-lt n))

  pub digit-more : (n a j : ℕ) → 0 < j → Whole m value n a j → Whole m value n (a * 2 ^ m + digit (j - 1)) (j - 1) × (a * 2 ^ m < 2 ^ (m * n))
  digit-more n a j some inv =
      let last : j ≡ suc (j - 1) = omega arith in
      digit-more-suc n a (j - 1) (subst (Whole m value n a) last inv)

  pub digit-in : (w n a j : ℕ) → m * n ≤ w → 0 < j → Whole m value n a j → Whole m value n (bit_or (a * 2 ^ m % 2 ^ w) (digit (j - 1))) (j - 1)
  digit-in w n a j room some inv =
      let next = digit-more n a j some inv in
      rw (shl-or w m a (digit (j - 1)) (lt_of_lt_of_le next.1 (pow_mono room)) (D.small (j - 1))) next.0

  pub digits-end : (n a j : ℕ) → j ≤ 0 → Whole m value n a j → a ≡ value n
  digits-end n a j end inv =
      let last : j ≡ 0 = omega arith in
      omega (arith, rw (mul-zero m, D.none) at (subst (Whole m value n a) last inv))
