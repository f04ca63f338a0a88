-- One bit of a number set, and the others left.
-- Assumes nothing.
use Prim.Native.Nat.{ℕ, suc, ◌+◌, ◌-◌, ◌/◌, ◌%◌, ◌^◌, ◌<◌, max}
use mathlib.Core.Bool.{true}
use mathlib.Core.Logic.{◌≢◌}
use mathlib.Core.Path.{◌≡◌, ap, ◌∙◌}
use native.Mathlib.Decide.{dec_lt}
use native.Mathlib.Nat.{mod-lt, div_self, div-eq_of_lt, pow-suc, mul-mod_left, zero-lt-suc}
use native.Mathlib.Omega.{arith}
use borrow.Author.Tests.{eq-eqb}
use lib.Arith.{digits_mod}
use lib.Bits.{bit_or, or_step, or_shr}
use lib.Dec.{eqb}
use lib.Pow.{pow_pos, pow-lt, pow-add, shl-shr}

odd-lt : (n : ℕ) → n % 2 < 2
odd-lt n = mod-lt n (zero-lt-suc 1)

or-bit : (a b j : ℕ) → bit_or a b / 2 ^ j % 2 ≡ max (a / 2 ^ j % 2) (b / 2 ^ j % 2)
or-bit a b j =
    ap (λ (x : ℕ). x % 2) (or_shr a b j ∙ or_step (a / 2 ^ j) (b / 2 ^ j))
    ∙ digits_mod (bit_or (a / 2 ^ j / 2) (b / 2 ^ j / 2)) (omega (arith, odd-lt (a / 2 ^ j), odd-lt (b / 2 ^ j)))

power-bit-same : (i : ℕ) → 2 ^ i / 2 ^ i % 2 ≡ 1
power-bit-same i = ap (λ (x : ℕ). x % 2) (div_self (pow_pos i))

power-bit-other : (i j : ℕ) → j ≢ i → 2 ^ i / 2 ^ j % 2 ≡ 0
power-bit-other i j ne = by_order (dec_lt i j)
  where
    by_order : Dec (i < j) → 2 ^ i / 2 ^ j % 2 ≡ 0
    by_order (yes l) = ap (λ (x : ℕ). x % 2) (div-eq_of_lt (pow-lt l))
    by_order (no l) =
        let k : ℕ = i - j - 1 in
        let parts : i ≡ suc k + j = omega arith in
        ap (λ (n : ℕ). 2 ^ n / 2 ^ j % 2) parts
        ∙ ap (λ (x : ℕ). x / 2 ^ j % 2) (pow-add 2 (suc k) j)
        ∙ ap (λ (x : ℕ). x % 2) (shl-shr (2 ^ suc k) j ∙ pow-suc 2 k)
        ∙ mul-mod_left (2 ^ k) 2

-- A word with bit i set.
pub set-bit-same : (a i : ℕ) → eqb (bit_or a (2 ^ i) / 2 ^ i % 2) 1 ≡ true
set-bit-same a i = eq-eqb _ 1 (or-bit a (2 ^ i) i ∙ omega (arith, power-bit-same i, odd-lt (a / 2 ^ i)))

pub set-bit-other : (a i j : ℕ) → j ≢ i → bit_or a (2 ^ i) / 2 ^ j % 2 ≡ a / 2 ^ j % 2
set-bit-other a i j ne = or-bit a (2 ^ i) j ∙ omega (arith, power-bit-other i j ne)
