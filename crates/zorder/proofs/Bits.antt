-- What shifts, masks and a count of leading zeros give, as arithmetic.
-- Assumes nothing.
use Prim.Native.Nat.{ℕ, ◌+◌, ◌-◌, ◌*◌, ◌/◌, ◌%◌, ◌^◌, ◌≤◌, ◌<◌}
use mathlib.Core.Bool.{Bool, true, false}
use mathlib.Core.Logic.{◌↔◌}
use mathlib.Core.Path.{◌≡◌, refl, sym, ap, subst, ◌∙◌}
use native.Mathlib.Nat.{mod-eq_of_lt, div-eq_of_lt, div-lt_iff_lt-mul, le-div_iff_mul-le, add-mul, sub-add_cancel, lt_of_lt_of_le, lt_of_not-le, le_of_suc-le-suc, pow-suc, one-mul}
use native.Mathlib.Omega.{arith}
use borrow.Author.Tests.{leb-true, leb-false, lt-ltb, le-ltb}
use lib.Bits.{bit_and, bit_or, bit_xor, and_mask, or_shifted, and_le_l, and_le_r, or_add_and, xor_add_and, xor_self, xor_lt, xor_shr}
use lib.Count.{count_leading_zeros, leading_le, leading_length}
use lib.Dec.{leb, ltb}
use lib.Arith.{digits_lt}
use lib.Pow.{pow_pos, pow_mono, pow-add, shl_exact, shr_lt, ones_lt}

-- A mask of one bit.
pub and_one : (n : ℕ) → bit_and n 1 ≡ n % 2
and_one n = and_mask n 1

-- A shift to the left that loses nothing, with the freed bits filled in.
pub shl-or : (w k a b : ℕ) → a * 2 ^ k < 2 ^ w → b < 2 ^ k → bit_or (a * 2 ^ k % 2 ^ w) b ≡ a * 2 ^ k + b
shl-or w k a b fits small = ap (λ (x : ℕ). bit_or x b) (mod-eq_of_lt fits) ∙ or_shifted a k b small

-- One bit, shifted within the width.
pub shl_one : (w k : ℕ) → k < w → 1 * 2 ^ k % 2 ^ w ≡ 2 ^ k
shl_one w k h = shl_exact {a = 1} 1 k w (omega arith) (omega arith) ∙ one-mul (2 ^ k)

-- A shift to the right leaves 0 of the numbers below the power, and of no others.
pub lt-of-shr-zero : (a k : ℕ) → a / 2 ^ k ≡ 0 → a < 2 ^ k
lt-of-shr-zero a k e = omega (arith, (div-lt_iff_lt-mul {x = a} {y = 1} (pow_pos k)).0 (omega arith))

-- Ones in the place of a number's last u bits keep it within its width.
pub fill-ones-lt : (w u a : ℕ) → u ≤ w → a < 2 ^ w → a / 2 ^ u * 2 ^ u + (2 ^ u - 1) < 2 ^ w
fill-ones-lt w u a within fits =
    let same : w - u + u ≡ w = sub-add_cancel within in
    subst
    (λ (n : ℕ). a / 2 ^ u * 2 ^ u + (2 ^ u - 1) < n)
    (sym (pow-add 2 (w - u) u) ∙ ap (λ (k : ℕ). 2 ^ k) same)
    (digits_lt (shr_lt (w - u) u (rw same fits)) (ones_lt u))

-- ---- numbers that differ

-- An exclusive or is 0 of equal numbers alone.
pub xor-zero-iff : (a b : ℕ) → (a ≡ b) ↔ (bit_xor a b ≡ 0)
xor-zero-iff a b = (
  λ e. ap (bit_xor a) (sym e) ∙ xor_self a,
  λ z. omega (arith, xor_add_and a b, and_le_l a b, and_le_r a b),
)

-- An or is 0 where both its parts are.
pub or-zero-iff : (a b : ℕ) → (bit_or a b ≡ 0) ↔ ((a ≡ 0) × (b ≡ 0))
or-zero-iff a b = (
  λ z. omega (arith, or_add_and a b, and_le_l a b, and_le_r a b),
  λ e. omega (arith, or_add_and a b),
)

-- Above bit k two numbers agree where nothing of their exclusive or is left.
pub shr-eq-iff : (a b k : ℕ) → (a / 2 ^ k ≡ b / 2 ^ k) ↔ (bit_xor a b / 2 ^ k ≡ 0)
shr-eq-iff a b k =
    let same = xor-zero-iff (a / 2 ^ k) (b / 2 ^ k) in
    (λ e. xor_shr a b k ∙ same.0 e, λ z. same.1 (sym (xor_shr a b k) ∙ z))

-- ---- leading zeros

-- m is the length of a.
length-le : (a k m : ℕ) → a < 2 ^ k → 2 ^ m ≤ 2 * a + 1 → m ≤ k
length-le a k m below reach = le_of_suc-le-suc (lt_of_not-le (λ l. omega (arith, pow-suc 2 k, pow_mono l)))

-- A shift by k leaves nothing where all places from k on are leading zeros.
pub shr-zero-iff : (w a : ℕ) → a < 2 ^ w → (k : ℕ) → (a / 2 ^ k ≡ 0) ↔ (w - count_leading_zeros w a ≤ k)
shr-zero-iff w a fits k =
    let s = leading_length w a fits in (
      λ z. omega (arith, s.1, length-le a k s.0 (lt-of-shr-zero a k z) s.3),
      λ l. div-eq_of_lt (lt_of_lt_of_le s.2 (pow_mono {i = s.0} (omega (arith, s.1)))),
    )

-- Fewer leading zeros than w - k are those of a number that has a bit from k on.
pub leading-large : (w k a : ℕ) → a < 2 ^ w → k ≤ w → ltb (count_leading_zeros w a) (w - k) ≡ leb (2 ^ k) a
leading-large w k a fits within = by-test (leb (2 ^ k) a) refl
  where
    left : (a / 2 ^ k ≡ 0) ↔ (w - count_leading_zeros w a ≤ k)
    left = shr-zero-iff w a fits k

    by-test : (b : Bool) → leb (2 ^ k) a ≡ b → ltb (count_leading_zeros w a) (w - k) ≡ b
    by-test true e = lt-ltb (count_leading_zeros w a) (w - k) (lt_of_not-le (λ l. omega (arith, lt-of-shr-zero a k (left.1 (omega arith)), leb-true (2 ^ k) a e)))
    by-test false e = le-ltb (count_leading_zeros w a) (w - k) (omega (arith, left.0 (div-eq_of_lt (leb-false (2 ^ k) a e)), leading_le w a))

-- Two numbers of w bits agree from bit k on where all places from k on are leading zeros of their exclusive or.
pub shr-eq-leading : (w a b : ℕ) → a < 2 ^ w → b < 2 ^ w → (k : ℕ) → (a / 2 ^ k ≡ b / 2 ^ k) ↔ (w - count_leading_zeros w (bit_xor a b) ≤ k)
shr-eq-leading w a b f h k =
    let differ = shr-eq-iff a b k in
    let left = shr-zero-iff w (bit_xor a b) (xor_lt w a b f h) k in
    (λ e. left.0 (differ.0 e), λ l. differ.1 (left.1 l))

-- n - (n * d - m) / d is m / d rounded up: so many groups of d bits hold m bits.
pub round-up-iff : (n d m u : ℕ) → 1 ≤ d → m ≤ n * d → u ≤ n → (m ≤ d * u) ↔ (n - (n * d - m) / d ≤ u)
round-up-iff n d m u some most few =
    let left : n - u + u ≡ n = omega arith in
    let parts : (n - u) * d + u * d ≡ n * d = sym (add-mul (n - u) u d) ∙ ap (λ (k : ℕ). k * d) left in
    let above = le-div_iff_mul-le {k = d} {x = n - u} {y = n * d - m} some in
    (λ l. omega (arith, above.1 (omega arith)), λ l. omega (arith, above.0 (omega arith)))
