-- A set of costs as a number: the part of it among the first d, and the set of the first d.
use Rattle.std.specs.Prelude.{ℕ, ◌+◌, ◌-◌, ◌/◌, ◌%◌, ◌^◌, ◌≤◌, ◌<◌, Bool, ◌++◌, ◌≡◌, eqb}
use Rattle.std.proofs.Common.{append-nil, sym, ap, ap₂, ◌∙◌, mod-eq_of_lt, mod-lt, lt_of_lt_of_le, arith, eq-eqb, pow_pos, pow_mono}
use Rattle.std.proofs.Math.Nat.{div-eq_of_lt}
use Rattle.std.proofs.Math.Pow.{field, mod-mod-pow, ones_lt, ones_split, high, low}
use Rattle.model.specs.Basics.{Each, select, numbers_from}
use Rattle.model.specs.Lists.{chosen_costs}
use Rattle.model.proofs.Laws.Basics.{each-select, select-append, select-ext, select-all, select-none}
use Rattle.model.proofs.Laws.Range.{each-numbers, each-place, numbers-append}

-- ---- bit i of a number

-- Of what is left below 2 to the power d, the bits below d are the number's, ..
bit-within : (set d i : ℕ) → i < d → set % 2 ^ d / 2 ^ i % 2 ≡ set / 2 ^ i % 2
bit-within set d i h =
    let e : d ≡ d - i - 1 + 1 + i = omega arith in
    ap (λ (k : ℕ). set % 2 ^ k / 2 ^ i % 2) e
    ∙ ap (λ (n : ℕ). n % 2) (field set (d - i - 1 + 1) i)
    ∙ mod-mod-pow (set / 2 ^ i) (d - i - 1) 1

-- .. and there are no others.
bit_past : (set d i : ℕ) → d ≤ i → set % 2 ^ d / 2 ^ i % 2 ≡ 0
bit_past set d i h = ap (λ (n : ℕ). n % 2) (div-eq_of_lt (lt_of_lt_of_le (mod-lt set (pow_pos d)) (pow_mono h)))

-- All bits below d are those of the number before 2 to the power d.
ones_odd : (k : ℕ) → (2 ^ (k + 1) - 1) % 2 ≡ 1
ones_odd k = ap (λ (n : ℕ). n % 2) (ones_split k 1) ∙ low (2 ^ k - 1) 1 {lo = 1} (omega arith)

pub bit-first : (d i : ℕ) → i < d → (2 ^ d - 1) / 2 ^ i % 2 ≡ 1
bit-first d i h =
    let e : d ≡ d - i - 1 + 1 + i = omega arith in
    ap (λ (k : ℕ). (2 ^ k - 1) / 2 ^ i % 2) e
    ∙ ap (λ (n : ℕ). n / 2 ^ i % 2) (ones_split (d - i - 1 + 1) i)
    ∙ ap (λ (n : ℕ). n % 2) (high (2 ^ (d - i - 1 + 1) - 1) i (ones_lt i))
    ∙ ones_odd (d - i - 1)

pub bit-past-first : (d i : ℕ) → d ≤ i → (2 ^ d - 1) / 2 ^ i % 2 ≡ 0
bit-past-first d i h = ap (λ (n : ℕ). n / 2 ^ i % 2) (sym (mod-eq_of_lt (ones_lt d))) ∙ bit_past (2 ^ d - 1) d i h

-- ---- the costs of a set

-- They are among the first d.
pub chosen-below : (d set : ℕ) → Each (λ i. i < d) (chosen_costs d set)
unfolding chosen_costs
chosen-below d set = each-select _ (λ i. i < d) (numbers_from 0 d) (each-place (λ i. i < d) d (λ i l. l))

pub chosen-within : (n d set : ℕ) → d ≤ n → chosen_costs n (set % 2 ^ d) ≡ chosen_costs d set
unfolding chosen_costs
chosen-within n d set h =
    let e : n ≡ d + (n - d) = omega arith in
    ap (λ (k : ℕ). select within (numbers_from 0 k)) e
    ∙ ap (select within) (numbers-append 0 d (n - d))
    ∙ select-append within (numbers_from 0 d) (numbers_from (0 + d) (n - d))
    ∙ ap₂ ◌++◌
    (select-ext within (λ i. eqb (set / 2 ^ i % 2) 1) (numbers_from 0 d) (each-place _ d (λ i l. ap (λ (b : ℕ). eqb b 1) (bit-within set d i l))))
    (select-none within (numbers_from (0 + d) (n - d)) (each-numbers _ (0 + d) (n - d) (λ i l _. ap (λ (b : ℕ). eqb b 1) (bit_past set d i (omega arith)))))
    ∙ append-nil (select (λ i. eqb (set / 2 ^ i % 2) 1) (numbers_from 0 d))
  where
    within : ℕ → Bool
    within i = eqb (set % 2 ^ d / 2 ^ i % 2) 1

all-chosen : (d : ℕ) → chosen_costs d (2 ^ d - 1) ≡ numbers_from 0 d
unfolding chosen_costs
all-chosen d = select-all (λ i. eqb ((2 ^ d - 1) / 2 ^ i % 2) 1) (numbers_from 0 d) (each-place _ d (λ i l. eq-eqb _ 1 (bit-first d i l)))

pub chosen-first : (n d : ℕ) → d ≤ n → chosen_costs n (2 ^ d - 1) ≡ numbers_from 0 d
chosen-first n d h = ap (chosen_costs n) (sym (mod-eq_of_lt (ones_lt d))) ∙ chosen-within n d (2 ^ d - 1) h ∙ all-chosen d
