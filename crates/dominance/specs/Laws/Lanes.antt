-- Rows place by place: a loop that fills one, the lesser of two, and bounds, which are nowhere less exactly where the costs of
-- their test are.
use Rattle.std.specs.Prelude.{ℕ, zero, suc, ◌+◌, ◌-◌, ◌*◌, ◌≤◌, ◌<◌, Bool, true, false, List, ◌≡◌, refl, eqb, ltb, length, set, take}
use Rattle.std.proofs.Math.Bool.{cond}
use Rattle.std.proofs.Common.{sym, ap, ◌∙◌, subst, zero-mul, one-mul, arith, length-set, get_or-set_same, get_or-set_other, get_or-take, length-take-le}
use Rattle.std.proofs.Math.Decide.{ℕ_discrete, dec_lt}
use borrow.Author.Tests.{ltb-true, ltb-false, lt-ltb}
use Rattle.std.proofs.Math.ListN.{get_or, get_or-eq_default}
use Rattle.zorder.specs.Address.{row_costs}
use Rattle.model.specs.Dominance.{less, nowhere_greater}
use Rattle.model.proofs.Laws.Bool.{test_cases, same_test}
use Rattle.model.proofs.Laws.Dominance.{nowhere-greater-places, places-nowhere-greater, take-same-length}
use Rattle.dominance.specs.Lanes.{Lanes, bound, is_first, lesser, greater}

-- ---- a choice by a factor

pub chosen-number : (k a b : ℕ) → k < 2 → k * a + (1 - k) * b ≡ cond (eqb k 1) a b
chosen-number zero a b h = omega (arith, zero-mul a, one-mul b)
chosen-number (suc zero) a b h = omega (arith, one-mul a, zero-mul b)
chosen-number (suc (suc k)) a b h = absurd (omega arith)

pub chosen-small : (k a b n : ℕ) → k < 2 → a < n → b < n → k * a + (1 - k) * b < n
chosen-small k a b n h l g =
    subst (λ (x : ℕ). x < n) (sym (chosen-number k a b h)) (test_cases (λ t. cond t a b < n) (eqb k 1) (λ e. l) (λ e. g))

pub factor-test : (t : Bool) → eqb (cond t 1 0) 1 ≡ t
factor-test true = refl
factor-test false = refl

-- ---- a loop that fills a row

-- The first i places are filled.
pub record FilledTo (f : ℕ → ℕ) (i : ℕ) (row : List ℕ) : Type 0 where
  pub wide : length row ≡ row_costs
  pub holds : (k : ℕ) → k < i → get_or row k 0 ≡ f k

pub filled_none : (f : ℕ → ℕ) (row : List ℕ) → length row ≡ row_costs → FilledTo f 0 row
filled_none f row e = record { wide = e; holds = λ k l. absurd (omega arith) }

pub filled_more : {f : ℕ → ℕ} {i : ℕ} {row : List ℕ} (v : ℕ) → FilledTo f i row → i < row_costs → v ≡ f i → FilledTo f (i + 1) (set row i v)
filled_more {f} {i} {row} v h l e = record { wide = length-set row i v ∙ h.wide; holds = λ k m. go k m (ℕ_discrete k i) }
  where
    go : (k : ℕ) → k < i + 1 → Dec (k ≡ i) → get_or (set row i v) k 0 ≡ f k
    go k m (yes same) = ap (λ (j : ℕ). get_or (set row i v) j 0) same ∙ get_or-set_same row i v 0 (omega (arith, h.wide)) ∙ e ∙ ap f (sym same)
    go k m (no other) = get_or-set_other row i k v 0 other ∙ h.holds k (omega arith)

pub filled-all : {f : ℕ → ℕ} {i : ℕ} {row : List ℕ} → FilledTo f i row → row_costs ≤ i → Lanes f row
filled-all h l = record { wide = h.wide; holds = λ k m. h.holds k (omega arith) }

-- ---- the lesser and the greater of two

-- What one number is above the other, by the greater of both.
pub over-number : (a b : ℕ) → (b ≤ cond (less b a) a b) × (cond (less b a) a b - b ≡ a - b)
unfolding less
over-number a b =
    test_cases (λ t. (b ≤ cond t a b) × (cond t a b - b ≡ a - b)) (ltb b a)
    (λ e. (omega (arith, ltb-true b a e), omega arith))
    (λ e. (omega arith, omega (arith, ltb-false b a e)))

module _ (p q : List ℕ) (i : ℕ) where
  pub lesser-number : get_or p i 0 - (get_or p i 0 - get_or q i 0) ≡ lesser p q i
  unfolding less
  lesser-number =
      test_cases (λ t. get_or p i 0 - (get_or p i 0 - get_or q i 0) ≡ cond t (get_or q i 0) (get_or p i 0)) (ltb (get_or q i 0) (get_or p i 0))
      (λ e. omega (arith, ltb-true (get_or q i 0) (get_or p i 0) e))
      (λ e. omega (arith, ltb-false (get_or q i 0) (get_or p i 0) e))

  pub greater-number : get_or p i 0 + (get_or q i 0 - get_or p i 0) ≡ greater p q i
  unfolding less
  greater-number =
      test_cases (λ t. get_or p i 0 + (get_or q i 0 - get_or p i 0) ≡ cond t (get_or q i 0) (get_or p i 0)) (ltb (get_or p i 0) (get_or q i 0))
      (λ e. omega (arith, ltb-true (get_or p i 0) (get_or q i 0) e))
      (λ e. omega (arith, ltb-false (get_or p i 0) (get_or q i 0) e))

  pub lesser-below : (lesser p q i ≤ get_or p i 0) × (lesser p q i ≤ get_or q i 0)
  lesser-below = (omega (arith, lesser-number), omega (arith, lesser-number))

  pub greater-above : (get_or p i 0 ≤ greater p q i) × (get_or q i 0 ≤ greater p q i)
  greater-above = (omega (arith, greater-number), omega (arith, greater-number))

-- ---- bounds

-- p is nowhere greater than q at the places that pass the test.
abbrev pub WithinAt : (ℕ → Bool) → List ℕ → List ℕ → Type 0
WithinAt test p q = (i : ℕ) → i < row_costs → test i ≡ true → get_or p i 0 ≤ get_or q i 0

module _ (test : ℕ → Bool) (p q l : List ℕ) (bounds : Lanes (bound test q) l) (wide : length p ≡ row_costs) where
  pub bounds-places : nowhere_greater p l ≡ true → WithinAt test p q
  bounds-places h i k e =
      omega (arith, nowhere-greater-places p l (wide ∙ sym bounds.wide) h i, bounds.holds i k ∙ ap (λ (t : Bool). cond t (get_or q i 0) 65535) e)

  pub places-bounds : ((i : ℕ) → get_or p i 0 < 65536) → WithinAt test p q → nowhere_greater p l ≡ true
  places-bounds small h = places-nowhere-greater p l (λ i. go i (dec_lt i row_costs))
    where
      go : (i : ℕ) → Dec (i < row_costs) → get_or p i 0 ≤ get_or l i 0
      go i (no k) = omega (arith, get_or-eq_default p 0 {n = i} (omega arith))
      go i (yes k) =
          subst (λ (x : ℕ). get_or p i 0 ≤ x) (sym (bounds.holds i k))
          (test_cases (λ t. get_or p i 0 ≤ cond t (get_or q i 0) 65535) (test i) (h i k) (λ e. omega (arith, small i)))

-- On the first d costs.
module _ (d : ℕ) (p q l : List ℕ) (few : d ≤ row_costs) (bounds : Lanes (bound (is_first d) q) l) (wide : length p ≡ row_costs) (count : length q ≡ row_costs) (small : (i : ℕ) → get_or p i 0 < 65536) where
  pub bounds-first : nowhere_greater p l ≡ nowhere_greater (take d p) (take d q)
  bounds-first =
      same_test (nowhere_greater p l) (nowhere_greater (take d p) (take d q))
      (λ h. places-nowhere-greater (take d p) (take d q) (λ i. forth h i (dec_lt i d)))
      (λ h. places-bounds (is_first d) p q l bounds wide small (λ i k e. back h i (ltb-true i d e)))
    where
      taken : (x : List ℕ) → length x ≡ row_costs → (i : ℕ) → d ≤ i → get_or (take d x) i 0 ≡ 0
      taken x e i k = get_or-eq_default (take d x) 0 {n = i} (omega (arith, length-take-le d x (omega arith)))

      forth : nowhere_greater p l ≡ true → (i : ℕ) → Dec (i < d) → get_or (take d p) i 0 ≤ get_or (take d q) i 0
      forth h i (yes k) =
          omega (arith, get_or-take d p i 0 k, get_or-take d q i 0 k, bounds-places (is_first d) p q l bounds wide h i (omega arith) (lt-ltb i d k))
      forth h i (no k) = omega (arith, taken p wide i (omega arith))

      back : nowhere_greater (take d p) (take d q) ≡ true → (i : ℕ) → i < d → get_or p i 0 ≤ get_or q i 0
      back h i k =
          omega (arith, get_or-take d p i 0 k, get_or-take d q i 0 k, nowhere-greater-places (take d p) (take d q) (take-same-length d p q (wide ∙ sym count)) h i)
