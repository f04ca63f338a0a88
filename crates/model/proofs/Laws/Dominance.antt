-- Dominance by places, and its laws.
use Rattle.std.specs.Prelude.{ℕ, zero, suc, ◌≤◌, ◌<◌, min, true, false, not, ◌&&◌, ◌||◌, ◌≡◌, refl, List, [], ◌∷◌, ltb, length, get_or, take}
use Rattle.std.proofs.Math.Bool.{Bool, and-false}
use Rattle.std.proofs.lemmas.Bool.{false≢true}
use Rattle.std.proofs.Common.{sym, ◌∙◌, ap, le_refl, le_trans, lt_irrefl, lt_of_lt_of_le, lt_of_le_of_lt, arith, length-take, ltb-true, ltb-false, lt-ltb, le-ltb}
use Rattle.std.proofs.Math.Nat.{suc_inj}
use Rattle.std.proofs.Math.ListN.{get_or-eq_default}
use Rattle.std.proofs.Math.Seq.{get_or-take}
use Rattle.zorder.specs.Between.{RowCosts, row_costs, before}
use Rattle.zorder.proofs.Laws.Between.{earlier}
use Rattle.model.specs.Basics.{parts, numbers_from}
use Rattle.model.specs.Dominance.{less, nowhere_greater, somewhere_less, better, dominates, at, dominates_at, dominates_on}
use Rattle.model.proofs.Laws.Bool.{by_cases, and_left, and_right, and_both, not-flip, not_back, or_cases, or_left, or_right}
use Rattle.model.proofs.Laws.Basics.{mem-each, any_none}

-- ---- two lists of costs, place by place

pub nowhere-greater-places : (p q : List ℕ) → length p ≡ length q → nowhere_greater p q ≡ true → (i : ℕ) → get_or p i 0 ≤ get_or q i 0
unfolding nowhere_greater less
nowhere-greater-places [] [] n e i = le_refl 0
nowhere-greater-places [] (b ∷ q) n e i = absurd (omega arith)
nowhere-greater-places (a ∷ p) [] n e i = absurd (omega arith)
nowhere-greater-places (a ∷ p) (b ∷ q) n e zero = ltb-false b a (not_back (ltb b a) (and_left (not (ltb b a)) (nowhere_greater p q) e))
nowhere-greater-places (a ∷ p) (b ∷ q) n e (suc i) =
    nowhere-greater-places p q (suc_inj n) (and_right (not (ltb b a)) (nowhere_greater p q) e) i

pub places-nowhere-greater : (p q : List ℕ) → ((i : ℕ) → get_or p i 0 ≤ get_or q i 0) → nowhere_greater p q ≡ true
unfolding nowhere_greater less
places-nowhere-greater [] q f = refl
places-nowhere-greater (a ∷ p) [] f = refl
places-nowhere-greater (a ∷ p) (b ∷ q) f =
    and_both (not (ltb b a)) (nowhere_greater p q) (not-flip (ltb b a) (le-ltb b a (f 0))) (places-nowhere-greater p q (λ i. f (suc i)))

pub somewhere-less-place : (p q : List ℕ) → somewhere_less p q ≡ true → (i : ℕ) × (i < length p) × (get_or p i 0 < get_or q i 0)
unfolding somewhere_less less
somewhere-less-place [] q e = absurd (false≢true e)
somewhere-less-place (a ∷ p) [] e = absurd (false≢true e)
somewhere-less-place (a ∷ p) (b ∷ q) e =
    or_cases (ltb a b) (somewhere_less p q) e
    (λ h. (0, omega arith, ltb-true a b h))
    (λ h. let l = somewhere-less-place p q h in (suc l.0, omega arith, l.2))

pub place-somewhere-less : (p q : List ℕ) → length p ≡ length q → (i : ℕ) → get_or p i 0 < get_or q i 0 → somewhere_less p q ≡ true
unfolding somewhere_less less
place-somewhere-less [] [] n i h = absurd (lt_irrefl 0 h)
place-somewhere-less [] (b ∷ q) n i h = absurd (omega arith)
place-somewhere-less (a ∷ p) [] n i h = absurd (omega arith)
place-somewhere-less (a ∷ p) (b ∷ q) n zero h = or_left (ltb a b) (somewhere_less p q) (lt-ltb a b h)
place-somewhere-less (a ∷ p) (b ∷ q) n (suc i) h =
    or_right (ltb a b) (somewhere_less p q) (place-somewhere-less p q (suc_inj n) i h)

-- ---- the first d costs

-- Definition 1 in numbers: nowhere greater, and less at a place.
pub record Dominates (d : ℕ) (p q : List ℕ) : Type 0 where
  pub nowhere : (i : ℕ) → i < d → get_or p i 0 ≤ get_or q i 0
  pub place : ℕ
  pub inside : place < d
  pub lower : get_or p place 0 < get_or q place 0

-- the first d costs have no other places than those below d
take_past : (d : ℕ) (p : List ℕ) (i : ℕ) → d ≤ i → get_or (take d p) i 0 ≡ 0
take_past d p i h = get_or-eq_default (take d p) 0 (omega (arith, length-take d p))

pub take-le : (d : ℕ) (p q : List ℕ) → ((i : ℕ) → i < d → get_or p i 0 ≤ get_or q i 0) → (i : ℕ) → get_or (take d p) i 0 ≤ get_or (take d q) i 0
take-le d p q f i =
    by_cases (ltb i d)
    (λ e. let h = ltb-true i d e in omega (arith, get_or-take d p i 0 h, get_or-take d q i 0 h, f i h))
    (λ e. omega (arith, take_past d p i (ltb-false i d e)))

pub take-same-length : (d : ℕ) (p q : List ℕ) → length p ≡ length q → length (take d p) ≡ length (take d q)
take-same-length d p q n = length-take d p ∙ ap (min d) n ∙ sym (length-take d q)

module _ (d : ℕ) (p q : List ℕ) (n : length p ≡ length q) where
  pub dominates-places : dominates d p q ≡ true → Dominates d p q
  unfolding dominates better
  dominates-places e =
      record {
        nowhere = λ i k. omega (arith, get_or-take d p i 0 k, get_or-take d q i 0 k, nowhere-greater-places (take d p) (take d q) (take-same-length d p q n) (and_left nowhere somewhere e) i);
        place = found.0;
        inside = inside;
        lower = omega (arith, get_or-take d p found.0 0 inside, get_or-take d q found.0 0 inside, found.2);
      }
    where
      nowhere : Bool
      nowhere = nowhere_greater (take d p) (take d q)

      somewhere : Bool
      somewhere = somewhere_less (take d p) (take d q)

      found : (i : ℕ) × (i < length (take d p)) × (get_or (take d p) i 0 < get_or (take d q) i 0)
      found = somewhere-less-place (take d p) (take d q) (and_right nowhere somewhere e)

      inside : found.0 < d
      inside = omega (arith, length-take d p, found.1)

  pub places-dominates : Dominates d p q → dominates d p q ≡ true
  unfolding dominates better
  places-dominates h =
      and_both (nowhere_greater (take d p) (take d q)) (somewhere_less (take d p) (take d q))
      (places-nowhere-greater (take d p) (take d q) (take-le d p q h.nowhere))
      (place-somewhere-less (take d p) (take d q) (take-same-length d p q n) h.place
      (omega (arith, get_or-take d p h.place 0 h.inside, get_or-take d q h.place 0 h.inside)))

-- ---- laws

somewhere-less-irrefl : (p : List ℕ) → somewhere_less p p ≡ false
unfolding somewhere_less less
somewhere-less-irrefl [] = refl
somewhere-less-irrefl (a ∷ p) = ap (λ (b : Bool). b || somewhere_less p p) (le-ltb a a (le_refl a)) ∙ somewhere-less-irrefl p

-- Nothing dominates itself: on its first d costs, on chosen ones, or on some k of them.
better-irrefl : (p : List ℕ) → better p p ≡ false
unfolding better
better-irrefl p = ap (λ (b : Bool). nowhere_greater p p && b) (somewhere-less-irrefl p) ∙ and-false (nowhere_greater p p)

pub dominates-irrefl : (d : ℕ) (p : List ℕ) → dominates d p p ≡ false
unfolding dominates
dominates-irrefl d p = better-irrefl (take d p)

pub dominates_at-irrefl : (s p : List ℕ) → dominates_at s p p ≡ false
unfolding dominates_at
dominates_at-irrefl s p = better-irrefl (at s p)

pub dominates_on-irrefl : (d k : ℕ) (p : List ℕ) → dominates_on d k p p ≡ false
unfolding dominates_on
dominates_on-irrefl d k p = any_none (λ s. dominates_at s p p) ways (mem-each _ ways (λ s m. dominates_at-irrefl s p))
  where
    ways : List (List ℕ)
    ways = parts k (numbers_from 0 d)

-- "Equal costs do not dominate each other."
pub equal-not-dominates : (d : ℕ) (p q : List ℕ) → take d p ≡ take d q → dominates d p q ≡ false
unfolding dominates
equal-not-dominates d p q e = ap (λ (r : List ℕ). better (take d p) r) (sym e) ∙ dominates-irrefl d p

pub nowhere-below : (d : ℕ) (p q r : List ℕ) → length p ≡ length q → nowhere_greater (take d p) (take d q) ≡ true
    → ((i : ℕ) → i < d → get_or q i 0 ≤ get_or r i 0) → nowhere_greater (take d p) (take d r) ≡ true
nowhere-below d p q r n e f =
    places-nowhere-greater (take d p) (take d r)
    (λ i. le_trans (nowhere-greater-places (take d p) (take d q) (take-same-length d p q n) e i) (take-le d q r f i))

module _ (d : ℕ) (p q r : List ℕ) (n : length p ≡ length q) (m : length q ≡ length r) where
  pub dominates-below : dominates d p q ≡ true → ((i : ℕ) → i < d → get_or q i 0 ≤ get_or r i 0) → dominates d p r ≡ true
  dominates-below e f =
      places-dominates d p r (n ∙ m) (record {
        nowhere = λ i k. le_trans (h.nowhere i k) (f i k);
        place = h.place;
        inside = h.inside;
        lower = lt_of_lt_of_le h.lower (f h.place h.inside);
      })
    where
      h : Dominates d p q
      h = dominates-places d p q n e

  pub below-dominates : ((i : ℕ) → i < d → get_or p i 0 ≤ get_or q i 0) → dominates d q r ≡ true → dominates d p r ≡ true
  below-dominates f e =
      places-dominates d p r (n ∙ m) (record {
        nowhere = λ i k. le_trans (f i k) (h.nowhere i k);
        place = h.place;
        inside = h.inside;
        lower = lt_of_le_of_lt (f h.place h.inside) h.lower;
      })
    where
      h : Dominates d q r
      h = dominates-places d q r m e

  pub dominates-trans : dominates d p q ≡ true → dominates d q r ≡ true → dominates d p r ≡ true
  dominates-trans e f = dominates-below e (dominates-places d q r m f).nowhere

-- ---- rows

pub row-lengths : {d : ℕ} {p q : List ℕ} → RowCosts d p → RowCosts d q → length p ≡ length q
row-lengths h k = h.count ∙ sym k.count

-- A row that dominates stands earlier.
pub dominates-before : (d : ℕ) (p q : List ℕ) → d ≤ row_costs → RowCosts d p → RowCosts d q → dominates d p q ≡ true → before d p q ≡ true
dominates-before d p q l h k e =
    let g = dominates-places d p q (row-lengths h k) e in
    earlier d p q l h k g.nowhere g.place g.inside g.lower
