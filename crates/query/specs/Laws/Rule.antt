-- Dominance on some k costs by counting, and on k and chosen costs as the code tests it.
use Prim.Native.Nat.{ℕ, zero, suc, ◌+◌, ◌-◌, ◌%◌, ◌^◌, ◌≤◌}
use Rattle.std.specs.Prelude.{Bool, cond, not, ◌≡◌, ltb, length, get_or, take}
use Rattle.std.proofs.Math.Bool.{true, false, ◌&&◌, ◌||◌, and-true, and_comm, or-false}
use mathlib.Core.List.{List, [], ◌∷◌, map}
use Rattle.std.proofs.Math.Path.{refl, sym, ap, ap₂, fun_ext}
use Rattle.std.proofs.Common.{◌∙◌, arith}
use Rattle.std.proofs.Math.Dec.{leb, leb-zero, leb-suc-zero, leb-suc-suc}
use borrow.Author.Tests.{leb-true, le-leb, ltb-true, le-ltb}
use Rattle.zorder.specs.Address.{row_costs}
use Rattle.model.specs.Basics.{select, any, all, count, parts, numbers_from}
use Rattle.model.specs.Dominance.{less, nowhere_greater, somewhere_less, better, at, dominates_at, dominates_on}
use Rattle.model.specs.Lists.{chosen_costs}
use Rattle.model.proofs.Laws.Bool.{same_test, or_cases, or_left, and_left, and_both, both_ways, not-flip}
use Rattle.model.proofs.Laws.Basics.{any_append, any-map, any-witness, count-cons, count-pos}
use Rattle.model.proofs.Laws.Range.{length-numbers}
use Rattle.model.proofs.Laws.Chosen.{chosen-within}
use Rattle.model.proofs.Laws.Queries.{at_first}
use Rattle.dominance.specs.Sums.{count_less}
use Rattle.dominance.specs.Laws.Sums.{exceeds-better}

-- ---- some k entries that all pass one test, and one of which passes another

module _ {A : Type 0} where
  any-never : (xs : List A) → any (λ x. false) xs ≡ false
  unfolding any
  any-never [] = refl
  any-never (x ∷ xs) = any-never xs

  any-and : (b : Bool) (p : A → Bool) (xs : List A) → any (λ x. b && p x) xs ≡ (b && any p xs)
  any-and true p xs = refl
  any-and false p xs = any-never xs

-- One entry more, or one entry less to be found.
leb-either : (k n : ℕ) → (leb k n || leb (suc k) n) ≡ leb (suc k) (suc n)
leb-either k n =
    same_test (leb k n || leb (suc k) n) (leb (suc k) (suc n))
    (λ e. or_cases (leb k n) (leb (suc k) n) e
    (λ h. le-leb (suc k) (suc n) (omega (arith, leb-true k n h)))
    (λ h. le-leb (suc k) (suc n) (omega (arith, leb-true (suc k) n h))))
    (λ e. or_left (leb k n) (leb (suc k) n) (le-leb k n (omega (arith, leb-true (suc k) (suc n) e))))

module _ {A : Type 0} (g : A → Bool) where
  parts-cons : (q : List A → Bool) (k : ℕ) (x : A) (xs : List A) → any q (parts (suc k) (x ∷ xs)) ≡ (any (λ s. q (x ∷ s)) (parts k xs) || any q (parts (suc k) xs))
  unfolding parts
  parts-cons q k x xs =
      any_append q (map (λ s. x ∷ s) (parts k xs)) (parts (suc k) xs)
      ∙ ap (λ (b : Bool). b || any q (parts (suc k) xs)) (any-map q (λ s. x ∷ s) (parts k xs))

  parts-pass : (k : ℕ) (xs : List A) → any (all g) (parts k xs) ≡ leb k (count g xs)
  unfolding parts any all count select
  parts-pass zero xs = sym (leb-zero (count g xs))
  parts-pass (suc k) [] = sym (leb-suc-zero k)
  parts-pass (suc k) (x ∷ xs) =
      parts-cons (all g) k x xs
      ∙ ap₂ ◌||◌ (any-and (g x) (all g) (parts k xs) ∙ ap (λ (b : Bool). g x && b) (parts-pass k xs)) (parts-pass (suc k) xs)
      ∙ turn (g x)
      ∙ ap (leb (suc k)) (sym (count-cons g x xs))
    where
      turn : (b : Bool) → (b && leb k (count g xs) || leb (suc k) (count g xs)) ≡ leb (suc k) (cond b (suc (count g xs)) (count g xs))
      turn true = leb-either k (count g xs)
      turn false = refl

  module _ (l : A → Bool) (weak : (x : A) → l x ≡ true → g x ≡ true) where
    one_passes : List A → Bool
    one_passes s = all g s && any l s

    and-either : (a : Bool) (k n : ℕ) → ((a && leb k n) || (a && leb (suc k) n)) ≡ (a && leb (suc k) (suc n))
    and-either true k n = leb-either k n
    and-either false k n = refl

    absorbs : (a : Bool) (k n : ℕ) → (leb k n || (a && leb (suc k) n)) ≡ leb (suc k) (suc n)
    absorbs true k n = leb-either k n
    absorbs false k n = or-false (leb k n) ∙ sym (leb-suc-suc k n)

    -- one that passes the second test passes the first
    some-pass : (xs : List A) → (any l xs && leb 1 (count g xs)) ≡ (any l xs && leb 1 (suc (count g xs)))
    some-pass xs =
        same_test (any l xs && leb 1 (count g xs)) (any l xs && leb 1 (suc (count g xs)))
        (λ e. and_both (any l xs) (leb 1 (suc (count g xs))) (and_left (any l xs) (leb 1 (count g xs)) e) (le-leb 1 (suc (count g xs)) (omega arith)))
        (λ e.
        let h = and_left (any l xs) (leb 1 (suc (count g xs))) e in
        let w = any-witness l xs h in
        and_both (any l xs) (leb 1 (count g xs)) h (le-leb 1 (count g xs) (omega (arith, count-pos g w.1 (weak w.0 w.2)))))

    parts-one-passes : (k : ℕ) (xs : List A) → any one_passes (parts (suc k) xs) ≡ (any l xs && leb (suc k) (count g xs))
    unfolding any parts one_passes all
    parts-one-passes k [] = refl
    parts-one-passes k (x ∷ xs) =
        parts-cons one_passes k x xs
        ∙ ap (λ (b : Bool). any (λ s. (g x && all g s) && (l x || any l s)) (parts k xs) || b) (parts-one-passes k xs)
        ∙ turn k (g x) (l x) (weak x) (λ j. parts-one-passes j xs)
        ∙ ap (λ (n : ℕ). (l x || any l xs) && leb (suc k) n) (sym (count-cons g x xs))
      where
        n : ℕ
        n = count g xs

        turn : (k : ℕ) (gx lx : Bool) → (lx ≡ true → gx ≡ true) → ((j : ℕ) → any one_passes (parts (suc j) xs) ≡ (any l xs && leb (suc j) n))
            → (any (λ s. (gx && all g s) && (lx || any l s)) (parts k xs) || (any l xs && leb (suc k) n)) ≡ ((lx || any l xs) && leb (suc k) (cond gx (suc n) n))
        turn k false true w ih = both_ways (w refl) refl
        turn k false false w ih = ap (λ (b : Bool). b || (any l xs && leb (suc k) n)) (any-never (parts k xs))
        turn k true true w ih =
            ap (λ (b : Bool). b || (any l xs && leb (suc k) n)) (ap (λ (p : List A → Bool). any p (parts k xs)) (fun_ext (λ s. and-true (all g s))) ∙ parts-pass k xs)
            ∙ absorbs (any l xs) k n
        turn zero true false w ih = some-pass xs
        turn (suc k) true false w ih = ap (λ (b : Bool). b || (any l xs && leb (suc (suc k)) n)) (ih k) ∙ and-either (any l xs) (suc k) n

-- ---- two rows of costs

module _ (p q : List ℕ) where
  -- p is not greater at a place; p is less there.
  fits : ℕ → Bool
  fits i = not (less (get_or q i 0) (get_or p i 0))

  lower : ℕ → Bool
  lower i = less (get_or p i 0) (get_or q i 0)

  lower-fits : (i : ℕ) → lower i ≡ true → fits i ≡ true
  unfolding lower fits less
  lower-fits i e =
      not-flip (ltb (get_or q i 0) (get_or p i 0)) (le-ltb (get_or q i 0) (get_or p i 0) (omega (arith, ltb-true (get_or p i 0) (get_or q i 0) e)))

  nowhere-at : (s : List ℕ) → nowhere_greater (at s p) (at s q) ≡ all fits s
  unfolding at nowhere_greater all fits
  nowhere-at [] = refl
  nowhere-at (i ∷ s) = ap (λ (b : Bool). fits i && b) (nowhere-at s)

  somewhere-at : (s : List ℕ) → somewhere_less (at s p) (at s q) ≡ any lower s
  unfolding at somewhere_less any lower
  somewhere-at [] = refl
  somewhere-at (i ∷ s) = ap (λ (b : Bool). lower i || b) (somewhere-at s)

  dominates-at : (s : List ℕ) → dominates_at s p q ≡ (all fits s && any lower s)
  unfolding dominates_at better
  dominates-at s = ap₂ ◌&&◌ (nowhere-at s) (somewhere-at s)

  -- On some k costs: not greater on k or more of them, and less on one.
  dominates-on : (d k : ℕ) → 1 ≤ k → dominates_on d k p q ≡ (any lower (numbers_from 0 d) && leb k (count fits (numbers_from 0 d)))
  unfolding dominates_on one_passes
  dominates-on d zero h = absurd (omega arith)
  dominates-on d (suc k) h =
      ap (λ (t : List ℕ → Bool). any t (parts (suc k) (numbers_from 0 d))) (fun_ext dominates-at)
      ∙ parts-one-passes fits lower lower-fits k (numbers_from 0 d)

-- ---- the tests of the code

fit-turn : (g : Bool) (n m k : ℕ) → n + m ≡ k → cond (not g) (suc n) n + (cond g 1 0 + m) ≡ suc k
fit-turn true n m k e = omega arith
fit-turn false n m k e = omega arith

module _ (p q : List ℕ) where
  -- A cost that is not greater fits; every other is counted as greater.
  fit-sum : (s : List ℕ) → count (fits p q) s + count_less (at s q) (at s p) ≡ length s
  unfolding count select fits at count_less
  fit-sum [] = refl
  fit-sum (i ∷ s) =
      ap (λ (n : ℕ). n + count_less (at (i ∷ s) q) (at (i ∷ s) p)) (count-cons (fits p q) i s)
      ∙ fit-turn (less (get_or q i 0) (get_or p i 0)) (count (fits p q) s) (count_less (at s q) (at s p)) (length s) (fit-sum s)

  module _ (d : ℕ) (h : d ≤ length p) (l : d ≤ length q) where
    greater-first : count_less (at (numbers_from 0 d) q) (at (numbers_from 0 d) p) ≡ count_less (take d q) (take d p)
    greater-first = ap₂ count_less (at_first d q l) (at_first d p h)

    fitting : count (fits p q) (numbers_from 0 d) + count_less (take d q) (take d p) ≡ d
    fitting = omega (arith, greater-first, fit-sum (numbers_from 0 d), length-numbers d 0)

    -- On some k of the first d costs.
    pub count-on-k : (k : ℕ) → 1 ≤ k → (leb k (d - count_less (take d q) (take d p)) && somewhere_less (take d p) (take d q)) ≡ dominates_on d k p q
    count-on-k k m =
        let fit : d - count_less (take d q) (take d p) ≡ count (fits p q) (numbers_from 0 d) = omega (arith, fitting) in
        ap₂ (λ (n : ℕ) (b : Bool). leb k n && b) fit (ap₂ somewhere_less (sym (at_first d p h)) (sym (at_first d q l)) ∙ somewhere-at p q (numbers_from 0 d))
        ∙ and_comm (leb k (count (fits p q) (numbers_from 0 d))) (any (lower p q) (numbers_from 0 d))
        ∙ sym (dominates-on p q d k m)

  -- On those of the first d costs that are in a set.
  pub exceeds-chosen : (d set : ℕ) → d ≤ row_costs
      → let s : List ℕ = chosen_costs row_costs (set % 2 ^ d) in
      (not (somewhere_less (at s q) (at s p)) && somewhere_less (at s p) (at s q)) ≡ dominates_at (chosen_costs d set) p q
  unfolding dominates_at
  exceeds-chosen d set h =
      exceeds-better (at (chosen_costs row_costs (set % 2 ^ d)) p) (at (chosen_costs row_costs (set % 2 ^ d)) q)
      ∙ ap (λ (s : List ℕ). dominates_at s p q) (chosen-within row_costs d set h)
