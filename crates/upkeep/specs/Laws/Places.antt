-- The places of a board as a list of numbers, and the moves at them.
use Prim.Native.Nat.{ℕ, zero, suc, ◌+◌, ◌-◌, ◌≤◌, ◌<◌}
use Rattle.std.specs.Prelude.{Bool, true, false, cond, ◌≡◌, eqb, length}
use Rattle.std.proofs.Math.Bool.{not}
use mathlib.Core.List.{List, [], ◌∷◌, ◌++◌, map, Memᴰ}
use Rattle.std.proofs.Common.{⊎_elim, ◌∙◌, add-zero, add-suc, suc-add, zero-add, eq-or-lt_of_le, eq-eqb, ne_eqb}
use Rattle.std.proofs.Math.Path.{refl, sym, ap, ap₂}
use native.Mathlib.Omega.{arith}
use Rattle.model.specs.Basics.{cons_if, select, any, count, numbers_from}
use Rattle.model.specs.Moves.{Move}
use Rattle.model.proofs.Laws.Basics.{each-mem, select-append, select-all, select-none, select-few, any-map, count-append, count-cons}
use Rattle.model.proofs.Laws.Range.{each-numbers, each-place, numbers-append, length-numbers}
use Rattle.promises.specs.Layout.{tab}
use Rattle.memory.specs.Tests.{any_to}
use Rattle.promises.proofs.Laws.Tab.{tab-cons, tab-ext}
use Rattle.memory.specs.Laws.Places.{any-tab}
use Rattle.upkeep.specs.Change.{drop_at, places_in}

-- One place more.
pub numbers_more : (n : ℕ) → numbers_from 0 (n + 1) ≡ numbers_from 0 n ++ n ∷ []
unfolding numbers_from
numbers_more n = numbers-append 0 n 1 ∙ ap (λ (k : ℕ). numbers_from 0 n ++ k ∷ []) (zero-add n)

-- A place of the numbers 0 to n-1 is below n.
pub place-below : {i : ℕ} (n : ℕ) → Memᴰ i (numbers_from 0 n) → i < n
place-below n k = each-mem (λ i. i < n) (each-place (λ i. i < n) n (λ i h. h)) k

from_place : (j n i : ℕ) → j ≤ i → i < j + n → Memᴰ i (numbers_from j n)
unfolding numbers_from
from_place j zero i l h = absurd (omega arith)
from_place j (suc n) i l h =
    ⊎_elim (λ q. Memᴰ.head (sym q)) (λ q. Memᴰ.tail (from_place (suc j) n i q (omega arith))) (eq-or-lt_of_le l)

pub below-place : (n i : ℕ) → i < n → Memᴰ i (numbers_from 0 n)
below-place n i h = from_place 0 n i (omega arith) (omega arith)

module _ (p : ℕ → Bool) where
  pub count-more : (n : ℕ) → count p (numbers_from 0 (n + 1)) ≡ count p (numbers_from 0 n) + cond (p n) 1 0
  unfolding count select
  count-more n =
      ap (count p) (numbers_more n)
      ∙ count-append p (numbers_from 0 n) (n ∷ [])
      ∙ ap (λ (k : ℕ). count p (numbers_from 0 n) + k) (count-cons p n [])

  pub count-le : (n : ℕ) → count p (numbers_from 0 n) ≤ n
  unfolding count
  count-le n = omega (arith, select-few p (numbers_from 0 n), length-numbers n 0)

  -- ---- the places from one up to another that pass

  pub places-few : (a b : ℕ) → length (places_in a b p) ≤ b - a
  unfolding places_in
  places-few a b = omega (arith, select-few p (numbers_from a (b - a)), length-numbers (b - a) a)

  pub places-all : (n : ℕ) → places_in 0 n p ≡ select p (numbers_from 0 n)
  unfolding places_in
  places-all n = let all : n - 0 ≡ n = omega arith in ap (λ (k : ℕ). select p (numbers_from 0 k)) all

  pub places-one : (i : ℕ) → places_in i (i + 1) p ≡ cons_if (p i) i []
  unfolding places_in select numbers_from
  places-one i = let one : i + 1 - i ≡ 1 = omega arith in ap (λ (k : ℕ). select p (numbers_from i k)) one

  pub places-none : (a b : ℕ) → ((i : ℕ) → a ≤ i → i < b → p i ≡ false) → places_in a b p ≡ []
  unfolding places_in
  places-none a b none =
      select-none p (numbers_from a (b - a)) (each-numbers (λ i. p i ≡ false) a (b - a) (λ i h l. none i h (omega arith)))

  pub places-join : (a b e : ℕ) → a ≤ b → b ≤ e → places_in a e p ≡ places_in a b p ++ places_in b e p
  unfolding places_in
  places-join a b e h l =
      let parts : e - a ≡ b - a + (e - b) = omega arith in
      let middle : a + (b - a) ≡ b = omega arith in
      ap (λ (k : ℕ). select p (numbers_from a k)) parts
      ∙ ap (select p) (numbers-append a (b - a) (e - b))
      ∙ select-append p (numbers_from a (b - a)) (numbers_from (a + (b - a)) (e - b))
      ∙ ap (λ (i : ℕ). select p (numbers_from a (b - a)) ++ select p (numbers_from i (e - b))) middle

module _ {A : Type 0} (f : ℕ → A) where
  tab-from : (a k : ℕ) → tab (λ i. f (a + i)) k ≡ map f (numbers_from a k)
  unfolding tab numbers_from
  tab-from a zero = refl
  tab-from a (suc k) =
      tab-cons (λ i. f (a + i)) k
      ∙ ap₂ (λ (x : A) (l : List A). x ∷ l) (ap f (add-zero a))
      (tab-ext (λ i. f (a + suc i)) (λ i. f (suc a + i)) k (λ i _. ap f (add-suc a i ∙ sym (suc-add a i))) ∙ tab-from (suc a) k)

  pub tab-places : (n : ℕ) → tab f n ≡ map f (numbers_from 0 n)
  tab-places n = tab-ext f (λ i. f (0 + i)) n (λ i _. ap f (sym (zero-add i))) ∙ tab-from 0 n

pub any_to-places : (p : ℕ → Bool) (n : ℕ) → any_to p n ≡ any p (numbers_from 0 n)
any_to-places p n = sym (any-tab (λ i. i) p n) ∙ ap (any p) (tab-places (λ i. i) n) ∙ any-map p (λ i. i) (numbers_from 0 n)

module _ (f : ℕ → Move) where
  drop-from : (a k i : ℕ) → drop_at i (map f (numbers_from a k)) ≡ map f (select (λ j. not (eqb j (a + i))) (numbers_from a k))
  unfolding drop_at numbers_from select
  drop-from a zero zero = refl
  drop-from a zero (suc i) = refl
  drop-from a (suc k) zero =
      ap (map f)
      (sym (ap (λ (b : Bool). cons_if (not b) a (select (λ j. not (eqb j (a + 0))) (numbers_from (suc a) k))) (eq-eqb a (a + 0) (omega arith))
      ∙ select-all (λ j. not (eqb j (a + 0))) (numbers_from (suc a) k)
      (each-numbers (λ j. not (eqb j (a + 0)) ≡ true) (suc a) k (λ j l _. ap not (ne_eqb j (a + 0) (λ e. omega arith))))))
  drop-from a (suc k) (suc i) =
      ap (λ (l : List Move). f a ∷ l) (drop-from (suc a) k i)
      ∙ ap (λ (n : ℕ). f a ∷ map f (select (λ j. not (eqb j n)) (numbers_from (suc a) k))) (suc-add a i ∙ sym (add-suc a i))
      ∙ ap (λ (b : Bool). map f (cons_if (not b) a (select (λ j. not (eqb j (a + suc i))) (numbers_from (suc a) k))))
      (sym (ne_eqb a (a + suc i) (λ e. omega arith)))

  -- The moves with that at place i left out.
  pub drop-places : (n i : ℕ) → drop_at i (map f (numbers_from 0 n)) ≡ map f (select (λ j. not (eqb j i)) (numbers_from 0 n))
  drop-places n i = drop-from 0 n i ∙ ap (λ (k : ℕ). map f (select (λ j. not (eqb j k)) (numbers_from 0 n))) (zero-add i)
