-- Entries picked by places.
use Prim.Native.Nat.{ℕ, zero, suc, ◌+◌, ◌<◌}
use Rattle.std.specs.Prelude.{Bool, ◌≡◌}
use Rattle.std.proofs.Math.Bool.{true, false, cond}
use mathlib.Core.List.{List, [], ◌∷◌, ◌++◌, map, map-append}
use Rattle.std.proofs.Math.Path.{refl, sym, ap, ap₂}
use Rattle.std.proofs.Common.{◌∙◌, add-one, arith}
use Rattle.std.proofs.Math.ListN.{length, length-append}
use Rattle.model.specs.Basics.{Each, cons_if, select, count, numbers_from}
use Rattle.model.proofs.Laws.Basics.{each_append, select-append}
use Rattle.promises.specs.Layout.{tab}
use Rattle.upkeep.specs.Laws.Places.{count-more}

-- f i for each i below n that passes a test.
unfoldable pub pick : {A : Type 0} → (ℕ → Bool) → (ℕ → A) → ℕ → List A
pick p f zero = []
pick p f (suc n) = pick p f n ++ cons_if (p n) (f n) []

module _ {A : Type 0} (p : ℕ → Bool) (f : ℕ → A) where
  pub each-pick : (P : A → Type 0) (n : ℕ) → ((i : ℕ) → i < n → P (f i)) → Each P (pick p f n)
  unfolding pick
  each-pick P zero h = tt
  each-pick P (suc n) h = each_append P (pick p f n) (cons_if (p n) (f n) []) (each-pick P n (λ i l. h i (omega arith))) (last (p n))
    where
      last : (b : Bool) → Each P (cons_if b (f n) [])
      last true = (h n (omega arith), tt)
      last false = tt

  pub map-pick : {B : Type 0} (g : A → B) (n : ℕ) → map g (pick p f n) ≡ pick p (λ i. g (f i)) n
  unfolding pick
  map-pick g zero = refl
  map-pick {B = B} g (suc n) =
      map-append g (pick p f n) (cons_if (p n) (f n) [])
      ∙ ap₂ (λ (l r : List B). l ++ r) (map-pick g n) (one (p n))
    where
      one : (b : Bool) → map g (cons_if b (f n) []) ≡ cons_if b (g (f n)) []
      one true = refl
      one false = refl

  pub pick-count : (n : ℕ) → length (pick p f n) ≡ count p (numbers_from 0 n)
  unfolding pick count select numbers_from
  pick-count zero = refl
  pick-count (suc n) =
      length-append (pick p f n) (cons_if (p n) (f n) [])
      ∙ ap₂ (λ (k j : ℕ). k + j) (pick-count n) (one (p n))
      ∙ sym (count-more p n)
      ∙ ap (λ (k : ℕ). count p (numbers_from 0 k)) (add-one n)
    where
      one : (b : Bool) → length (cons_if b (f n) []) ≡ cond b 1 0
      one true = refl
      one false = refl

pub select-tab : {A : Type 0} (q : A → Bool) (f : ℕ → A) (n : ℕ) → select q (tab f n) ≡ pick (λ i. q (f i)) f n
unfolding tab pick select
select-tab q f zero = refl
select-tab {A = A} q f (suc n) = select-append q (tab f n) (f n ∷ []) ∙ ap (λ (l : List A). l ++ cons_if (q (f n)) (f n) []) (select-tab q f n)
