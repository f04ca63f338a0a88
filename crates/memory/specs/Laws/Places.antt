-- Tests at the places below a number, and lists by places.
use Prim.Native.Nat.{ℕ, zero, suc, ◌+◌, ◌-◌, ◌≤◌, ◌<◌}
use Rattle.std.proofs.Math.Bool.{Bool, not, ◌&&◌, ◌||◌, and-true, or-false, and_assoc}
use Rattle.std.specs.Prelude.{true, false, List, [], ◌∷◌, ◌++◌, ◌≡◌}
use Rattle.std.proofs.Math.Logic.{⊎_elim}
use Rattle.std.proofs.Math.Path.{refl, sym, ap, ap₂, subst}
use Rattle.std.proofs.Common.{◌∙◌, add-zero, add-suc, lt-suc_self, eq-or-lt_of_le, le_of_suc-le-suc, add-one, arith}
use Rattle.std.proofs.Math.Nat.{le_step}
use Rattle.std.proofs.Math.Seq.{append_snoc}
use Rattle.model.specs.Basics.{Each, any, all, rising}
use Rattle.model.proofs.Laws.Bool.{and_left, and_right, and_both, both_ways, by_cases, not-flip, same_test}
use Rattle.model.proofs.Laws.Basics.{each_left, each_right, any_append, all_append}
use Rattle.promises.specs.Layout.{tab}
use Rattle.memory.specs.Tests.{all_to, any_to}

-- ---- a test at the places below n

not-and-not : (a b : Bool) → not (a && not b) ≡ (not a || b)
not-and-not true true = refl
not-and-not true false = refl
not-and-not false b = refl

module _ (p : ℕ → Bool) where
  pub all_to-at : (n i : ℕ) → i < n → all_to p n ≡ true → p i ≡ true
  unfolding all_to
  all_to-at zero i l h = absurd (omega arith)
  all_to-at (suc n) i l h =
      ⊎_elim (λ e. ap p e ∙ and_right (all_to p n) (p n) h) (λ k. all_to-at n i k (and_left (all_to p n) (p n) h))
      (eq-or-lt_of_le (le_of_suc-le-suc l))

  pub all_to-all : (n : ℕ) → ((i : ℕ) → i < n → p i ≡ true) → all_to p n ≡ true
  unfolding all_to
  all_to-all zero f = refl
  all_to-all (suc n) f = and_both (all_to p n) (p n) (all_to-all n (λ i l. f i (le_step l))) (f n (lt-suc_self n))

  pub all_to-fails : (n i : ℕ) → i < n → p i ≡ false → all_to p n ≡ false
  all_to-fails n i l e = by_cases (all_to p n) (λ h. both_ways (all_to-at n i l h) e) (λ h. h)

  -- One place more.
  pub all_to-more : (n : ℕ) → all_to p n ≡ true → p n ≡ true → all_to p (n + 1) ≡ true
  unfolding all_to
  all_to-more n h e = ap (all_to p) (add-one n) ∙ and_both (all_to p n) (p n) h e

  -- The same where place 0 has no test of its own.
  pub all_to-next : (n : ℕ) → 0 < n → all_to p (n - 1) ≡ true → p (n - 1) ≡ true → all_to p (n + 1 - 1) ≡ true
  all_to-next n l h e = let k : n + 1 - 1 ≡ n - 1 + 1 = omega arith in ap (all_to p) k ∙ all_to-more (n - 1) h e

module _ (p : ℕ → Bool) where
  pub any_to-suc : (n : ℕ) → any_to p (suc n) ≡ (any_to p n || p n)
  unfolding any_to all_to
  any_to-suc n = not-and-not (all_to (λ i. not (p i)) n) (p n)

  pub any_to-found : (n i : ℕ) → i < n → p i ≡ true → any_to p n ≡ true
  unfolding any_to
  any_to-found n i l e = ap not (all_to-fails (λ i. not (p i)) n i l (ap not e))

  -- If none of k places from n on passes, they need not be asked.
  pub any_to-past : (n k : ℕ) → ((i : ℕ) → n ≤ i → i < n + k → p i ≡ false) → any_to p (n + k) ≡ any_to p n
  any_to-past n zero f = ap (any_to p) (add-zero n)
  any_to-past n (suc k) f =
      ap (any_to p) (add-suc n k)
      ∙ any_to-suc (n + k)
      ∙ ap₂ ◌||◌ (any_to-past n k (λ i l h. f i l (omega arith))) (f (n + k) (omega arith) (omega arith))
      ∙ or-false (any_to p n)

module _ (p q : ℕ → Bool) (n : ℕ) where
  pub any_to-mono : ((i : ℕ) → i < n → p i ≡ true → q i ≡ true) → any_to p n ≡ true → any_to q n ≡ true
  unfolding any_to
  any_to-mono f e =
      by_cases (any_to q n) (λ h. h)
      (λ h. both_ways e (ap not (all_to-all (λ i. not (p i)) n (λ i l. not-flip (p i) (by_cases (p i) (λ g. both_ways (any_to-found q n i l (f i l g)) h) (λ g. g))))))

pub any_to-ext : (p q : ℕ → Bool) (n : ℕ) → ((i : ℕ) → i < n → p i ≡ q i) → any_to p n ≡ any_to q n
any_to-ext p q n f =
    same_test (any_to p n) (any_to q n) (any_to-mono p q n (λ i l e. sym (f i l) ∙ e)) (any_to-mono q p n (λ i l e. f i l ∙ e))

-- ---- lists by places

rising_snoc : {A : Type 0} (lt : A → A → Bool) (xs : List A) (x y : A) → rising lt (xs ++ x ∷ y ∷ []) ≡ (rising lt (xs ++ x ∷ []) && lt x y)
unfolding rising
rising_snoc lt [] x y = and-true (lt x y)
rising_snoc lt (z ∷ []) x y = ap (λ (b : Bool). lt z x && b) (and-true (lt x y)) ∙ ap (λ (b : Bool). b && lt x y) (sym (and-true (lt z x)))
rising_snoc lt (z ∷ w ∷ ws) x y = ap (λ (b : Bool). lt z w && b) (rising_snoc lt (w ∷ ws) x y) ∙ sym (and_assoc (lt z w) (rising lt (w ∷ ws ++ x ∷ [])) (lt x y))

module _ {A : Type 0} (f : ℕ → A) where
  pub tab-each : (P : A → Type 0) (n i : ℕ) → i < n → Each P (tab f n) → P (f i)
  unfolding tab
  tab-each P zero i l es = absurd (omega arith)
  tab-each P (suc n) i l es =
      ⊎_elim (λ e. subst (λ (j : ℕ). P (f j)) (sym e) (each_right P (tab f n) (f n ∷ []) es).0)
      (λ k. tab-each P n i k (each_left P (tab f n) (f n ∷ []) es))
      (eq-or-lt_of_le (le_of_suc-le-suc l))

  pub any-tab : (p : A → Bool) (n : ℕ) → any p (tab f n) ≡ any_to (λ i. p (f i)) n
  unfolding tab any any_to all_to
  any-tab p zero = refl
  any-tab p (suc n) =
      any_append p (tab f n) (f n ∷ [])
      ∙ ap₂ ◌||◌ (any-tab p n) (or-false (p (f n)))
      ∙ sym (any_to-suc (λ i. p (f i)) n)

  pub all-tab : (p : A → Bool) (n : ℕ) → all p (tab f n) ≡ all_to (λ i. p (f i)) n
  unfolding tab all all_to
  all-tab p zero = refl
  all-tab p (suc n) = all_append p (tab f n) (f n ∷ []) ∙ ap₂ ◌&&◌ (all-tab p n) (and-true (p (f n)))

  pub rising-tab : (lt : A → A → Bool) (n : ℕ) → rising lt (tab f n) ≡ all_to (λ i. lt (f i) (f (suc i))) (n - 1)
  unfolding tab all_to rising
  rising-tab lt zero = refl
  rising-tab lt (suc zero) = refl
  rising-tab lt (suc (suc n)) =
      ap (rising lt) (append_snoc (tab f n) (f n) (f (suc n) ∷ []))
      ∙ rising_snoc lt (tab f n) (f n) (f (suc n))
      ∙ ap (λ (b : Bool). b && lt (f n) (f (suc n))) (rising-tab lt (suc n) ∙ ap next (one_less n))
      ∙ ap next (sym (one_less (suc n)))
    where
      next : ℕ → Bool
      next = all_to (λ i. lt (f i) (f (suc i)))

      one_less : (k : ℕ) → suc k - 1 ≡ k
      one_less k = omega arith
