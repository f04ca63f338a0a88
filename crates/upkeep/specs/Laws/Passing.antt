-- The moves that pass a test, added to a set place after place.
use Rattle.std.specs.Prelude.{ℕ, ◌+◌, ◌-◌, ◌≤◌, ◌<◌, Bool, true, false, ◌||◌, ◌≡◌, refl}
use Rattle.std.proofs.Math.Bool.{or_assoc, or-false}
use mathlib.Core.List.{List, [], ◌++◌, map, map-append, Memᴰ}
use Rattle.std.proofs.Math.Path.{sym, ap}
use Rattle.std.proofs.Common.{◌∙◌, subst, arith, eqb-true, eq-eqb, length-append}
use Rattle.std.proofs.Math.Dec.{eqb}
use Rattle.std.proofs.Math.ListN.{length}
use Rattle.model.specs.Basics.{cons_if, any, numbers_from, has}
use Rattle.model.proofs.Laws.Bool.{or_swap, same_test}
use Rattle.model.proofs.Laws.Basics.{mem-select, select-mem, any_append, any-mem, any-witness}
use Rattle.model.proofs.Laws.Order.{has-map}
use Rattle.promises.specs.Layout.{number_in}
use Rattle.numbers.specs.Set.{in_set, With}
use Rattle.upkeep.specs.Change.{places_in, Passing}
use Rattle.upkeep.specs.Laws.Places.{place-below, below-place, places-few, places-all, places-one, places-none, places-join}

module _ (c : ℕ) (m : List ℕ) (test : ℕ → Bool) where
  -- Whether a number is that of a move at one of some places.
  abbrev among : List ℕ → ℕ → Bool
  among is j = has j (map (number_in c m) is)

  among-both : (is ks : List ℕ) (j : ℕ) → among (is ++ ks) j ≡ (among is j || among ks j)
  unfolding has
  among-both is ks j = ap (has j) (map-append (number_in c m) is ks) ∙ any_append (eqb j) (map (number_in c m) is) (map (number_in c m) ks)

  pub passing-few : {a b : ℕ} {ws ws' : List ℕ} {k : ℕ} → Passing c m test ws a b ws' k → k ≤ b - a
  passing-few {a} {b} h = omega (arith, h.counts, places-few test a b)

  -- No place passes: nothing is added.
  pub none_passes : (ws : List ℕ) (a b : ℕ) → ((i : ℕ) → a ≤ i → i < b → test i ≡ false) → Passing c m test ws a b ws 0
  unfolding has any
  none_passes ws a b none =
      let no = sym (places-none test a b none) in
      record { numbers = λ j. ap (λ (is : List ℕ). among is j || in_set ws j) no; counts = ap length no }

  pub passing-none : (ws : List ℕ) (a : ℕ) → Passing c m test ws a a ws 0
  passing-none ws a = none_passes ws a a (λ i h l. absurd (omega arith))

  module _ {ws ws' : List ℕ} {a b k : ℕ} (h : Passing c m test ws a b ws' k) where
    pub passing-join : {ws'' : List ℕ} {e k' : ℕ} → Passing c m test ws' b e ws'' k' → a ≤ b → b ≤ e → (k'' : ℕ) → k'' ≡ k + k' → Passing c m test ws a e ws'' k''
    passing-join {e = e} next l l' k'' f =
        let first = places_in a b test in
        let second = places_in b e test in
        let all = sym (places-join test a b e l l') in
        record {
          numbers = λ j.
              next.numbers j
              ∙ ap (λ (t : Bool). among second j || t) (h.numbers j)
              ∙ or_swap (among second j) (among first j) (in_set ws j)
              ∙ sym (or_assoc (among first j) (among second j) (in_set ws j))
              ∙ ap (λ (t : Bool). t || in_set ws j) (sym (among-both first second j))
              ∙ ap (λ (is : List ℕ). among is j || in_set ws j) all;
          counts = f ∙ (λ s. h.counts s + next.counts s) ∙ sym (length-append first second) ∙ ap length all;
        }

    pub passing-skip : {e : ℕ} → a ≤ b → b ≤ e → ((i : ℕ) → b ≤ i → i < e → test i ≡ false) → Passing c m test ws a e ws' k
    passing-skip {e} l l' none = passing-join (none_passes ws' b e none) l l' k (omega arith)

    -- One place more.
    module _ (l : a ≤ b) {ws'' : List ℕ} {k' : ℕ} where
      one_more : {t : Bool} → test b ≡ t → ((j : ℕ) → in_set ws'' j ≡ (among (cons_if t b []) j || in_set ws' j)) → k' ≡ k + length (cons_if t b [])
          → Passing c m test ws a (b + 1) ws'' k'
      one_more e set f =
          let one = sym (places-one test b ∙ ap (λ (t : Bool). cons_if t b []) e) in
          passing-join (record { numbers = λ j. set j ∙ ap (λ (is : List ℕ). among is j || in_set ws' j) one; counts = ap length one }) l (omega arith) k' f

      pub passing-takes : test b ≡ true → (number : ℕ) → number ≡ number_in c m b → With ws' number ws'' → k' ≡ k + 1 → Passing c m test ws a (b + 1) ws'' k'
      unfolding With has any
      passing-takes e number at w f = one_more e (λ j. w j ∙ ap (λ (v : ℕ). eqb j v || in_set ws' j) at ∙ ap (λ (t : Bool). t || in_set ws' j) (sym (or-false (eqb j (number_in c m b))))) f

      pub passing-passes : test b ≡ false → ws'' ≡ ws' → k' ≡ k → Passing c m test ws a (b + 1) ws'' k'
      unfolding has any
      passing-passes e w f = one_more e (λ j. ap (λ (l : List ℕ). in_set l j) w) (omega arith)

  -- Where moves with the number of place i pass only if it does, its number is added exactly if it passes.
  module _ {n : ℕ} {ws ws' : List ℕ} {k : ℕ} (h : Passing c m test ws 0 n ws' k) (i : ℕ) (l : i < n)
      (alike : (j : ℕ) → j < n → number_in c m i ≡ number_in c m j → test j ≡ true → test i ≡ true) where
    among-at : among (places_in 0 n test) (number_in c m i) ≡ test i
    among-at =
        has-map (number_in c m) (number_in c m i) (places_in 0 n test)
        ∙ same_test (any here (places_in 0 n test)) (test i)
        (λ e. let w = any-witness here (places_in 0 n test) e in
        let at = select-mem test (numbers_from 0 n) (subst (Memᴰ w.0) (places-all test n) w.1) in
        alike w.0 (place-below n at.0) (eqb-true (number_in c m i) (number_in c m w.0) w.2) at.1)
        (λ e. any-mem here (subst (Memᴰ i) (sym (places-all test n)) (mem-select test (below-place n i l) e)) (eq-eqb (number_in c m i) (number_in c m i) refl))
      where
        here : ℕ → Bool
        here j = eqb (number_in c m i) (number_in c m j)

    pub passing-adds : in_set ws' (number_in c m i) ≡ (test i || in_set ws (number_in c m i))
    passing-adds = h.numbers (number_in c m i) ∙ ap (λ (t : Bool). t || in_set ws (number_in c m i)) among-at

    pub passing-at : ((j : ℕ) → in_set ws j ≡ false) → in_set ws' (number_in c m i) ≡ test i
    passing-at none = passing-adds ∙ ap (λ (t : Bool). test i || t) (none (number_in c m i)) ∙ or-false (test i)
