-- The entries_among of a node by places: each starts within the node, after the one before it.
use Prim.Native.Nat.{ℕ, zero, suc, ◌+◌, ◌-◌, ◌≤◌, ◌<◌}
use Rattle.std.specs.Prelude.{Bool, ◌≡◌, leb, length, get_or, take}
use Rattle.std.proofs.Math.Bool.{cond}
use mathlib.Core.List.{List, [], ◌∷◌}
use Rattle.std.proofs.Math.Path.{sym, ap, ap₂, subst}
use Rattle.std.proofs.Common.{◌∙◌, le-leb, drop_of_length-le, drop-cons, drop-drop}
use Rattle.std.proofs.Math.Decide.{dec_lt}
use native.Mathlib.Omega.{arith}
use Rattle.std.proofs.Math.ListN.{drop}
use Rattle.std.proofs.Math.Seq.{take-nil}
use Rattle.model.specs.Basics.{count, select}
use Rattle.model.proofs.Laws.Bool.{test_cases}
use Rattle.model.proofs.Laws.Basics.{count-cons}
use Rattle.line.specs.Places.{lower_among, end_among, entries_among, entry_among}
use Rattle.line.specs.Laws.Places.{end-past, entry_next, end-high}

module _ (l : ℕ) where
  -- Rows lower_among than l count for nothing.
  count-lower : (n : ℕ) (ks : List ℕ) → count (leb l) (take n ks) ≡ count (leb l) (take (n - lower_among l ks) (drop (lower_among l ks) ks))
  unfolding lower_among
  count-lower n [] = let e : n ≡ n - 0 = omega arith in ap (λ (k : ℕ). count (leb l) (take k [])) e
  count-lower zero (k ∷ ks) =
      let i : ℕ = lower_among l (k ∷ ks) in
      let e : 0 ≡ 0 - i = omega arith in
      ap (λ (j : ℕ). count (leb l) (take j (drop i (k ∷ ks)))) e
  count-lower (suc n) (k ∷ ks) =
      count-cons (leb l) k (take n ks)
      ∙ test_cases
      (λ b. cond b (suc (count (leb l) (take n ks))) (count (leb l) (take n ks))
      ≡ count (leb l) (take (suc n - cond b 0 (suc (lower_among l ks))) (drop (cond b 0 (suc (lower_among l ks))) (k ∷ ks))))
      (leb l k)
      (λ e.
      let same : suc n ≡ suc n - 0 = omega arith in
      ap (λ (b : Bool). cond b (suc (count (leb l) (take n ks))) (count (leb l) (take n ks))) (sym e)
      ∙ sym (count-cons (leb l) k (take n ks))
      ∙ ap (λ (j : ℕ). count (leb l) (take j (k ∷ ks))) same)
      (λ e.
      let less : n - lower_among l ks ≡ suc n - suc (lower_among l ks) = omega arith in
      count-lower n ks ∙ ap (λ (k : ℕ). count (leb l) (take k (drop (lower_among l ks) ks))) less)

  module _ (ks : List ℕ) where
    module _ (e : ℕ) where
      -- What has entries_among starts before e and before the end of the line.
      entries-some : (s : ℕ) → 0 < entries_among l s e ks → (s < e) × (s < length ks)
      unfolding entries_among count select
      entries-some s h = (before (dec_lt s e), within (dec_lt s (length ks)))
        where
          before : Dec (s < e) → s < e
          before (yes g) = g
          before (no g) =
              let none : e - s ≡ 0 = omega arith in
              absurd (omega (arith, ap (λ (k : ℕ). count (leb l) (take k (drop s ks))) none))

          within : Dec (s < length ks) → s < length ks
          within (yes g) = g
          within (no g) =
              absurd
              (omega
              (arith, ap (λ (ys : List ℕ). count (leb l) (take (e - s) ys)) (drop_of_length-le ks {i = s} (omega arith)) ∙ ap (count (leb l)) (take-nil (e - s))))

      -- The first entry, and those of the rest.
      pub entries_next : (s : ℕ) → s < e → s < length ks → l ≤ get_or ks s 0 → entries_among l s e ks ≡ suc (entries_among l (end_among l s ks) e ks)
      unfolding entries_among end_among
      entries_next s h g t =
          let rest : List ℕ = drop (suc s) ks in
          let more : e - s ≡ suc (e - suc s) = omega arith in
          let less : e - suc s - lower_among l rest ≡ e - (suc s + lower_among l rest) = omega arith in
          ap₂ (λ (k : ℕ) (ys : List ℕ). count (leb l) (take k ys)) more (drop-cons ks s 0 g)
          ∙ count-cons (leb l) (get_or ks s 0) (take (e - suc s) rest)
          ∙ ap (λ (b : Bool). cond b (suc (count (leb l) (take (e - suc s) rest))) (count (leb l) (take (e - suc s) rest))) (le-leb l (get_or ks s 0) t)
          ∙ ap suc (count-lower (e - suc s) rest
          ∙ ap₂ (λ (k : ℕ) (ys : List ℕ). count (leb l) (take k ys)) less (drop-drop (lower_among l rest) (suc s) ks))

      -- An entry of the node that starts at s starts before e.
      pub entry-before : (k s : ℕ) → (s < length ks → l ≤ get_or ks s 0) → k < entries_among l s e ks → entry_among l s k ks < e
      unfolding entry_among
      entry-before zero s t h = (entries-some s h).0
      entry-before (suc k) s t h =
          let in-line = entries-some s (omega arith) in
          subst (λ (q : ℕ). q < e) (sym (entry_next l s k ks))
          (entry-before k (end_among l s ks) (end-high l ks s) (omega (arith, entries_next s in-line.0 in-line.1 (t in-line.1))))

    pub entry-after : (s k : ℕ) → s + k ≤ entry_among l s k ks
    unfolding entry_among
    entry-after s zero = omega arith
    entry-after s (suc k) = omega (arith, entry-after s k, end-past l (entry_among l s k ks) ks)
