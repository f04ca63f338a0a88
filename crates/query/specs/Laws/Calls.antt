-- What turns the calls down, and which rows they have.
use Rattle.std.specs.Prelude.{ℕ, ◌^◌, ◌≤◌, ◌<◌, Bool, true, false, cond, List, [], ◌∷◌, ◌≡◌, ◌⊎◌, leb, eqb}
use Rattle.std.proofs.Math.Bool.{not}
use Rattle.std.proofs.Math.Path.{refl}
use Rattle.std.proofs.Common.{ap, inr, ⊎_elim, arith, le-leb, eq-eqb, ne_eqb}
use Rattle.std.proofs.lemmas.Bool.{lt-leb}
use Rattle.zorder.specs.Refusal.{refusal}
use Rattle.model.specs.Basics.{select}
use Rattle.model.specs.Lists.{band, on_k, chosen, listed_rows}
use Rattle.model.specs.Calls.{accepted, refused_with, band_query, on_k_query, chosen_query, query_refusal, query_rows}
use Rattle.model.proofs.Laws.Bool.{or_left, or_right, or-false-both}
use Rattle.model.proofs.Laws.Tree.{within-true, within-false}
use Rattle.promises.specs.Layout.{dimension_in, board_in}
use Rattle.query.specs.Rule.{beats}
use Rattle.query.specs.Band.{in_band}
use Rattle.query.specs.Unbeaten.{unbeaten}
use Rattle.query.specs.declared.rule.Rule.TheVariants.{OnK, Chosen}

-- ---- the refusals

bad : (b : Bool) → b ≡ true → refused_with (refusal ((b, 7) ∷ [])) ≡ refused_with 7
unfolding refusal
bad b e = ap (λ (x : Bool). refused_with (cond x 7 0)) e

right : (b : Bool) → b ≡ false → refused_with (refusal ((b, 7) ∷ [])) ≡ accepted
unfolding refusal refused_with accepted
right b e = ap (λ (x : Bool). refused_with (cond x 7 0)) e

module _ (m : List ℕ) where
  pub band-bad : (n : ℕ) → 4095 < n → query_refusal (board_in m) (band_query n) ≡ refused_with 7
  unfolding query_refusal
  band-bad n h = bad _ (ap not (within-false 0 4095 n (inr h)))

  pub band-right : (n : ℕ) → n ≤ 4095 → query_refusal (board_in m) (band_query n) ≡ accepted
  unfolding query_refusal
  band-right n h = right _ (ap not (within-true 0 4095 n (omega arith) h))

  pub on-bad : (k : ℕ) → (k < 1) ⊎ (dimension_in m < k) → query_refusal (board_in m) (on_k_query k) ≡ refused_with 7
  unfolding query_refusal board_in
  on-bad k h = bad _ (ap not (within-false 1 (dimension_in m) k h))

  pub on-right : (k : ℕ) → 1 ≤ k → k ≤ dimension_in m → query_refusal (board_in m) (on_k_query k) ≡ accepted
  unfolding query_refusal board_in
  on-right k h l = right _ (ap not (within-true 1 (dimension_in m) k h l))

  pub chosen-bad : (set : ℕ) → (set ≡ 0) ⊎ (2 ^ dimension_in m ≤ set) → query_refusal (board_in m) (chosen_query set) ≡ refused_with 7
  unfolding query_refusal board_in
  chosen-bad set h =
      bad _
      (⊎_elim
      (λ e. or_left (eqb set 0) (leb (2 ^ dimension_in m) set) (eq-eqb set 0 e))
      (λ l. or_right (eqb set 0) (leb (2 ^ dimension_in m) set) (le-leb (2 ^ dimension_in m) set l))
      h)

  pub chosen-right : (set : ℕ) → (set ≡ 0 → ⊥) → set < 2 ^ dimension_in m → query_refusal (board_in m) (chosen_query set) ≡ accepted
  unfolding query_refusal board_in
  chosen-right set n l =
      right _ (or-false-both (eqb set 0) (leb (2 ^ dimension_in m) set) (ne_eqb set 0 n) (lt-leb (2 ^ dimension_in m) set l))

  -- ---- the rows

  pub band-rows : (n : ℕ) → query_rows (board_in m) (band_query n) ≡ listed_rows (select (in_band (dimension_in m) n (board_in m).moves) (board_in m).moves)
  unfolding query_rows board_in band
  band-rows n = refl

  pub on-rows : (k : ℕ) → query_rows (board_in m) (on_k_query k) ≡ listed_rows (select (unbeaten (dimension_in m) (OnK k) (board_in m).moves) (board_in m).moves)
  unfolding query_rows board_in on_k unbeaten beats
  on-rows k = refl

  pub chosen-rows : (set : ℕ) → query_rows (board_in m) (chosen_query set) ≡ listed_rows (select (unbeaten (dimension_in m) (Chosen set) (board_in m).moves) (board_in m).moves)
  unfolding query_rows board_in chosen unbeaten beats
  chosen-rows set = refl
