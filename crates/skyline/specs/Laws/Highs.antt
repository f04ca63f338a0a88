-- The highest bounds of each run: what a turn of each loop keeps, and that a chunk whose least costs exceed them hides none of the run.
use Rattle.std.specs.Prelude.{ℕ, ◌+◌, ◌*◌, ◌/◌, ◌≤◌, ◌<◌, true, false, List, [], ◌≡◌, length, get_or, set, take}
use Rattle.std.proofs.Common.{sym, ap, ◌∙◌, subst, arith, length-set}
use Rattle.std.proofs.Math.Decide.{ℕ_discrete}
use Rattle.zorder.specs.Address.{row_costs}
use Rattle.model.specs.Dominance.{somewhere_less}
use Rattle.model.proofs.Laws.Bool.{both_ways}
use Rattle.dominance.specs.Lanes.{Lanes, greater}
use Rattle.dominance.specs.Laws.Lanes.{greater-above}
use Rattle.search.specs.Search.{bounds_at, Under}
use Rattle.skyline.specs.Chunks.{listed, Gathered, Unhidden, HighWith, Highs}
use Rattle.search.specs.Laws.Search.{bounds-lanes, runs-more}
use Rattle.skyline.specs.Laws.Chunks.{gathered-exceeds}

module _ {c d : ℕ} {m : List ℕ} where
  pub high-none : (i : ℕ) (high : List ℕ) → HighWith c d m i i high high
  high-none i high = record { old = λ k l. omega arith; new = λ k l g. absurd (omega arith) }

  pub high_same : {i j : ℕ} {high top : List ℕ} → listed c m j ≡ false → HighWith c d m i j high top → HighWith c d m i (j + 1) high top
  high_same {i} {j} {high} {top} e h = record { old = h.old; new = λ k l g t. go k l g t (ℕ_discrete k j) }
    where
      go : (k : ℕ) → i ≤ k → k < j + 1 → listed c m k ≡ true → Dec (k ≡ j) → Under (bounds_at c d m k) top
      go k l g t (yes same) = both_ways t (ap (listed c m) same ∙ e)
      go k l g t (no other) = h.new k l (omega arith) t

  pub high-more : {i j : ℕ} {high top : List ℕ} (r : List ℕ) → Lanes (greater top (bounds_at c d m j)) r → HighWith c d m i j high top → HighWith c d m i (j + 1) high r
  high-more {i} {j} {high} {top} r w h = record { old = λ n s. omega (arith, h.old n s, (above n s).0); new = λ k l g t. go k l g t (ℕ_discrete k j) }
    where
      above : (n : ℕ) → n < row_costs → (get_or top n 0 ≤ get_or r n 0) × (get_or (bounds_at c d m j) n 0 ≤ get_or r n 0)
      above n s =
          (omega (arith, w.holds n s, (greater-above top (bounds_at c d m j) n).0), omega (arith, w.holds n s, (greater-above top (bounds_at c d m j) n).1))

      go : (k : ℕ) → i ≤ k → k < j + 1 → listed c m k ≡ true → Dec (k ≡ j) → Under (bounds_at c d m k) r
      go k l g t (yes same) = subst (λ (z : ℕ). Under (bounds_at c d m z) r) (sym same) (λ n s. (above n s).1)
      go k l g t (no other) = λ n s. omega (arith, h.new k l (omega arith) t n s, (above n s).0)

  pub highs-none : (highs : List (List ℕ)) → length highs ≡ 64 → Highs c d m 0 highs
  highs-none highs e = record { runs = e; above = λ i l. absurd (omega arith) }

  pub highs-more : (i e : ℕ) (highs : List (List ℕ)) (r : List ℕ) → i / 64 < 64 → e ≤ 64 * (i / 64) + 64 → Highs c d m i highs
      → HighWith c d m i e (get_or highs (i / 64) []) r → Highs c d m e (set highs (i / 64) r)
  highs-more i e highs r small end h w = record {
    runs = length-set highs (i / 64) r ∙ h.runs;
    above = runs-more (λ k y. listed c m k ≡ true → Under (bounds_at c d m k) y) i e highs r h.runs small end h.above w.new
        (λ k g t n s. omega (arith, w.old n s, g t n s));
  }

  -- A run passed by.
  pub high-unhidden : (a b n f e : ℕ) (columns low : List ℕ) (highs : List (List ℕ)) → Gathered c m a b columns low → Highs c d m n highs
      → e ≤ 64 * (f / 64) + 64 → e ≤ n
      → somewhere_less (take row_costs (get_or highs (f / 64) [])) (take row_costs low) ≡ true → Unhidden c d m a b f e
  high-unhidden a b n f e columns low highs g h end room over j l s t k i p before =
      gathered-exceeds c m a b columns low (bounds_at c d m j) g (bounds-lanes c d m j).wide (get_or highs (f / 64) [])
      (subst (λ (z : ℕ). Under (bounds_at c d m j) (get_or highs z [])) same (h.above j (omega arith) t)) over k i p
    where
      same : j / 64 ≡ f / 64
      same = omega arith
