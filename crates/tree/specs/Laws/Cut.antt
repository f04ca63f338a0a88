-- A node of nine: where its entries start, and the loop that finds the best cut.
use Prim.Native.Nat.{ℕ, zero, suc, ◌+◌, ◌-◌, ◌≤◌, ◌<◌}
use Rattle.std.specs.Prelude.{Bool, List, [], ◌∷◌, ◌≡◌, ltb}
use Rattle.std.proofs.Math.Bool.{cond}
use Rattle.std.proofs.Math.Path.{refl, ap}
use Rattle.std.proofs.Common.{sym, ◌∙◌, lt-ltb, le-ltb}
use native.Mathlib.Omega.{arith}
use Rattle.model.specs.Entering.{least_by}
use Rattle.model.proofs.Laws.Bool.{cond_cases}
use Rattle.line.specs.Line.{Placed, heights_in}
use Rattle.line.specs.Places.{entry_among, node_end, entry_at, side_at}
use Rattle.line.specs.Enter.{cut_sides, cut_entry}
use Rattle.promises.specs.Layout.{heights_from, line_from}
use Rattle.memory.specs.Laws.Lines.{length-heights_from, get_or-heights_from, heights_in-line}
use Rattle.memory.specs.Laws.Held.{fewer-readable}
use Rattle.nodes.specs.Places.{EntryAsked}
use Rattle.tree.specs.Split.{CutAsked, CutSides, NodeOfNine, CutPlace}
use Rattle.nodes.specs.Laws.Steps.{entry-turn}
use Rattle.tree.specs.Laws.Entries.{entry-before, entry-after}

-- ---- the lesser sum, turn by turn

module _ (f : ℕ → ℕ) where
  -- Which of the entries 3 to 3 + i is least by f, the first on a tie.
  unfoldable pub least_to : ℕ → ℕ
  least_to zero = 3
  least_to (suc i) = cond (ltb (f (4 + i)) (f (least_to i))) (4 + i) (least_to i)

  least-all : least_to 3 ≡ least_by f 3 (4 ∷ 5 ∷ 6 ∷ [])
  unfolding least_to least_by
  least-all = refl

  least-range : (i : ℕ) → (3 ≤ least_to i) × (least_to i ≤ 3 + i)
  unfolding least_to
  least-range zero = omega arith
  least-range (suc i) =
      cond_cases (λ (k : ℕ). (3 ≤ k) × (k ≤ 3 + suc i)) (ltb (f (4 + i)) (f (least_to i))) (λ e. omega arith) (λ e. omega (arith, least-range i))

  least-new : (i : ℕ) → f (4 + i) < f (least_to i) → least_to (suc i) ≡ 4 + i
  unfolding least_to
  least-new i h = ap (λ (b : Bool). cond b (4 + i) (least_to i)) (lt-ltb (f (4 + i)) (f (least_to i)) h)

  least-same : (i : ℕ) → f (least_to i) ≤ f (4 + i) → least_to (suc i) ≡ least_to i
  unfolding least_to
  least-same i h = ap (λ (b : Bool). cond b (4 + i) (least_to i)) (le-ltb (f (4 + i)) (f (least_to i)) h)

-- ---- a node of nine

-- The entries 3 to j tried: entry j starts at q, and the best cut so far is before `best`, with the sum `least`.
pub record Tried (d l s e : ℕ) (rs : List Placed) (j q best least : ℕ) : Type 0 where
  pub from : 3 ≤ j
  pub to : j ≤ 6
  pub at : q ≡ entry_at (l - 1) s j rs
  pub found : best ≡ entry_at (l - 1) s (least_to (cut_sides d l s e rs) (j - 3)) rs
  pub sum : least ≡ cut_sides d l s e rs (least_to (cut_sides d l s e rs) (j - 3))

module _ {c d n l s e : ℕ} {m : List ℕ} (asked : NodeOfNine c d n l s e m) where
  entry-within : (j : ℕ) → j ≤ 8 → entry_among (l - 1) s j (heights_from c n m) < e
  entry-within j h =
      entry-before (l - 1) (heights_from c n m) e j s
      (λ g. omega (arith, asked.starts, get_or-heights_from c n m s (omega (arith, length-heights_from c n m))))
      (omega (arith, asked.nine))

  pub nine-entry : EntryAsked c n (l - 1) s 3 m
  nine-entry =
      record {
        room = asked.readable.room;
        rows = asked.readable.rows;
        inside = λ j h. omega (arith, asked.ends, entry-within j (omega arith));
      }

  abbrev rs : List Placed
  rs = line_from c d n m

  -- Where entry j starts, and the sum of the sides of a cut there.
  abbrev start : ℕ → ℕ
  start j = entry_at (l - 1) s j rs

  abbrev total : ℕ → ℕ
  total = cut_sides d l s e rs

  start-inside : (j : ℕ) → 0 < j → j ≤ 8 → (s < start j) × (start j < e)
  start-inside j g h =
      (omega (arith, entry-after (l - 1) (heights_in rs) s j), omega (arith, entry-within j h, ap (entry_among (l - 1) s j) (heights_in-line c d n m)))

  pub nine-cut : {q : ℕ} (j : ℕ) → 0 < j → j ≤ 8 → q ≡ start j → CutAsked c d s q e m
  nine-cut j g h at =
      let inside = start-inside j g h in
      record {
        readable = fewer-readable asked.readable asked.ends;
        before = omega arith;
        after = omega arith;
      }

  sides-at : (j q r : ℕ) → q ≡ start j → CutSides c d s q e m r → r ≡ total j
  unfolding cut_sides
  sides-at j q r at cut =
      cut.is n asked.ends ∙ ap (λ (p : ℕ). side_at d s (p - 1) rs + side_at d p (e - 1) rs) at

  pub tried-first : {q r : ℕ} → q ≡ start 3 → CutSides c d s q e m r → Tried d l s e rs 3 q q r
  unfolding least_to
  tried-first {q} {r} at cut =
      let none : 0 ≡ 3 - 3 = omega arith in
      record {
        from = omega arith;
        to = omega arith;
        at = at;
        found = at ∙ ap (λ (i : ℕ). start (least_to total i)) none;
        sum = sides-at 3 q r at cut ∙ ap (λ (i : ℕ). total (least_to total i)) none;
      }

  module _ {j q best least q' r : ℕ} (t : Tried d l s e rs j q best least) (more : j < 6) (next : q' ≡ node_end (l - 1) q rs) (cut : CutSides c d s q' e m r) where
    next_start : q' ≡ start (j + 1)
    next_start = entry-turn (l - 1) s j q q' (heights_in rs) t.at next

    four : j + 1 ≡ 4 + (j - 3)
    four = omega (arith, t.from)

    next-total : r ≡ total (4 + (j - 3))
    next-total = sides-at (j + 1) q' r next_start cut ∙ ap total four

    made : {b v : ℕ} (k : ℕ) → k ≡ least_to total (suc (j - 3)) → b ≡ start k → v ≡ total k → Tried d l s e rs (j + 1) q' b v
    made k is at of =
        let turn : suc (j - 3) ≡ j + 1 - 3 = omega (arith, t.from) in
        record {
          from = omega (arith, t.from);
          to = omega arith;
          at = next_start;
          found = at ∙ ap start (is ∙ ap (least_to total) turn);
          sum = of ∙ ap total (is ∙ ap (least_to total) turn);
        }

    pub tried-less : {b v : ℕ} → r < least → b ≡ q' → v ≡ r → Tried d l s e rs (j + 1) q' b v
    tried-less h at of =
        made (4 + (j - 3)) (sym (least-new total (j - 3) (omega (arith, next-total, t.sum)))) (at ∙ next_start ∙ ap start four) (of ∙ next-total)

    pub tried-more : {b v : ℕ} → least ≤ r → b ≡ best → v ≡ least → Tried d l s e rs (j + 1) q' b v
    tried-more h at of =
        made (least_to total (j - 3)) (sym (least-same total (j - 3) (omega (arith, next-total, t.sum)))) (at ∙ t.found) (of ∙ t.sum)

  pub tried-all : {j q best least : ℕ} → Tried d l s e rs j q best least → 6 ≤ j → CutPlace c d n l s e m best
  unfolding cut_entry
  tried-all {j} t h =
      let k = least_to total (j - 3) in
      let range = least-range total (j - 3) in
      let inside = start-inside k (omega (arith, range.0)) (omega (arith, range.1, t.to)) in
      let three : j - 3 ≡ 3 = omega (arith, t.to) in
      record {
        is = t.found ∙ ap start (ap (least_to total) three ∙ least-all total);
        after = omega (arith, t.found);
        within = omega (arith, t.found);
      }
