-- A chunk of listed moves as columns: what a turn of the loop that gathers them keeps, and what is known of them by their least
-- costs and by the columns.
use Rattle.std.specs.Prelude.{ℕ, ◌+◌, ◌≤◌, ◌<◌, Bool, true, false, cond, ◌&&◌, List, ◌⊎◌, ◌≡◌, ltb, length, get_or, take}
use Rattle.std.proofs.Common.{⊎_elim, sym, ap, ◌∙◌, subst, arith, lt-ltb, le-ltb, ltb-false}
use Rattle.std.proofs.Math.Decide.{ℕ_discrete}
use Rattle.zorder.specs.Address.{row_costs}
use Rattle.model.specs.Dominance.{nowhere_greater, somewhere_less}
use Rattle.model.proofs.Laws.Bool.{by_cases, both_ways, and_both}
use Rattle.dominance.specs.Lanes.{Lanes, lesser}
use Rattle.promises.specs.Layout.{number_in}
use Rattle.promises.specs.Run.{Bytes}
use Rattle.search.specs.Search.{seen, seen_at, bounds_at, fits, Below, Under, CornerWith}
use Rattle.search.specs.Columns.{count_to, Column, Bounds, FittingColumn, NoneFits, Put, Filled}
use Rattle.skyline.specs.Chunks.{listed, slot, ListedColumn, ListedColumns, Gathered, NoneBefore, FitsBefore}
use Rattle.memory.specs.Laws.Costs.{words_small}
use Rattle.search.specs.Laws.Counts.{count-more, count-grows, count-passed}
use Rattle.search.specs.Laws.Search.{bounds-lanes, length-seen-at, fits-unlooked, fits-exceeding, corner-exceeds, corner-least}
use Rattle.search.specs.declared.search.Among.TheVariants.{Listed}

pub bounds-past : (c d : ℕ) (m : List ℕ) (j : ℕ) → Bounds d (bounds_at c d m j)
bounds-past c d m j k l g = (bounds-lanes c d m j).holds k g ∙ ap (λ (t : Bool). cond {A = ℕ} t (get_or (seen_at Listed c m j) k 0) 65535) (le-ltb k d l)

-- ---- the loop

module _ (c : ℕ) (m : List ℕ) (a : ℕ) where
  pub gathered_none : (columns low : List ℕ) → Gathered c m a a columns low
  gathered_none columns low = record {
    few = omega arith;
    held = λ j l g. absurd (omega arith);
    only = λ l. absurd (omega arith);
    below = λ j l g. absurd (omega arith);
  }

  later-columns : {i e : ℕ} {columns : List ℕ} → i ≤ e → ListedColumns c m a i columns → ListedColumns c m a e columns
  later-columns more h t l =
      let one = h t l in
      record { place = one.place; after = one.after; before = omega (arith, one.before); shown = one.shown; held = one.held }

  module _ (i count : ℕ) (columns low : List ℕ) (from : a ≤ i) (h : Gathered c m a i columns low)
      (counted : count_to (listed c m) i ≡ count_to (listed c m) a + count) where
    pub same_count : listed c m i ≡ false → count_to (listed c m) (i + 1) ≡ count_to (listed c m) a + count
    same_count e = omega (arith, count-more (listed c m) i, ap (λ (t : Bool). cond {A = ℕ} t 1 0) e)

    pub more-count : listed c m i ≡ true → count_to (listed c m) (i + 1) ≡ count_to (listed c m) a + (count + 1)
    more-count e = omega (arith, count-more (listed c m) i, ap (λ (t : Bool). cond {A = ℕ} t 1 0) e)

    -- A place that isn't listed.
    pub gathered-same : listed c m i ≡ false → Gathered c m a (i + 1) columns low
    gathered-same e = record {
      few = omega (arith, h.few, counted, same_count e);
      held = λ j l g t. h.held j l (before j g t (ℕ_discrete j i)) t;
      only = λ l. later-columns (omega arith) (h.only (omega (arith, counted, same_count e)));
      below = λ j l g t. h.below j l (before j g t (ℕ_discrete j i)) t;
    }
      where
        before : (j : ℕ) → j < i + 1 → listed c m j ≡ true → Dec (j ≡ i) → j < i
        before j g t (yes same) = both_ways t (ap (listed c m) same ∙ e)
        before j g t (no other) = omega arith

    -- Before the first listed one nothing is gathered.
    none-gathered : count ≡ 0 → (j : ℕ) → a ≤ j → j < i → listed c m j ≡ true → ⊥
    none-gathered e j l g t = omega (arith, counted, count-grows (listed c m) a j l, count-passed (listed c m) j i g t)

    pub none-fits-before : count ≡ 0 → (q : List ℕ) → NoneBefore c m q a i i
    none-fits-before e q k l n before = by_cases (listed c m k) (λ t. absurd (none-gathered e k l n t)) (fits-unlooked Listed c m q k)

    -- Before a listed one is put: the first of the chunk is every column, for another the columns are as they were.
    abbrev pub Ready : List ℕ → Type 0
    Ready ready = ((count ≡ 0) × Filled (seen_at Listed c m i) ready) ⊎ ((0 < count) × (ready ≡ columns))

    module _ (e : listed c m i ≡ true) (ready : List ℕ) (r : Ready ready) where
      ready_held : (j : ℕ) → a ≤ j → j < i → listed c m j ≡ true → Column ready (slot c m a j) (seen_at Listed c m j)
      ready_held j l g t =
          ⊎_elim (λ first. absurd (none-gathered first.0 j l g t))
          (λ later. subst (λ (x : List ℕ). Column x (slot c m a j) (seen_at Listed c m j)) (sym later.1) (h.held j l g t))
          r

      ready-only : ListedColumns c m a (i + 1) ready
      ready-only =
          ⊎_elim (λ first t l. record { place = i; after = from; before = omega arith; shown = e; held = first.1 t l })
          (λ later. subst (ListedColumns c m a (i + 1)) (sym later.1) (later-columns (omega arith) (h.only (omega (arith, counted, later.0)))))
          r

    -- A listed one, put behind the others.
    pub gathered-more : listed c m i ≡ true → count < 64 → (ready columns' low' : List ℕ) → Ready ready
        → Put ready count (seen_at Listed c m i) columns' → Lanes (lesser low (seen_at Listed c m i)) low' → Gathered c m a (i + 1) columns' low'
    gathered-more e small ready columns' low' r put lower = record {
      few = omega (arith, more-count e);
      held = λ j l g t. held j l g t (ℕ_discrete j i);
      only = λ _ t l. only t l (ℕ_discrete t count);
      below = λ j l g t. below j l g t (ℕ_discrete j i);
    }
      where
        with_it : CornerWith Listed c m i (i + 1) low low'
        with_it = corner-least Listed c m i low low' lower

        held : (j : ℕ) → a ≤ j → j < i + 1 → listed c m j ≡ true → Dec (j ≡ i) → Column columns' (slot c m a j) (seen_at Listed c m j)
        held j l g t (yes same) =
            let at : slot c m a j ≡ count = omega (arith, counted, ap (count_to (listed c m)) same) in
            subst (λ (s : ℕ). Column columns' s (seen_at Listed c m j)) (sym at) (subst (λ (n : ℕ). Column columns' count (seen_at Listed c m n)) (sym same) put.here)
        held j l g t (no other) = λ k b.
            let before : slot c m a j < count = omega (arith, counted, count-grows (listed c m) a j l, count-passed (listed c m) j i (omega arith) t) in
            put.other (slot c m a j) k (omega arith) (λ s. omega arith) ∙ ready_held e ready r j l (omega arith) t k b

        only : (t : ℕ) → t < 64 → Dec (t ≡ count) → ListedColumn c m a (i + 1) columns' t
        only t l (yes same) = record {
          place = i;
          after = from;
          before = omega arith;
          shown = e;
          held = subst (λ (s : ℕ). Column columns' s (seen_at Listed c m i)) (sym same) put.here;
        }
        only t l (no other) =
            let one = ready-only e ready r t l in
            record {
              place = one.place;
              after = one.after;
              before = one.before;
              shown = one.shown;
              held = λ k g. put.other t k l other ∙ one.held k g;
            }

        below : (j : ℕ) → a ≤ j → j < i + 1 → listed c m j ≡ true → Dec (j ≡ i) → Below low' (seen_at Listed c m j)
        below j l g t (yes same) = with_it.new j (omega arith) g t
        below j l g t (no other) = λ k. omega (arith, with_it.old k, h.below j l (omega arith) t k)

-- The loop that gathers takes one place at least.
pub chunk-grows : (a n i count : ℕ) → a < n → count + a ≤ i → (ltb i n && ltb count 64) ≡ false → a < i
chunk-grows a n i count l k e =
    by_cases (ltb i n)
    (λ t. by_cases (ltb count 64) (λ u. both_ways (and_both (ltb i n) (ltb count 64) t u) e) (λ u. omega (arith, ltb-false count 64 u)))
    (λ t. omega (arith, ltb-false i n t))

-- A chunk that does not go to the last place is full.
pub chunk-some : (n i count : ℕ) → (ltb i n && ltb count 64) ≡ false → i < n → 0 < count
chunk-some n i count e l =
    by_cases (ltb count 64) (λ t. both_ways (and_both (ltb i n) (ltb count 64) (lt-ltb i n l) t) e) (λ t. omega (arith, ltb-false count 64 t))

-- ---- what is known of them

module _ (c : ℕ) (m : List ℕ) (a b : ℕ) (columns low q : List ℕ) (h : Gathered c m a b columns low) (wide : length q ≡ row_costs) where
  -- What `low` exceeds they all do.
  pub gathered-exceeds : (high : List ℕ) → Under q high → somewhere_less (take row_costs high) (take row_costs low) ≡ true
      → (k : ℕ) → a ≤ k → k < b → fits Listed c m q k ≡ false
  gathered-exceeds high under e k l g =
      by_cases (listed c m k)
      (λ t. fits-exceeding Listed c m q k (corner-exceeds low high (seen_at Listed c m k) q (length-seen-at Listed c m k) wide (h.below k l g t) under e))
      (fits-unlooked Listed c m q k)

  -- Each is a column.
  pub gathered-none-fits : NoneFits columns q → (k : ℕ) → a ≤ k → k < b → fits Listed c m q k ≡ false
  gathered-none-fits none k l g =
      by_cases (listed c m k)
      (λ t.
      fits-exceeding Listed c m q k
      (none (slot c m a k) (omega (arith, h.few, count-grows (listed c m) a k l, count-passed (listed c m) k b g t))
      (seen_at Listed c m k) (length-seen-at Listed c m k) (h.held k l g t)))
      (fits-unlooked Listed c m q k)

  -- And every column is one of them.
  pub gathered-fits : Bytes m → count_to (listed c m) a < count_to (listed c m) b → (j : ℕ) → b ≤ j → FittingColumn columns q → FitsBefore c m q j
  unfolding fits seen_at seen
  gathered-fits bytes some j l column =
      let one = h.only some column.column column.inside in
      record {
        place = one.place;
        earlier = omega (arith, one.before);
        fitting = and_both (listed c m one.place) (nowhere_greater (seen_at Listed c m one.place) q) one.shown
            (column.fits (seen_at Listed c m one.place) (length-seen-at Listed c m one.place) (words_small c m (number_in c m one.place) bytes) one.held);
      }
