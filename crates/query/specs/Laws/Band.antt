-- Who dominates a move stands before it, and a search for what is nowhere greater finds it; a listed move none dominates.
use Rattle.std.specs.Prelude.{ℕ, ◌+◌, ◌≤◌, ◌<◌, Bool, true, false, cond, ◌&&◌, List, ◌≡◌, take}
use Rattle.std.proofs.Common.{sym, ◌∙◌, arith, le-leb}
use Rattle.std.proofs.Math.Path.{ap}
use Rattle.std.proofs.lemmas.Bool.{lt-leb}
use Rattle.std.proofs.Math.Dec.{leb}
use Rattle.zorder.specs.Address.{row_costs}
use Rattle.model.specs.Basics.{count}
use Rattle.model.specs.Dominance.{somewhere_less, better, dominates}
use Rattle.model.specs.Lists.{dominators}
use Rattle.model.proofs.Laws.Bool.{by_cases, both_ways, and_left}
use Rattle.dominance.specs.Lanes.{Lanes, bound, is_first}
use Rattle.line.specs.Line.{moves_in}
use Rattle.promises.specs.Layout.{number_in, move_in, line_from}
use Rattle.promises.specs.Run.{Bytes}
use Rattle.memory.specs.Held.{SoundRows}
use Rattle.memory.specs.Tests.{is_listed}
use Rattle.memory.specs.Laws.Costs.{row-length}
use Rattle.memory.specs.Laws.Held.{dominated-hidden, dominated-after}
use Rattle.memory.specs.Laws.Lines.{moves_in-line}
use Rattle.search.specs.Search.{looks, looks_at, seen, seen_at, fits, None, First}
use Rattle.search.specs.Laws.Search.{none-empty}
use Rattle.search.specs.Laws.Hiders.{words-within}
use Rattle.search.specs.Laws.Counts.{count_none, count-skip, count-passed, count-tab, CountedTo, counted-first, counted_next, counted-all}
use Rattle.search.specs.declared.search.Among.TheVariants.{All}
use Rattle.query.specs.Band.{in_band, dominates_place, dominators_to}

-- ---- what the search finds

module _ (c d : ℕ) (m : List ℕ) (few : d ≤ row_costs) (b : Bytes m) (i : ℕ) (q : List ℕ) (bounds : Lanes (bound (is_first d) (move_in c d m i).costs) q) where
  abbrev less_at : ℕ → Bool
  less_at j = somewhere_less (take d (move_in c d m j).costs) (take d (move_in c d m i).costs)

  -- The dominators before the place that the search has come to are counted.
  abbrev Dominators : ℕ → ℕ → Type 0
  Dominators j found = CountedTo (fits All c m q) (dominates_place c d m i) i j found

  fits-dominates : (j : ℕ) → dominates_place c d m i j ≡ (fits All c m q j && less_at j)
  unfolding dominates better fits looks_at looks seen_at seen move_in
  fits-dominates j =
      ap (λ (t : Bool). t && less_at j)
      (sym (words-within c d m few b (number_in c m j) (move_in c d m i).costs q (row-length c d m (number_in c m i) few) bounds))

  dominates-fits : (j : ℕ) → dominates_place c d m i j ≡ true → fits All c m q j ≡ true
  dominates-fits j e = and_left (fits All c m q j) (less_at j) (sym (fits-dominates j) ∙ e)

  found-dominates : (j : ℕ) → fits All c m q j ≡ true → dominates_place c d m i j ≡ less_at j
  found-dominates j e = fits-dominates j ∙ ap (λ (t : Bool). t && less_at j) e

  pub dominators-first : {found j : ℕ} → found ≡ 0 → First (fits All c m q) 0 i j → Dominators j found
  dominators-first e f = counted-first (λ j _. dominates-fits j) (none-empty (dominates_place c d m i) 0) f e

  module _ {found j : ℕ} (h : CountedTo (fits All c m q) (dominates_place c d m i) i j found) where
    pub dominators-next : {more r : ℕ} (t : Bool) → j < i → less_at j ≡ t → more ≡ found + cond t 1 0 → First (fits All c m q) (j + 1) i r → Dominators r more
    dominators-next t l e k f = counted_next (λ j _. dominates-fits j) h l t (λ here. found-dominates j here ∙ e) k f

    module _ (most : ℕ) where
      pub dominators-over : j < i → less_at j ≡ true → found ≡ most → leb (dominators_to c d m i i) most ≡ false
      dominators-over l e k =
          lt-leb _ most (omega (arith, h.counts, count-passed (dominates_place c d m i) j i l (found-dominates j (h.found l) ∙ e)))

      pub dominators-within : i ≤ j → found ≤ most → leb (dominators_to c d m i i) most ≡ true
      dominators-within l k = le-leb _ most (omega (arith, counted-all h l))

-- ---- sound memory

module _ {c d n : ℕ} {m : List ℕ} (s : SoundRows c d n m) (b : Bytes m) (i : ℕ) (h : i < n) (most : ℕ) where
  band-places : in_band d most (moves_in (line_from c d n m)) (move_in c d m i) ≡ leb (dominators_to c d m i n) most
  unfolding dominators
  band-places =
      ap (λ (k : ℕ). leb k most)
      (ap (count (λ p. dominates d p.costs (move_in c d m i).costs)) (moves_in-line c d n m)
      ∙ count-tab (λ p. dominates d p.costs (move_in c d m i).costs) (move_in c d m) n)

  -- Only earlier moves are counted.
  pub band-before : in_band d most (moves_in (line_from c d n m)) (move_in c d m i) ≡ leb (dominators_to c d m i i) most
  band-before = band-places ∙ ap (λ (k : ℕ). leb k most) (count-skip (dominates_place c d m i) i n (omega arith) later)
    where
      later : None (dominates_place c d m i) i n
      later j a g = by_cases (dominates_place c d m i j) (λ e. absurd (omega (arith, dominated-after c d n m s j i g h e b))) (λ e. e)

  pub band-listed : is_listed c m i ≡ true → in_band d most (moves_in (line_from c d n m)) (move_in c d m i) ≡ true
  band-listed listed =
      band-places ∙ le-leb _ most (omega (arith, count-skip (dominates_place c d m i) 0 n (omega arith) none, count_none (dominates_place c d m i)))
    where
      none : None (dominates_place c d m i) 0 n
      none j a g = by_cases (dominates_place c d m i j) (λ e. both_ways listed (dominated-hidden c d n m s j i g h e)) (λ e. e)
