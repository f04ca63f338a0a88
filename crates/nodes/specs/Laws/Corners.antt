-- A corner held against the listed moves: the turns of the search for one that dominates it, and that none stands in the node.
use Rattle.std.specs.Prelude.{ℕ, ◌+◌, ◌-◌, ◌≤◌, ◌<◌, Bool, true, ◌&&◌, ◌||◌, ◌≡◌, refl, eqb, length, get_or}
use Rattle.std.proofs.Math.Bool.{false, not, and-false, not-not}
use mathlib.Core.List.{List}
use Rattle.std.proofs.Math.Path.{sym, ap, ap₂}
use Rattle.std.proofs.Common.{◌∙◌, arith, le-leb}
use Rattle.std.proofs.lemmas.Bool.{not-false, lt-leb}
use Rattle.std.proofs.Math.ListN.{take}
use Rattle.zorder.specs.Between.{row_costs, RowCosts, before, near_of, far_of}
use Rattle.zorder.proofs.Laws.Between.{near-row, near_le, before-irrefl}
use Rattle.model.specs.Moves.{Move, move_before, z_before}
use Rattle.model.specs.Dominance.{nowhere_greater, somewhere_less, better, dominates}
use Rattle.model.specs.Sound.{Fit}
use Rattle.model.proofs.Laws.Bool.{by_cases, and_both, and-false-right, or_left, not_back}
use Rattle.model.proofs.Laws.Dominance.{dominates-below, row-lengths}
use Rattle.model.proofs.Laws.Hiding.{dominates-hides, move-hiding}
use Rattle.dominance.specs.Laws.Sums.{nowhere-somewhere}
use Rattle.dominance.specs.Lanes.{Lanes, bound, is_first}
use Rattle.promises.specs.Layout.{number_in, costs_in, move_in}
use Rattle.promises.specs.Run.{Bytes}
use Rattle.memory.specs.Room.{Ordered}
use Rattle.search.specs.Search.{fits, None, First}
use Rattle.memory.specs.Tests.{any_to, is_listed}
use Rattle.search.specs.declared.search.Among.TheVariants.{Listed}
use Rattle.search.specs.Laws.Hiders.{none_any, listed-fits}
use Rattle.memory.specs.Laws.Ordered.{ordered-place}
use Rattle.memory.specs.Laws.Places.{any_to-found, any_to-past}
use Rattle.search.specs.Laws.Search.{none-empty, none_more, none-join}
use Rattle.nodes.specs.Search.{dominates_corner, corner_dominated, goes_within, corner_at, opens_places}

-- ---- the search

-- What is asked of a move besides its flag, in another order.
turned : (a b c d : Bool) → (a && (b && (c && d))) ≡ (a && c && (b && d))
turned false b c d = refl
turned true true c d = refl
turned true false c d = sym (and-false c)

module _ (c d goes i : ℕ) (m corner q : List ℕ) where
  abbrev by : ℕ → Bool
  by = dominates_corner c d goes m corner

  -- What of it is asked of a move that fits.
  abbrev asked : ℕ → Bool
  asked j = not (eqb j goes) && somewhere_less (take d (costs_in c d m (number_in c m j))) (take d corner)

  -- Where the search stands: no move passed dominates the corner, and the place fits unless it is the end.
  pub record Sought (j : ℕ) : Type 0 where
    pub passed : None by 0 j
    pub fit : j < i → fits Listed c m q j ≡ true

  pub sought-none : (j : ℕ) → Sought j → i ≤ j → corner_dominated c d goes i m corner ≡ false
  unfolding corner_dominated
  sought-none j s l = none_any by i (λ k a g. s.passed k a (omega arith))

  module _ (few : d ≤ row_costs) (b : Bytes m) (wide : length corner ≡ row_costs) (h : Lanes (bound (is_first d) corner) q) where
    fit-by : (j : ℕ) → by j ≡ (fits Listed c m q j && asked j)
    unfolding dominates better move_in
    fit-by j =
        let p = take d (costs_in c d m (number_in c m j)) in
        turned (is_listed c m j) (not (eqb j goes)) (nowhere_greater p (take d corner)) (somewhere_less p (take d corner))
        ∙ ap (λ (t : Bool). t && asked j) (sym (listed-fits c d m few b j corner q wide h))

    sought-past : (j r : ℕ) → None by 0 j → First (fits Listed c m q) j i r → Sought r
    sought-past j r n f =
        record {
          passed = none-join by 0 j r n (λ k a g. fit-by k ∙ ap (λ (t : Bool). t && asked k) (f.passed k a g));
          fit = f.found;
        }

    pub sought-first : (r : ℕ) → First (fits Listed c m q) 0 i r → Sought r
    sought-first r = sought-past 0 r (none-empty by 0)

    -- The move at the place found, by its number and costs, and whether it is somewhere less.
    module _ (j : ℕ) (s : Sought j) (k : ℕ) (number : k ≡ number_in c m j) (p : List ℕ) (costs : p ≡ costs_in c d m k)
        (other : Bool) (e : other ≡ (not (eqb j goes) && somewhere_less (take d p) (take d corner))) where
      asked-other : asked j ≡ other
      asked-other = sym (e ∙ ap (λ (x : List ℕ). not (eqb j goes) && somewhere_less (take d x) (take d corner)) (costs ∙ ap (costs_in c d m) number))

      pub sought-next : other ≡ false → (r : ℕ) → First (fits Listed c m q) (j + 1) i r → Sought r
      sought-next f r =
          sought-past (j + 1) r (none_more by 0 j s.passed (fit-by j ∙ and-false-right (fits Listed c m q j) (asked j) (asked-other ∙ f)))

      pub sought-found : j < i → other ≡ true → corner_dominated c d goes i m corner ≡ true
      unfolding corner_dominated
      sought-found l f = any_to-found by i j l (fit-by j ∙ and_both (fits Listed c m q j) (asked j) (s.fit l) (asked-other ∙ f))

-- ---- the going move and a far corner

module _ (c d goes n : ℕ) (m q : List ℕ) where
  pub within_all : n ≤ goes → goes_within c d goes n m q ≡ true
  unfolding goes_within
  within_all l = ap (λ (t : Bool). t || nowhere_greater (take d (move_in c d m goes).costs) (take d q)) (le-leb n goes l)

  -- By its number and costs.
  pub within-going : goes < n → {k : ℕ} → k ≡ number_in c m goes → {p : List ℕ} → p ≡ costs_in c d m k
      → somewhere_less (take d q) (take d p) ≡ not (goes_within c d goes n m q)
  unfolding goes_within move_in
  within-going l number costs =
      ap (λ (p : List ℕ). somewhere_less (take d q) (take d p)) (costs ∙ ap (costs_in c d m) number)
      ∙ sym (not-not _)
      ∙ ap not (sym (nowhere-somewhere (take d (costs_in c d m (number_in c m goes))) (take d q)))
      ∙ ap (λ (t : Bool). not (t || nowhere_greater (take d (costs_in c d m (number_in c m goes))) (take d q))) (sym (lt-leb n goes l))

-- ---- the corners of a node

-- The corners of a node by the costs that were read.
module _ (c d goes n : ℕ) (m : List ℕ) (i e : ℕ) {p q : ℕ} (f : p ≡ number_in c m i) (g : q ≡ number_in c m (e - 1))
    {first last : List ℕ} (a : first ≡ costs_in c d m p) (b : last ≡ costs_in c d m q) where
  corner-read : (corner : ℕ → List ℕ → List ℕ → List ℕ) → corner d first last ≡ corner_at corner c d m i e
  unfolding corner_at move_in
  corner-read corner = ap₂ (corner d) (a ∙ ap (costs_in c d m) f) (b ∙ ap (costs_in c d m) g)

  pub opens-out : not (goes_within c d goes n m (far_of d first last)) ≡ true → false ≡ opens_places c d goes n m i e
  unfolding opens_places
  opens-out h =
      ap (λ (t : Bool). t && not (corner_dominated c d goes i m (corner_at near_of c d m i e)))
      (sym (not_back (goes_within c d goes n m (far_of d first last)) h) ∙ ap (goes_within c d goes n m) (corner-read far_of))

  pub opens-near : not (goes_within c d goes n m (far_of d first last)) ≡ false → {near : List ℕ} → near ≡ near_of d first last
      → not (corner_dominated c d goes i m near) ≡ opens_places c d goes n m i e
  unfolding opens_places
  opens-near h k =
      ap (λ (t : List ℕ). not (corner_dominated c d goes i m t)) (k ∙ corner-read near_of)
      ∙ ap (λ (t : Bool). t && not (corner_dominated c d goes i m (corner_at near_of c d m i e)))
      (sym (not-false (goes_within c d goes n m (far_of d first last)) h) ∙ ap (goes_within c d goes n m) (corner-read far_of))

-- The near corner of the node from place i up to place e is nowhere greater than its first move, so what dominates the corner
-- stands before that move: places from i on need not be asked.
module _ (c d n : ℕ) (m : List ℕ) (few : d ≤ row_costs) (fit : (j : ℕ) → j < n → Fit c d (move_in c d m j)) (o : Ordered c d n m)
    (i e : ℕ) (some : i < e) (within : e ≤ n) where
  abbrev near : List ℕ
  near = corner_at near_of c d m i e

  near-costs : RowCosts d near
  unfolding corner_at
  near-costs = near-row d (move_in c d m i).costs (move_in c d m (e - 1)).costs few

  last-after : before d (move_in c d m (e - 1)).costs (move_in c d m i).costs ≡ false
  unfolding move_before z_before
  last-after =
      let test = before d (move_in c d m (e - 1)).costs (move_in c d m i).costs in
      by_cases test (λ b. absurd (omega (arith, ordered-place c d n m o i (e - 1) (omega arith) (or_left test _ b)))) (λ b. b)

  near_first : (k : ℕ) → get_or near k 0 ≤ get_or (move_in c d m i).costs k 0
  unfolding corner_at
  near_first =
      let first = (move_in c d m i).costs in
      near_le d first (move_in c d m (e - 1)).costs first few (fit (e - 1) (omega arith)).costs (fit i (omega arith)).costs (before-irrefl d first) last-after

  dominator-place : (j : ℕ) → j < n → dominates d (move_in c d m j).costs near ≡ true → j < i
  dominator-place j l h =
      ordered-place c d n m o i j l
      ((move-hiding d c few).earlier x first (fit j l) own
      (dominates-hides d x first
      (dominates-below d x.costs near first.costs (row-lengths (fit j l).costs near-costs) (row-lengths near-costs own.costs) h (λ k g. near_first k))))
    where
      x : Move
      x = move_in c d m j

      first : Move
      first = move_in c d m i

      own : Fit c d first
      own = fit i (omega arith)

  pub corner-before : (goes : ℕ) → corner_dominated c d goes i m near ≡ corner_dominated c d goes n m near
  unfolding corner_dominated
  corner-before goes = sym (any_to-past (dominates_corner c d goes m near) i (n - i) past) ∙ ap (any_to (dominates_corner c d goes m near)) all
    where
      past : (j : ℕ) → i ≤ j → j < i + (n - i) → dominates_corner c d goes m near j ≡ false
      past j l h =
          let dominated = dominates d (move_in c d m j).costs near in
          and-false-right (is_listed c m j) (not (eqb j goes) && dominated)
          (and-false-right (not (eqb j goes)) dominated (by_cases dominated (λ t. absurd (omega (arith, dominator-place j (omega arith) t))) (λ t. t)))

      all : i + (n - i) ≡ n
      all = omega arith
