-- Costs past the first d do not matter (Card 13): order, dominance, lists and notices of a board are those of the same board
-- with other costs past d in its rows.
use Rattle.std.specs.Prelude.{ℕ, ◌<◌, Bool, false, ◌&&◌, ◌||◌, ◌≡◌, eqb, get_or}
use Rattle.std.proofs.Math.Bool.{not}
use mathlib.Core.List.{List, [], ◌∷◌, map, map-map}
use Rattle.std.proofs.Math.Path.{refl, sym, ap, ap₂}
use Rattle.std.proofs.Common.{◌∙◌, get_or-take}
use Rattle.std.proofs.Math.Dec.{ltb, leb}
use Rattle.std.proofs.Math.ListN.{length, take, length-map}
use Rattle.zorder.specs.Between.{before, same_place}
use Rattle.zorder.specs.Refusal.{cost_past_bad}
use Rattle.zorder.proofs.Laws.FirstCosts.{before-alike, same-place-alike}
use Rattle.model.specs.Basics.{Each, select, any, count, sort_by, parts, numbers_from, equal}
use Rattle.model.specs.Moves.{Move, Row, row_of, listed, z_before, move_before, row_before}
use Rattle.model.specs.Dominance.{better, dominates, at, dominates_at, dominates_on, equal_costs, lower_twin, hides}
use Rattle.model.specs.Lists.{hidden, skyline, dominators, band, dominated, rank_before, rank, on_k, chosen, chosen_costs, listed_rows}
use Rattle.model.specs.Hours.{block_open, open_moves}
use Rattle.model.specs.Calls.{Board, list_of, query_rows, query_refusal, query_answer, Answer, or_else, rows_answer}
use Rattle.width.specs.Width.{Covered, list, band_query, rank_query, on_k_query, chosen_query, hours_query, query_of, move_with, row_with, board_with}
use Rattle.model.proofs.Laws.Basics.{each-mem, mem-each, parts-each, any-map, any-ext, select-map, count_map, map-take}
use Rattle.model.proofs.Laws.Range.{each-place}
use Rattle.model.proofs.Laws.Chosen.{chosen-below}
use Rattle.model.proofs.Laws.Sorting.{map-sort}

-- What g keeps of a row's costs: the first d, that those past d are zero, and that there are none.
pub record KeepsFirst (d : ℕ) (g : List ℕ → List ℕ) : Type 0 where
  pub first : (cs : List ℕ) → take d (g cs) ≡ take d cs
  pub past : (cs : List ℕ) → cost_past_bad d cs ≡ false → cost_past_bad d (g cs) ≡ false
  pub none : g [] ≡ []

-- ---- a set of the first d costs

at-alike : (d : ℕ) (p p' : List ℕ) → take d p ≡ take d p' → (s : List ℕ) → Each (λ i. i < d) s → at s p ≡ at s p'
unfolding at
at-alike d p p' e [] es = refl
at-alike d p p' e (i ∷ s) es =
    ap₂ ◌∷◌ (sym (get_or-take d p i 0 es.0) ∙ ap (λ (cs : List ℕ). get_or cs i 0) e ∙ get_or-take d p' i 0 es.0) (at-alike d p p' e s es.1)

module _ (d : ℕ) (g : List ℕ → List ℕ) (G : KeepsFirst d g) where
  -- ---- two rows

  module _ (p q : List ℕ) where
    before-with : before d (g p) (g q) ≡ before d p q
    before-with = before-alike d (g p) p (g q) q (G.first p) (G.first q)

    same-place-with : same_place d (g p) (g q) ≡ same_place d p q
    same-place-with = same-place-alike d (g p) p (g q) q (G.first p) (G.first q)

    pub dominates-with : dominates d (g p) (g q) ≡ dominates d p q
    unfolding dominates
    dominates-with = ap₂ better (G.first p) (G.first q)

    equal-with : equal_costs d (g p) (g q) ≡ equal_costs d p q
    unfolding equal_costs
    equal-with = ap₂ equal (G.first p) (G.first q)

    dominates-at-with : (s : List ℕ) → Each (λ i. i < d) s → dominates_at s (g p) (g q) ≡ dominates_at s p q
    unfolding dominates_at
    dominates-at-with s es = ap₂ better (at-alike d (g p) p (G.first p) s es) (at-alike d (g q) q (G.first q) s es)

    dominates-on-with : (k : ℕ) → dominates_on d k (g p) (g q) ≡ dominates_on d k p q
    unfolding dominates_on
    dominates-on-with k =
        any-ext (λ s. dominates_at s (g p) (g q)) (λ s. dominates_at s p q) (parts k (numbers_from 0 d))
        (mem-each (λ s. dominates_at s (g p) (g q) ≡ dominates_at s p q) (parts k (numbers_from 0 d))
        (λ s m. dominates-at-with s (each-mem (Each (λ i. i < d)) (parts-each (λ i. i < d) k (numbers_from 0 d) (each-place (λ i. i < d) d (λ i h. h))) m)))

    z-before-with : (n m : ℕ) → z_before d n (g p) m (g q) ≡ z_before d n p m q
    unfolding z_before
    z-before-with n m = λ i. before-with i || (same-place-with i && ltb n m)

  pub move-before-with : (m n : Move) → move_before d (move_with g m) (move_with g n) ≡ move_before d m n
  unfolding move_before
  move-before-with m n = z-before-with m.costs n.costs m.number n.number

  rank-before-with : (r s : Row) → rank_before d (row_with g r) (row_with g s) ≡ rank_before d r s
  unfolding rank_before row_before
  rank-before-with r s = λ i. ltb s.mark r.mark || (eqb r.mark s.mark && z-before-with r.costs s.costs r.number s.number i)

  pub hides-with : (m n : Move) → hides d (move_with g m) (move_with g n) ≡ hides d m n
  unfolding hides lower_twin
  hides-with m n = λ i. dominates-with m.costs n.costs i || (equal-with m.costs n.costs i && ltb m.number n.number)

  -- ---- the lists

  module _ (ms : List Move) where
    hidden-with : (m : Move) → hidden d (map (move_with g) ms) (move_with g m) ≡ hidden d ms m
    unfolding hidden
    hidden-with m = any-map (λ p. hides d p (move_with g m)) (move_with g) ms ∙ (λ i. any (λ p. hides-with p m i) ms)

    pub skyline-with : skyline d (map (move_with g) ms) ≡ map (move_with g) (skyline d ms)
    unfolding skyline
    skyline-with = select-map _ (move_with g) ms ∙ (λ i. map (move_with g) (select (λ m. not (hidden-with m i)) ms))

    dominators-with : (m : Move) → dominators d (map (move_with g) ms) (move_with g m) ≡ dominators d ms m
    unfolding dominators
    dominators-with m =
        count_map (λ p. dominates d p.costs (g m.costs)) (move_with g) ms
        ∙ (λ i. count (λ p. dominates-with p.costs m.costs i) ms)

    dominated-with : (m : Move) → dominated d (map (move_with g) ms) (move_with g m) ≡ dominated d ms m
    unfolding dominated
    dominated-with m =
        count_map (λ q. dominates d (g m.costs) q.costs) (move_with g) ms
        ∙ (λ i. count (λ q. dominates-with m.costs q.costs i) ms)

    pub band-with : (b : ℕ) → band d b (map (move_with g) ms) ≡ map (move_with g) (band d b ms)
    unfolding band
    band-with b = select-map _ (move_with g) ms ∙ (λ i. map (move_with g) (select (λ m. leb (dominators-with m i) b) ms))

    pub rank-with : (t : ℕ) → rank d t (map (move_with g) ms) ≡ map (row_with g) (rank d t ms)
    unfolding rank row_of
    rank-with t =
        ap (λ (ns : List Move). take t (sort_by (rank_before d) (map (λ m. row_of (dominated d (map (move_with g) ms) m) m) ns))) skyline-with
        ∙ ap (λ (rs : List Row). take t (sort_by (rank_before d) rs)) rows
        ∙ ap (take t) (sym (map-sort (row_with g) (rank_before d) (rank_before d) (λ r s. sym (rank-before-with r s)) counts))
        ∙ sym (map-take (row_with g) t (sort_by (rank_before d) counts))
      where
        counts : List Row
        counts = map (λ m. row_of (dominated d ms m) m) (skyline d ms)

        rows : map (λ m. row_of (dominated d (map (move_with g) ms) m) m) (map (move_with g) (skyline d ms)) ≡ map (row_with g) counts
        rows =
            map-map (λ m. row_of (dominated d (map (move_with g) ms) m) m) (move_with g) (skyline d ms)
            ∙ (λ i. map (λ m. row_with g (row_of (dominated-with m i) m)) (skyline d ms))
            ∙ sym (map-map (row_with g) (λ m. row_of (dominated d ms m) m) (skyline d ms))

    -- the moves that no other beats, by a test that g does not change
    unbeaten-with : (p : List ℕ → List ℕ → Bool) → ((a b : List ℕ) → p (g a) (g b) ≡ p a b)
        → select (λ m. not (any (λ n. p n.costs m.costs) (map (move_with g) ms))) (map (move_with g) ms)
        ≡ map (move_with g) (select (λ m. not (any (λ n. p n.costs m.costs) ms)) ms)
    unbeaten-with p e = select-map _ (move_with g) ms ∙ (λ i. map (move_with g) (select (λ m. not (beaten m i)) ms))
      where
        beaten : (m : Move) → any (λ n. p n.costs (g m.costs)) (map (move_with g) ms) ≡ any (λ n. p n.costs m.costs) ms
        beaten m = any-map (λ n. p n.costs (g m.costs)) (move_with g) ms ∙ (λ i. any (λ n. e n.costs m.costs i) ms)

    pub on-k-with : (k : ℕ) → on_k d k (map (move_with g) ms) ≡ map (move_with g) (on_k d k ms)
    unfolding on_k
    on-k-with k = unbeaten-with (dominates_on d k) (λ a b. dominates-on-with a b k)

    pub chosen-with : (set : ℕ) → chosen (chosen_costs d set) (map (move_with g) ms) ≡ map (move_with g) (chosen (chosen_costs d set) ms)
    unfolding chosen
    chosen-with set = unbeaten-with (dominates_at (chosen_costs d set)) (λ a b. dominates-at-with a b (chosen_costs d set) (chosen-below d set))

-- ---- what calls tell

pub rows-with : (g : List ℕ → List ℕ) (mark : ℕ) (ms : List Move) → map (row_of mark) (map (move_with g) ms) ≡ map (row_with g) (map (row_of mark) ms)
unfolding row_of
rows-with g mark ms = map-map (row_of mark) (move_with g) ms ∙ sym (map-map (row_with g) (row_of mark) ms)

module _ (g : List ℕ → List ℕ) (b : Board) (G : KeepsFirst b.dimension g) where
  told_with : (ms : List Move) {ns : List Move} → ns ≡ map (move_with g) ms → listed_rows ns ≡ map (row_with g) (listed_rows ms)
  unfolding listed_rows
  told_with ms e = ap (map (row_of listed)) e ∙ rows-with g listed ms

  -- Lists of any kind: the same rows, with the costs that g gives.
  pub query-rows-with : (q : Covered) → query_rows (board_with g b) (query_of q) ≡ map (row_with g) (query_rows b (query_of q))
  unfolding query_of query_rows list_of open_moves
  query-rows-with list = told_with (skyline b.dimension b.moves) (skyline-with b.dimension g G b.moves)
  query-rows-with (band_query n) = told_with (band b.dimension n b.moves) (band-with b.dimension g G b.moves n)
  query-rows-with (rank_query t) = rank-with b.dimension g G b.moves t
  query-rows-with (on_k_query k) = told_with (on_k b.dimension k b.moves) (on-k-with b.dimension g G b.moves k)
  query-rows-with (chosen_query set) = told_with (chosen (chosen_costs b.dimension set) b.moves) (chosen-with b.dimension g G b.moves set)
  query-rows-with (hours_query t hours) =
      let open-moves = open_moves t hours b.blocks b.moves in
      told_with (skyline b.dimension open-moves)
      (ap (skyline b.dimension) (select-map (λ m. block_open t hours (b.blocks m.number)) (move_with g) b.moves)
      ∙ skyline-with b.dimension g G open-moves)

  query-refusal-with : (q : Covered) → query_refusal (board_with g b) (query_of q) ≡ query_refusal b (query_of q)
  unfolding query_of query_refusal
  query-refusal-with list = refl
  query-refusal-with (band_query n) = refl
  query-refusal-with (rank_query t) = refl
  query-refusal-with (on_k_query k) = refl
  query-refusal-with (chosen_query set) = refl
  query-refusal-with (hours_query minute hours) = refl

  pub query-answer-with : (q : Covered) (lent : ℕ) → query_answer (board_with g b) (query_of q) lent ≡ query_answer b (query_of q) lent
  unfolding query_answer
  query-answer-with q lent =
      ap₂ (λ (a : Answer) (need : ℕ). or_else a (rows_answer need lent)) (query-refusal-with q)
      (ap length (query-rows-with q) ∙ length-map (query_rows b (query_of q)) (row_with g))
