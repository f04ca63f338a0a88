-- Boards of d costs in rows of n, from d up: what they give is what the same board in rows of `row_costs` gives, with zeros behind
-- (Card 13: "Boards of d up to 4 give the same lists, notices and counts as before"; n is then 4).
use Rattle.std.specs.Prelude.{ℕ, zero, suc, ◌+◌, ◌-◌, ◌≤◌, Bool, true, false, cond, ◌≡◌, refl, eqb, take, drop}
use Rattle.std.proofs.Math.Bool.{not}
use Rattle.std.proofs.lemmas.Bool.{false≢true, not-false}
use mathlib.Core.List.{List, [], ◌∷◌, map}
use Rattle.std.proofs.Common.{sym, ap₂, ◌∙◌, subst, le_trans, le_of_suc-le-suc, take-take, drop-drop}
use Rattle.std.proofs.Math.Path.{ap}
use native.Mathlib.Omega.{arith}
use Rattle.std.proofs.Math.Dec.{leb}
use Rattle.zorder.specs.Address.{row_costs, padded}
use Rattle.zorder.specs.Between.{RowCosts}
use Rattle.zorder.specs.Refusal.{all_zero, cost_past_bad}
use Rattle.zorder.proofs.Laws.Between.{row-padded}
use Rattle.model.specs.Basics.{Each, select, any, sort_by}
use Rattle.model.specs.Moves.{Move, Row, row_of, same_row, listed, left, entered}
use Rattle.model.specs.Dominance.{dominates_at, dominates_on}
use Rattle.model.specs.Lists.{hidden, skyline, dominators, band, rank_before, rank, dominated, on_k, chosen, chosen_costs, listed_rows}
use Rattle.model.specs.Hours.{block_open, open_moves}
use Rattle.model.specs.Notice.{missing, notice_of}
use Rattle.model.specs.Calls.{Board, list_of, changed, changed_moves, query_rows, Change, change_notice}
use Rattle.model.proofs.Laws.Basics.{each_append, each-select}
use Rattle.model.proofs.Laws.Sorting.{each-sort}
use Rattle.model.proofs.Laws.Tree.{each_take}
use Rattle.width.specs.Width.{Covered, list, band_query, rank_query, on_k_query, chosen_query, hours_query, query_of, narrow, widened, row_with, board_with, change_with}
use Rattle.width.specs.Laws.Width.{KeepsFirst, query-rows-with}
use Rattle.width.specs.Laws.WidthChanges.{FitCosts, FitChange, fit-rows, fit-skyline, fit-changed, change-notice-with}

-- ---- rows of n costs keep the first d

take_none : (n : ℕ) → ◌≡◌ {A = List ℕ} (take n []) []
take_none zero = refl
take_none (suc n) = refl

zero-take : (n : ℕ) (cs : List ℕ) → all_zero cs ≡ true → all_zero (take n cs) ≡ true
unfolding all_zero
zero-take zero cs h = refl
zero-take (suc n) [] h = refl
zero-take (suc n) (c ∷ cs) h = go (eqb c 0) h (zero-take n cs)
  where
    go : (b : Bool) → cond b (all_zero cs) false ≡ true → (all_zero cs ≡ true → all_zero (take n cs) ≡ true) → cond b (all_zero (take n cs)) false ≡ true
    go true h f = f h
    go false h f = h

zero-drop-take : (d n : ℕ) (cs : List ℕ) → d ≤ n → all_zero (drop d cs) ≡ true → all_zero (drop d (take n cs)) ≡ true
zero-drop-take zero n cs l h = zero-take n cs h
zero-drop-take (suc d) zero cs l h = absurd (omega arith)
zero-drop-take (suc d) (suc n) [] l h = h
zero-drop-take (suc d) (suc n) (c ∷ cs) l h = zero-drop-take d n cs (le_of_suc-le-suc l) h

pub narrow_keeps : (d n : ℕ) → d ≤ n → KeepsFirst d (narrow n)
unfolding cost_past_bad
narrow_keeps d n l =
    record {
      first = λ cs. take-take d n cs l;
      past = λ cs h. ap not (zero-drop-take d n cs l (not-false (all_zero (drop d cs)) h));
      none = take_none n;
    }

-- ---- and give the row back

zero-drop : (k : ℕ) (cs : List ℕ) → all_zero cs ≡ true → all_zero (drop k cs) ≡ true
unfolding all_zero
zero-drop zero cs h = h
zero-drop (suc k) [] h = refl
zero-drop (suc k) (c ∷ cs) h = go (eqb c 0) h (zero-drop k cs)
  where
    go : (b : Bool) → cond b (all_zero cs) false ≡ true → (all_zero cs ≡ true → all_zero (drop k cs) ≡ true) → all_zero (drop k cs) ≡ true
    go true h f = f h
    go false h f = absurd (false≢true h)

module _ (d n : ℕ) (l : d ≤ n) (m : n ≤ row_costs) where
  -- A row whose costs past d are zero is one whose costs past n are.
  wider-row : (cs : List ℕ) → RowCosts d cs → RowCosts n cs
  unfolding cost_past_bad
  wider-row cs h =
      let at : d + (n - d) ≡ n = omega arith in
      record {
        count = h.count;
        small = h.small;
        past =
            ap not
            (subst (λ (k : ℕ). all_zero (drop k cs) ≡ true) at
            (ap all_zero (sym (drop-drop (n - d) d cs)) ∙ zero-drop (n - d) (drop d cs) (not-false (all_zero (drop d cs)) h.past)));
      }

  pub narrow-widened : (cs : List ℕ) → RowCosts d cs → widened n (narrow n cs) ≡ cs
  unfolding padded
  narrow-widened cs h = row-padded n cs m (wider-row cs h)

  rows-widened : (rs : List Row) → Each (λ r. RowCosts d r.costs) rs → map (row_with (widened n)) (map (row_with (narrow n)) rs) ≡ rs
  rows-widened [] h = refl
  rows-widened (r ∷ rs) h = ap₂ ◌∷◌ (λ i. record { mark = r.mark; number = r.number; costs = narrow-widened r.costs h.0 i }) (rows-widened rs h.1)

-- ---- what a board of fit rows tells

module _ (b : Board) (h : Each (FitCosts b.dimension) b.moves) where
  abbrev dim : ℕ
  dim = b.dimension

  abbrev Told : Row → Type 0
  Told r = RowCosts b.dimension r.costs

  some_fit : (p : Move → Bool) → Each (FitCosts b.dimension) (select p b.moves)
  some_fit p = each-select p (FitCosts b.dimension) b.moves h

  query-rows-fit : (q : Covered) → Each Told (query_rows b (query_of q))
  unfolding query_of query_rows list_of listed_rows skyline band rank on_k chosen open_moves
  query-rows-fit list = fit-rows dim (λ m. listed) (skyline dim b.moves) (some_fit (λ m. not (hidden dim b.moves m)))
  query-rows-fit (band_query n) = fit-rows dim (λ m. listed) (band dim n b.moves) (some_fit (λ m. leb (dominators dim b.moves m) n))
  query-rows-fit (rank_query t) =
      let rows : List Row = map (λ m. row_of (dominated dim b.moves m) m) (skyline dim b.moves) in
      each_take Told t (sort_by (rank_before dim) rows)
      (each-sort (rank_before dim) Told rows (fit-rows dim (dominated dim b.moves) (skyline dim b.moves) (some_fit (λ m. not (hidden dim b.moves m)))))
  query-rows-fit (on_k_query k) =
      fit-rows dim (λ m. listed) (on_k dim k b.moves) (some_fit (λ m. not (any (λ p. dominates_on dim k p.costs m.costs) b.moves)))
  query-rows-fit (chosen_query set) =
      fit-rows dim (λ m. listed) (chosen (chosen_costs dim set) b.moves)
      (some_fit (λ m. not (any (λ p. dominates_at (chosen_costs dim set) p.costs m.costs) b.moves)))
  query-rows-fit (hours_query t hours) =
      let open-moves = open_moves t hours b.blocks b.moves in
      fit-rows dim (λ m. listed) (skyline dim open-moves)
      (fit-skyline dim open-moves (some_fit (λ m. block_open t hours (b.blocks m.number))))

  missing-fit : (mark : ℕ) (ms : List Move) (ss : List Row) → Each (FitCosts b.dimension) ms → Each Told (missing (map (row_of mark) ms) ss)
  unfolding missing
  missing-fit mark ms ss j = each-select (λ r. not (any (same_row r) ss)) Told (map (row_of mark) ms) (fit-rows dim (λ m. mark) ms j)

  notice-fit : (old new : List Move) → Each (FitCosts b.dimension) old → Each (FitCosts b.dimension) new → Each Told (notice_of old new)
  unfolding notice_of
  notice-fit old new j k =
      each_append Told (missing (map (row_of left) old) (map (row_of left) new)) (missing (map (row_of entered) new) (map (row_of entered) old))
      (missing-fit left old (map (row_of left) new) j)
      (missing-fit entered new (map (row_of entered) old) k)

  change-notice-fit : (x : Change) → FitChange b.dimension x → Each Told (change_notice b x)
  unfolding change_notice list_of changed
  change-notice-fit x f =
      notice-fit (skyline b.dimension b.moves) (skyline b.dimension (changed_moves b.dimension x b.moves))
      (fit-skyline b.dimension b.moves h)
      (fit-skyline b.dimension (changed_moves b.dimension x b.moves) (fit-changed b.dimension x b.moves f h))

  module _ (n : ℕ) (l : b.dimension ≤ n) (m : n ≤ row_costs) where
    -- The lists: those of the board in rows of n costs, with zeros behind.
    pub lists-widened : (q : Covered) → query_rows b (query_of q) ≡ map (row_with (widened n)) (query_rows (board_with (narrow n) b) (query_of q))
    lists-widened q =
        sym (rows-widened b.dimension n l m (query_rows b (query_of q)) (query-rows-fit q))
        ∙ ap (map (row_with (widened n))) (sym (query-rows-with (narrow n) b (narrow_keeps b.dimension n l) q))

    -- The notices likewise.
    pub notices-widened : (x : Change) → FitChange b.dimension x
        → change_notice b x ≡ map (row_with (widened n)) (change_notice (board_with (narrow n) b) (change_with (narrow n) x))
    notices-widened x f =
        sym (rows-widened b.dimension n l m (change_notice b x) (change-notice-fit x f))
        ∙ ap (map (row_with (widened n))) (sym (change-notice-with (narrow n) b (narrow_keeps b.dimension n l) (le_trans l m) h x f))
