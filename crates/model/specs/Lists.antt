-- The lists: Definitions 2, 3, 4, 6 and 8 of Z-SKY over the moves of a board, which stand in Z-order.
-- A move is held against every move: it neither hides nor dominates itself, so "other" needs no word of its own.
use Rattle.std.specs.Prelude.{ℕ, ◌%◌, ◌/◌, ◌^◌, Bool, not, ◌&&◌, ◌||◌, List, map, ltb, leb, eqb, take}
use Rattle.model.specs.Basics.{select, any, count, sort_by, numbers_from}
use Rattle.model.specs.Moves.{Move, Row, row_of, listed, row_before}
use Rattle.model.specs.Dominance.{dominates, dominates_at, dominates_on, hides}

-- The list: the moves that no move hides. "Where the demands and document 01 speak of Definition 2, and in demand 2 for the
-- list and what rank picks from, this rule is now meant" (Card 4).
unfoldable pub hidden : ℕ → List Move → Move → Bool
hidden d ms m = any (λ p. hides d p m) ms

unfoldable pub skyline : ℕ → List Move → List Move
skyline d ms = select (λ m. not (hidden d ms m)) ms

-- Definition 3: "moves dominated by b or fewer".
unfoldable pub dominators : ℕ → List Move → Move → ℕ
dominators d ms m = count (λ p. dominates d p.costs m.costs) ms

unfoldable pub band : ℕ → ℕ → List Move → List Move
band d b ms = select (λ m. leb (dominators d ms m) b) ms

-- Definition 4 with document 01's tie: "of the listed moves the first t by number of moves dominated, most first, ties in
-- Z-order, fewer if the list is shorter; each row carries that number".
unfoldable pub dominated : ℕ → List Move → Move → ℕ
dominated d ms m = count (λ q. dominates d m.costs q.costs) ms

unfoldable pub rank_before : ℕ → Row → Row → Bool
rank_before d r s = ltb s.mark r.mark || (eqb r.mark s.mark && row_before d r s)

unfoldable pub rank : ℕ → ℕ → List Move → List Row
rank d t ms = take t (sort_by (rank_before d) (map (λ m. row_of (dominated d ms m) m) (skyline d ms)))

-- Definition 6: the moves that no move dominates on k of the costs.
unfoldable pub on_k : ℕ → ℕ → List Move → List Move
on_k d k ms = select (λ m. not (any (λ p. dominates_on d k p.costs m.costs) ms)) ms

-- Definition 8: the moves that no move dominates on the chosen costs.
unfoldable pub chosen : List ℕ → List Move → List Move
chosen s ms = select (λ m. not (any (λ p. dominates_at s p.costs m.costs) ms)) ms

-- A set of the first d costs, given as a number: bit i stands for cost i.
unfoldable pub chosen_costs : ℕ → ℕ → List ℕ
chosen_costs d set = select (λ i. eqb (set / 2 ^ i % 2) 1) (numbers_from 0 d)

-- The rows that list, band, on k and chosen costs tell.
unfoldable pub listed_rows : List Move → List Row
listed_rows = map (row_of listed)
