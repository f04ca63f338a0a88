-- The moves of a board and their costs, by places and by number.
use Rattle.std.specs.Prelude.{ℕ, suc, Bool, true, false, cond, ◌||◌, List, [], ◌∷◌, ◌++◌, ◌≡◌, refl, eqb, length}
use Rattle.std.proofs.Common.{append-nil, sym, ap, ap₂, ◌∙◌, subst, arith, eqb-true, drop_of_length-le, take_all}
use Rattle.std.proofs.lemmas.List.{length-map}
use Rattle.model.specs.Basics.{Each, any}
use Rattle.model.specs.Moves.{Move}
use Rattle.model.specs.Withdrawing.{costs_on}
use Rattle.model.specs.Calls.{on_board}
use Rattle.model.proofs.Laws.Bool.{both_ways}
use Rattle.line.specs.Line.{moves_in}
use Rattle.promises.specs.Layout.{costs_in, move_in, line_from}
use Rattle.promises.proofs.Laws.Tab.{each-tab}
use Rattle.memory.specs.Laws.Lines.{moves_in-line, length-line}
use Rattle.upkeep.specs.Change.{drop_at}

-- The costs of a number on the board, where costs go by number.
costs-on : (f : ℕ → List ℕ) (k : ℕ) (ms : List Move) → Each (λ x. x.costs ≡ f x.number) ms → on_board k ms ≡ true → costs_on k ms ≡ f k
unfolding costs_on on_board any
costs-on f k [] es on = both_ways on refl
costs-on f k (y ∷ ys) es on = step (eqb y.number k) refl on (costs-on f k ys es.1)
  where
    step : (t : Bool) → eqb y.number k ≡ t → (t || on_board k ys) ≡ true → (on_board k ys ≡ true → costs_on k ys ≡ f k) → cond t y.costs (costs_on k ys) ≡ f k
    step true e o again = es.0 ∙ ap f (eqb-true y.number k e)
    step false e o again = again o

pub costs-board : (c d n : ℕ) (m : List ℕ) (k : ℕ) → on_board k (moves_in (line_from c d n m)) ≡ true → costs_on k (moves_in (line_from c d n m)) ≡ costs_in c d m k
unfolding move_in
costs-board c d n m k =
    costs-on (costs_in c d m) k (moves_in (line_from c d n m))
    (subst (Each (λ x. x.costs ≡ costs_in c d m x.number)) (sym (moves_in-line c d n m))
    (each-tab (move_in c d m) (λ x. x.costs ≡ costs_in c d m x.number) n (λ _ _. refl)))

-- No move goes.
pub drop_at-past : (i : ℕ) (ms : List Move) → length ms ≡ i → drop_at i ms ≡ ms
unfolding drop_at
drop_at-past i ms e =
    ap₂ (λ (xs ys : List Move). xs ++ ys) (take_all i ms (omega arith)) (drop_of_length-le ms {i = suc i} (omega arith)) ∙ append-nil ms

pub entering-moves : (c d n : ℕ) (m : List ℕ) → drop_at n (moves_in (line_from c d n m)) ≡ moves_in (line_from c d n m)
unfolding moves_in
entering-moves c d n m =
    drop_at-past n (moves_in (line_from c d n m)) (length-map (line_from c d n m) (λ r. r.move) ∙ length-line c d n m)
