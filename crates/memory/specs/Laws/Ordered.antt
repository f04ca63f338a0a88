-- Moves in Z-order, by any two places: what the tests and the definitions say of neighbours.
use Rattle.std.specs.Prelude.{ℕ, zero, suc, ◌-◌, ◌≤◌, ◌<◌, true, List, ◌≡◌}
use Rattle.std.proofs.Common.{⊎_elim, sym, ◌∙◌, subst, eq-or-lt_of_le, le_of_suc-le-suc, arith}
use Rattle.std.proofs.Math.Path.{ap}
use Rattle.std.proofs.Math.Decide.{dec_lt}
use Rattle.model.specs.Moves.{move_before, ordered}
use Rattle.model.proofs.Laws.Bool.{both_ways}
use Rattle.model.proofs.Laws.Order.{before-trans, before-irrefl}
use Rattle.line.specs.Line.{moves_in}
use Rattle.promises.specs.Layout.{move_in, line_from}
use Rattle.memory.specs.Room.{Ordered}
use Rattle.memory.specs.Tests.{order_right}
use Rattle.memory.specs.Laws.Lines.{moves_in-line}
use Rattle.memory.specs.Laws.Places.{all_to-at, rising-tab}

module _ (c d n : ℕ) (m : List ℕ) where
  pub order-right : ordered d (moves_in (line_from c d n m)) ≡ order_right c d n m
  unfolding ordered order_right
  order-right = ap (ordered d) (moves_in-line c d n m) ∙ rising-tab (move_in c d m) (move_before d) n

  -- From neighbours to any two places.
  further : ((i : ℕ) → suc i < n → move_before d (move_in c d m i) (move_in c d m (suc i)) ≡ true)
      → (i j : ℕ) → i < j → j < n → move_before d (move_in c d m i) (move_in c d m j) ≡ true
  further next i zero l k = absurd (omega arith)
  further next i (suc j) l k =
      ⊎_elim (λ e. subst (λ (z : ℕ). move_before d (move_in c d m z) (move_in c d m (suc j)) ≡ true) (sym e) (next j k))
      (λ b. before-trans d (move_in c d m i) (move_in c d m j) (move_in c d m (suc j)) (further next i j b (omega arith)) (next j k))
      (eq-or-lt_of_le (le_of_suc-le-suc l))

  pub right-ordered : order_right c d n m ≡ true → Ordered c d n m
  unfolding order_right
  right-ordered r = further (λ i l. all_to-at (λ j. move_before d (move_in c d m j) (move_in c d m (suc j))) (n - 1) i (omega arith) r)

  pub line-ordered : ordered d (moves_in (line_from c d n m)) ≡ true → Ordered c d n m
  line-ordered r = right-ordered (sym order-right ∙ r)

-- A move that stands before that at place i has a lesser place.
pub ordered-place : (c d n : ℕ) (m : List ℕ) → Ordered c d n m → (i j : ℕ) → j < n → move_before d (move_in c d m j) (move_in c d m i) ≡ true → j < i
ordered-place c d n m o i j l b = go (dec_lt j i)
  where
    later : i ≤ j → ⊥
    later h =
        ⊎_elim (λ e. both_ways (subst (λ (z : ℕ). move_before d (move_in c d m j) (move_in c d m z) ≡ true) e b) (before-irrefl d (move_in c d m j)))
        (λ k. both_ways (before-trans d (move_in c d m i) (move_in c d m j) (move_in c d m i) (o i j k l) b) (before-irrefl d (move_in c d m i)))
        (eq-or-lt_of_le h)

    go : Dec (j < i) → j < i
    go (yes h) = h
    go (no h) = absurd (later (omega arith))
