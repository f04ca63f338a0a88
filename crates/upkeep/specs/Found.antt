-- Moves found by number.
use Rattle.std.specs.Prelude.{ℕ, ◌+◌, ◌<◌, Bool, ◌≡◌, List}
use Rattle.model.specs.Basics.{select, count, numbers_from}
use Rattle.model.specs.Moves.{Move}
use Rattle.line.specs.Line.{moves_in}
use Rattle.promises.specs.Layout.{number_in, costs_in, line_from}
use Rattle.memory.specs.declared.head.Head.{Head}
use Rattle.numbers.specs.Set.{in_set}
use Rattle.upkeep.specs.Change.{Passing}
use Rattle.upkeep.specs.declared.found.Found.{Found}

-- Of the first n moves, those whose number passes a test.
pub record FindsRows (c n : ℕ) (test : ℕ → Bool) (m : List ℕ) (r : Found) : Type 0 where
  pub numbers : (i : ℕ) → i < n → in_set r.numbers (number_in c m i) ≡ test (number_in c m i)
  pub counts : r.count ≡ count (λ i. test (number_in c m i)) (numbers_from 0 n)

abbrev pub Finds : Head → (ℕ → Bool) → List ℕ → Found → Type 0
Finds h = FindsRows h.size h.count

-- Of the moves of a line those whose number passes a test.
abbrev pub found_moves : ℕ → ℕ → ℕ → (ℕ → Bool) → List ℕ → List Move
found_moves c d n test m = select (λ x. test x.number) (moves_in (line_from c d n m))

-- The move of a number, and the moves found by a test of moves.
abbrev pub move_of : ℕ → ℕ → List ℕ → ℕ → Move
move_of c d m k = record { number = k; costs = costs_in c d m k }

abbrev pub FindsMoves : Head → (Move → Bool) → List ℕ → Found → Type 0
FindsMoves h test m = Finds h (λ k. test (move_of h.size h.dimension m k)) m

-- The number of the move at place i was added to a set, or not; and how many were.
abbrev pub Adds : Head → List ℕ → ℕ → Bool → List ℕ → List ℕ → ℕ → Type 0
Adds h m i found ws = Passing h.size m (λ _. found) ws i (i + 1)
