-- "moves dominated by b or fewer", by places in Z-order.
use Rattle.std.specs.Prelude.{ℕ, Bool, List, leb}
use Rattle.model.specs.Moves.{Move}
use Rattle.model.specs.Dominance.{dominates}
use Rattle.model.specs.Lists.{dominators}
use Rattle.promises.specs.Layout.{move_in}
use Rattle.memory.specs.Held.{moves_held}
use Rattle.memory.specs.declared.head.Head.{Head}
use Rattle.search.specs.Columns.{count_to}

-- Whether b or fewer of some moves dominate a move (Definition 3).
abbrev pub in_band : ℕ → ℕ → List Move → Move → Bool
in_band d b ms x = leb (dominators d ms x) b

-- The same for the moves of a board.
abbrev pub band_of : Head → ℕ → List ℕ → Move → Bool
band_of h b m x = in_band h.dimension b (moves_held h m) x

-- Whether the move at place j dominates that at place i; and how many of the places below n have one that does.
abbrev pub dominates_place : ℕ → ℕ → List ℕ → ℕ → ℕ → Bool
dominates_place c d m i j = dominates d (move_in c d m j).costs (move_in c d m i).costs

abbrev pub dominators_to : ℕ → ℕ → List ℕ → ℕ → ℕ → ℕ
dominators_to c d m i n = count_to (dominates_place c d m i) n

-- b or fewer of the moves before place i dominate the one there.
abbrev pub few_before : Head → ℕ → List ℕ → ℕ → Bool
few_before h b m i = leb (dominators_to h.size h.dimension m i i) b
