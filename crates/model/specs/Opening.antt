-- The nodes that a call reports as opened.
use Rattle.std.specs.Prelude.{ℕ, Bool, cond, ◌&&◌, ◌||◌, List}
use Rattle.model.specs.Basics.{count}
use Rattle.model.specs.Moves.{Move}
use Rattle.model.specs.Dominance.{dominates, equal_costs}
use Rattle.model.specs.Lists.{skyline}
use Rattle.model.specs.Tree.{Tree, moves_of}
use Rattle.model.specs.Nodes.{Node, nodes_of, far_corner_of, opens, nodes_opened}
use Rattle.model.specs.Withdrawing.{without, costs_on}
use Rattle.model.specs.Calls.{on_board, Change, enter, withdraw, recost, Query, list, band_query, rank_query, on_k_query, chosen_query, hours_query}

-- "List also reports the nodes opened." No other list reports any.
unfoldable pub query_opens : ℕ → Query → Tree → ℕ
query_opens d list t = nodes_opened d t
query_opens d (band_query b) t = 0
query_opens d (rank_query k) t = 0
query_opens d (on_k_query k) t = 0
query_opens d (chosen_query set) t = 0
query_opens d (hours_query minute hours) t = 0

-- Withdrawing the listed move x of number n (Card 1): "exactly the nodes whose far corner x dominates and whose near corner no
-- other listed move dominates"; "a node also counts if its far corner equals x" (Card 4).
unfoldable pub opens_for : ℕ → List Move → ℕ → Node → Bool
opens_for d ms n z =
    let x = costs_on n ms in
    (dominates d x (far_corner_of d z) || equal_costs d x (far_corner_of d z)) && opens d (without n ms) z

-- "counted on the tree before the withdrawal: zero if the move x was not listed, else" these.
unfoldable pub withdraw_opens : ℕ → ℕ → Tree → ℕ
withdraw_opens d n t =
    let ms = skyline d (moves_of t) in
    cond (on_board n ms) (count (opens_for d ms n) (nodes_of t)) 0

-- "Withdraw shall report the nodes it opened": no other change reports any.
unfoldable pub change_opens : ℕ → Change → Tree → ℕ
change_opens d (enter n block costs) t = 0
change_opens d (withdraw n) t = withdraw_opens d n t
change_opens d (recost n block costs) t = 0
