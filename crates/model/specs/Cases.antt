-- Document 01's worked board (d = 2) and its cases A to K, A by the two words of Card 13, D, G and J as Card 4 has them, and
-- the nodes that withdrawals open (Card 1): one table, checked by one theorem.
use Rattle.std.specs.Prelude.{ℕ, ◌≡◌, refl}
use mathlib.Core.List.{List, [], ◌∷◌, ◌++◌, map, flat_map}
use Rattle.zorder.specs.Address.{address, padded}
use Rattle.zorder.specs.Words.{words_of}
use Rattle.zorder.specs.Between.{near_of, far_of}
use Rattle.model.specs.Moves.{Move, Row, in_z_order}
use Rattle.model.specs.Lists.{skyline, band, rank, on_k, chosen}
use Rattle.model.specs.Tree.{Tree, rooted}
use Rattle.model.specs.Loading.{load_tree}
use Rattle.model.specs.Changing.{change_tree}
use Rattle.model.specs.Opening.{change_opens}
use Rattle.model.specs.Computing.{computing}
use Rattle.model.specs.Calls.{Board, Change, withdraw, changed, change_notice}

-- Two costs as a row holds them.
unfoldable pub pair : ℕ → ℕ → List ℕ
pair p q = padded 2 (p ∷ q ∷ [])

unfoldable pub move : ℕ → ℕ → ℕ → Move
move n p q = record { number = n; costs = pair p q }

unfoldable pub moves : List Move
moves = move 0 1 6 ∷ move 1 3 7 ∷ move 2 2 2 ∷ move 3 5 1 ∷ move 4 6 2 ∷ move 5 2 2 ∷ []

unfoldable pub worked : Board
worked = record { size = 16; dimension = 2; moves = in_z_order 2 moves; blocks = λ n. 0 }

-- A region by its corners, each as its first two costs.
unfoldable pub corners : List ℕ → List ℕ → List ℕ
corners p q = lib.ListN.take 2 (near_of 2 p q) ++ lib.ListN.take 2 (far_of 2 p q)

unfoldable pub numbers : List Move → List ℕ
numbers ms = map (λ m. m.number) ms

-- Each row by its mark and its number.
unfoldable pub marks : List Row → List ℕ
marks rs = flat_map (λ r. r.mark ∷ r.number ∷ []) rs

-- The notices of changes made one after another.
unfoldable pub notices : Board → List Change → List (List ℕ)
notices b [] = []
notices b (c ∷ cs) = marks (change_notice b c) ∷ notices (changed b c) cs

-- The nodes that changes open, one after another.
unfoldable pub opened : Tree → List Change → List ℕ
opened t [] = []
opened t (c ∷ cs) = change_opens 2 c t ∷ opened (change_tree 2 c t) cs

-- Two leaves. Move 0 hides all others, of which 10 dominates the later leaf's near corner: it opens all three nodes when it
-- goes. Then 13 opens the root and its leaf, which are no nodes after it. 6, hidden, opens none.
unfoldable pub two_leaves : Tree
two_leaves =
    rooted 1
    ((move 0 11 6 ∷ move 6 13 7 ∷ move 10 14 6 ∷ move 11 14 6 ∷ move 13 12 10 ∷ [])
    ∷ (move 3 16 17 ∷ move 15 16 19 ∷ move 7 20 19 ∷ [])
    ∷ [])

unfoldable pub results : List (List ℕ)
results =
    map (λ m. (words_of (address 2 m.costs)).upper) moves
    ∷ map (λ m. (words_of (address 2 m.costs)).lower) moves
    ∷ corners (2 ∷ 2 ∷ []) (1 ∷ 6 ∷ [])
    ∷ corners (5 ∷ 1 ∷ []) (6 ∷ 2 ∷ [])
    ∷ numbers (skyline 2 worked.moves)
    ∷ numbers (band 2 2 worked.moves)
    ∷ numbers (band 2 3 worked.moves)
    ∷ marks (rank 2 3 worked.moves)
    ∷ numbers (on_k 2 1 worked.moves)
    ∷ numbers (chosen (0 ∷ []) worked.moves)
    ∷ opened (load_tree 2 moves) (withdraw 2 ∷ withdraw 5 ∷ withdraw 3 ∷ withdraw 0 ∷ withdraw 1 ∷ withdraw 4 ∷ [])
    ∷ opened (load_tree 2 moves) (withdraw 4 ∷ [])
    ∷ opened two_leaves (withdraw 6 ∷ withdraw 0 ∷ withdraw 13 ∷ [])
    ∷ notices worked (withdraw 2 ∷ withdraw 5 ∷ withdraw 3 ∷ [])

unfoldable pub expected : List (List ℕ)
expected =
    (0 ∷ 0 ∷ 0 ∷ 0 ∷ 0 ∷ 0 ∷ [])
    ∷ (22 ∷ 31 ∷ 12 ∷ 35 ∷ 44 ∷ 12 ∷ [])
    ∷ (0 ∷ 0 ∷ 7 ∷ 7 ∷ [])
    ∷ (4 ∷ 0 ∷ 7 ∷ 3 ∷ [])
    ∷ (2 ∷ 0 ∷ 3 ∷ [])
    ∷ (2 ∷ 5 ∷ 0 ∷ 3 ∷ [])
    ∷ (2 ∷ 5 ∷ 0 ∷ 1 ∷ 3 ∷ 4 ∷ [])
    ∷ (2 ∷ 2 ∷ 1 ∷ 0 ∷ 1 ∷ 3 ∷ [])
    ∷ []
    ∷ (0 ∷ [])
    ∷ (1 ∷ 1 ∷ 1 ∷ 1 ∷ 1 ∷ 1 ∷ [])
    ∷ (0 ∷ [])
    ∷ (0 ∷ 3 ∷ 2 ∷ [])
    ∷ (1 ∷ 2 ∷ 2 ∷ 5 ∷ [])
    ∷ (1 ∷ 5 ∷ [])
    ∷ (1 ∷ 3 ∷ 2 ∷ 4 ∷ [])
    ∷ []

pub cases : results ≡ expected
unfolding computing results expected moves pair move worked corners numbers marks notices opened two_leaves
cases = refl
