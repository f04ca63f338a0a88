-- Computed examples of the tree's rules, the notice, previews and the hours, beside document 01's own cases (d = 2), and of eight costs.
use Rattle.std.specs.Prelude.{ℕ, zero, suc, ◌+◌, ◌-◌, ◌*◌, ◌^◌, true, false, cond, ◌≡◌, refl, length, get_or, set, replicate}
use mathlib.Core.List.{List, [], ◌∷◌, ◌++◌, map, flat_map}
use Rattle.zorder.specs.Address.{row_costs, address, padded}
use Rattle.zorder.specs.Words.{words_of}
use Rattle.zorder.specs.Between.{before, side_of, far_of}
use Rattle.model.specs.Basics.{numbers_from, has}
use Rattle.model.specs.Moves.{Move, in_z_order}
use Rattle.model.specs.Dominance.{dominates}
use Rattle.model.specs.Tree.{Entry, Tree, empty, rooted}
use Rattle.model.specs.Loading.{load_tree}
use Rattle.model.specs.Entering.{enter_tree}
use Rattle.model.specs.Withdrawing.{enter_all, withdraw_tree, recost_tree}
use Rattle.model.specs.Nodes.{nodes_opened}
use Rattle.model.specs.Lists.{skyline, band, rank, listed_rows}
use Rattle.model.specs.Hours.{Window, Hours, open_in, no_hours}
use Rattle.model.specs.Calls.{Board, accepted, loaded, enter, withdraw, recost, changed_moves, changed, changes_nothing, list_of, change_notice, chosen_query, hours_query, query_refusal, query_rows}
use Rattle.model.specs.Holder.{Call, change, preview, Event, is_accepted, plain_next, marked, put_in, take_out, followed, held_after}
use Rattle.model.specs.Computing.{computing}
use Rattle.model.specs.Cases.{pair, move, numbers, marks, notices}

-- ---- how trees are written and shown

-- A tree by its nodes: how many entries each holds, a parent before its children.
shape_from : (h : ℕ) → List (Entry h) → List ℕ
shape_from zero ms = length ms ∷ []
shape_from (suc h) es = length es ∷ flat_map (shape_from h) es

shape : Tree → List ℕ
shape empty = []
shape (rooted h es) = shape_from h es

-- n moves from p on, move p with the costs p and 0. Numbers and Z-order agree, and a region is an aligned run of 1, 2, 4,
-- 8, .. of the first cost.
row : ℕ → ℕ → List Move
row p n = map (λ q. move q q 0) (numbers_from p n)

-- An entry h levels up with three entries in each node, from move p on.
threes : (h : ℕ) → ℕ → Entry h
threes zero p = move p p 0
threes (suc h) p = threes h p ∷ threes h (p + 3 ^ h) ∷ threes h (p + 2 * 3 ^ h) ∷ []

showing : Unit {0}
unfolding computing pair move numbers marks notices shape_from shape row threes
showing = tt

-- ---- loading

-- Eight form one leaf; of 9, 10 and 11 the last group takes until it has 3.
loads : map (λ n. shape (load_tree 2 (row 0 n))) (8 ∷ 9 ∷ 10 ∷ 11 ∷ [])
    ≡ (8 ∷ []) ∷ (2 ∷ 6 ∷ 3 ∷ []) ∷ (2 ∷ 7 ∷ 3 ∷ []) ∷ (2 ∷ 8 ∷ 3 ∷ []) ∷ []
unfolding showing
loads = refl

-- ---- entering

-- Nine moves entered, k near 0 and the others near 8: the ninth splits the leaf between the two, where the sides are least.
splits : map (λ k. shape (enter_all 2 (row 0 k ++ row 8 (9 - k)) empty)) (3 ∷ 4 ∷ 5 ∷ 6 ∷ [])
    ≡ (2 ∷ 3 ∷ 6 ∷ []) ∷ (2 ∷ 4 ∷ 5 ∷ []) ∷ (2 ∷ 5 ∷ 4 ∷ []) ∷ (2 ∷ 6 ∷ 3 ∷ []) ∷ []
unfolding showing
splits = refl

-- Nine with equal costs, so that the sums are equal: the least left part.
split-tie : shape (enter_all 2 (map (λ n. move n 5 5) (numbers_from 0 9)) empty) ≡ 2 ∷ 3 ∷ 6 ∷ []
unfolding showing
split-tie = refl

-- Two leaves, far enough apart that the region of a move and its farther leaf has the side 8.
leaves : Tree
leaves = rooted 1 ((move 0 0 0 ∷ move 1 0 1 ∷ move 2 1 0 ∷ []) ∷ (move 3 4 1 ∷ move 4 5 0 ∷ move 5 5 1 ∷ []) ∷ [])

-- A move in the gap between them: nearer the earlier leaf, nearer the later, and on a tie (8 and 8) the earlier.
gaps : map (λ x. shape (enter_tree 2 x leaves)) (move 6 1 1 ∷ move 6 4 0 ∷ move 6 0 4 ∷ [])
    ≡ (2 ∷ 4 ∷ 3 ∷ []) ∷ (2 ∷ 3 ∷ 4 ∷ []) ∷ (2 ∷ 4 ∷ 3 ∷ []) ∷ []
unfolding showing leaves
gaps = refl

-- The near corner of the root and of the earlier leaf is move 0's costs, which nothing dominates: both are opened, the later
-- leaf is not.
opened : nodes_opened 2 leaves ≡ 2
unfolding showing leaves
opened = refl

-- ---- withdrawing

-- A leaf of 3 loses a move and is removed; the two others go into the leaf before it.
leaf-removed : shape (withdraw_tree 2 4 (rooted 1 (threes 2 0))) ≡ 2 ∷ 5 ∷ 3 ∷ []
unfolding showing
leaf-removed = refl

-- With the leaf goes its parent, left with 2 leaves: of three upper nodes two stay, and the eight other moves of the third go
-- into one more leaf of the second.
node-removed : shape (withdraw_tree 2 22 (rooted 2 (threes 3 0)))
    ≡ 2 ∷ (3 ∷ 3 ∷ 3 ∷ 3 ∷ []) ++ (4 ∷ 3 ∷ 3 ∷ 3 ∷ 8 ∷ [])
unfolding showing
node-removed = refl

-- A root left with one leaf gives way to it, and so does one left with one upper node.
roots-gone : map (λ t. shape (withdraw_tree 2 0 t)) (rooted 1 (threes 1 0 ∷ threes 1 3 ∷ []) ∷ rooted 2 (threes 2 0 ∷ threes 2 9 ∷ []) ∷ [])
    ≡ (5 ∷ []) ∷ (4 ∷ 7 ∷ 4 ∷ 3 ∷ 3 ∷ []) ∷ []
unfolding showing
roots-gone = refl

-- ---- re-costing

-- Equal costs change nothing: withdrawn and entered again, the move would have made one leaf of the two.
equal-costs : recost_tree 2 (move 0 0 0) leaves ≡ leaves
unfolding showing leaves
equal-costs = refl

-- ---- the notice

-- Move 0 hides 1 and 2, and 1 hides 2.
chain : Board
chain = record { size = 16; dimension = 2; moves = in_z_order 2 (move 0 1 1 ∷ move 1 2 2 ∷ move 2 3 3 ∷ []); blocks = λ n. 0 }

-- Its withdrawal brings up 1 only. A re-cost of 0 with equal costs tells nothing; one to (2,3), which 1 hides, brings up 1.
chain-notices : map (λ c. notices chain (c ∷ [])) (withdraw 0 ∷ recost 0 0 (pair 1 1) ∷ recost 0 0 (pair 2 3) ∷ [])
    ≡ ((1 ∷ 0 ∷ 2 ∷ 1 ∷ []) ∷ []) ∷ ([] ∷ []) ∷ ((1 ∷ 0 ∷ 2 ∷ 1 ∷ []) ∷ []) ∷ []
unfolding showing chain
chain-notices = refl

-- ---- previews

-- The withdrawal of 0 made or only looked at, with the same rows told.
seen : Call → Event
seen c = record { call = c; lent = 2; answer = accepted; rows = change_notice chain (withdraw 0) }

-- The moves on the plain board, then the rows of one who held the list: 1 and 2, and 1 listed; after the preview all three, and 0
-- listed.
preview-passed : map (λ c. numbers (plain_next chain c 2).moves ++ marks (held_after 2 (listed_rows (list_of chain)) (seen c) c)) (change (withdraw 0) ∷ preview (withdraw 0) ∷ [])
    ≡ (1 ∷ 2 ∷ 0 ∷ 1 ∷ []) ∷ (0 ∷ 1 ∷ 2 ∷ 0 ∷ 0 ∷ []) ∷ []
unfolding showing chain seen is_accepted plain_next marked put_in take_out followed held_after
preview-passed = refl

-- ---- twins

-- Moves 1, 3 and 5 have equal costs; each dominates 7.
twins : Board
twins = record { size = 16; dimension = 2; moves = in_z_order 2 (move 5 2 2 ∷ move 7 3 3 ∷ move 1 2 2 ∷ move 3 2 2 ∷ []); blocks = λ n. 0 }

-- The list has the lowest number, band 0 all three.
twin-lists : map numbers (skyline 2 twins.moves ∷ band 2 0 twins.moves ∷ []) ≡ (1 ∷ []) ∷ (1 ∷ 3 ∷ 5 ∷ []) ∷ []
unfolding showing twins
twin-lists = refl

-- Withdrawn one after another, each brings up the next, and the last brings up 7.
twins-withdrawn : notices twins (withdraw 1 ∷ withdraw 3 ∷ withdraw 5 ∷ [])
    ≡ (1 ∷ 1 ∷ 2 ∷ 3 ∷ []) ∷ (1 ∷ 3 ∷ 2 ∷ 5 ∷ []) ∷ (1 ∷ 5 ∷ 2 ∷ 7 ∷ []) ∷ []
unfolding showing twins
twins-withdrawn = refl

-- A hidden twin goes, or one of a higher number than the listed one comes: nothing is told. One of a lower number comes: it
-- takes the listed one's place. The listed one gets other costs: the next comes up.
twin-notices : map (λ c. notices twins (c ∷ [])) (withdraw 3 ∷ enter 2 0 (pair 2 2) ∷ enter 0 0 (pair 2 2) ∷ recost 1 0 (pair 2 3) ∷ [])
    ≡ ([] ∷ []) ∷ ([] ∷ []) ∷ ((1 ∷ 1 ∷ 2 ∷ 0 ∷ []) ∷ []) ∷ ((1 ∷ 1 ∷ 2 ∷ 3 ∷ []) ∷ []) ∷ []
unfolding showing twins
twin-notices = refl

-- ---- the other lists

-- Move 1 is dominated, and yet no move is less than it on the first cost: chosen costs are held against all moves, and told of
-- all moves.
tied : Board
tied = record { size = 16; dimension = 2; moves = in_z_order 2 (move 0 1 1 ∷ move 1 1 2 ∷ []); blocks = λ n. 0 }

chosen-of-all : marks (query_rows tied (chosen_query 1)) ≡ 0 ∷ 0 ∷ 0 ∷ 1 ∷ []
unfolding showing tied
chosen-of-all = refl

-- Neither dominates a move; (0,3) stands before (3,0) in Z-order, whatever their numbers.
rank-tie : marks (rank 2 2 (in_z_order 2 (move 0 3 0 ∷ move 1 0 3 ∷ []))) ≡ 0 ∷ 1 ∷ 0 ∷ 0 ∷ []
unfolding showing
rank-tie = refl

-- ---- hours

-- Moves 0 and 2 have equal costs and dominate 1; each lies in a block of its own.
yard : Board
yard =
    loaded 16 2
    (record { number = 0; block = 5; costs = pair 1 1 }
    ∷ record { number = 1; block = 6; costs = pair 2 2 }
    ∷ record { number = 2; block = 7; costs = pair 1 1 }
    ∷ [])

window : ℕ → ℕ → Window
window start end = record { start = start; end = end }

-- One window; what stands in the other slots is not looked at.
once : ℕ → ℕ → Hours
once start end = record { count = 1; windows = window start end ∷ replicate 3 (window 7 7) }

-- Eight entries, those of the given blocks open from 100 to 199.
open_only : List ℕ → List Hours
open_only ks = map (λ k. cond (has k ks) (once 100 200) no_hours) (numbers_from 0 8)

-- A move in a shut block hides none, neither as a dominator nor as a lower twin.
hours-lists : map (λ ks. marks (query_rows yard (hours_query 100 (open_only ks))))
    ((5 ∷ []) ∷ (6 ∷ []) ∷ (7 ∷ []) ∷ (5 ∷ 6 ∷ []) ∷ (5 ∷ 7 ∷ []) ∷ (6 ∷ 7 ∷ []) ∷ [] ∷ [])
    ≡ (0 ∷ 0 ∷ []) ∷ (0 ∷ 1 ∷ []) ∷ (0 ∷ 2 ∷ []) ∷ (0 ∷ 0 ∷ []) ∷ (0 ∷ 0 ∷ []) ∷ (0 ∷ 2 ∷ []) ∷ [] ∷ []
unfolding showing yard window once open_only
hours-lists = refl

-- A window over the week's end: the start is in it, the end is not.
over-week : map (λ t. open_in t (window 10000 50)) (0 ∷ 49 ∷ 50 ∷ 9999 ∷ 10000 ∷ 10079 ∷ [])
    ≡ true ∷ true ∷ false ∷ false ∷ true ∷ true ∷ []
unfolding showing window
over-week = refl

-- The refusal of entries for blocks 0 to 9, the last bad: blocks 3 and 9 hold no move.
refused : ℕ → Hours → List ℕ
refused t h =
    let a = query_refusal yard (hours_query t (set (set (replicate 10 no_hours) 9 (once 5 5)) 3 h)) in
    a.number ∷ a.detail ∷ []

-- 7 goes before 12, which names the lowest bad block: at 3 a start above 10,079, an end above it, a start equal to its end, a
-- fifth window, and nothing bad.
hours-refused : refused 10080 (once 5 5) ∷ map (refused 10079)
    (once 10080 0 ∷ once 0 10080 ∷ once 5 5 ∷ record { count = 5; windows = replicate 4 (window 0 1) } ∷ once 10079 0 ∷ [])
    ≡ (7 ∷ 0 ∷ []) ∷ (12 ∷ 3 ∷ []) ∷ (12 ∷ 3 ∷ []) ∷ (12 ∷ 3 ∷ []) ∷ (12 ∷ 3 ∷ []) ∷ (12 ∷ 9 ∷ []) ∷ []
unfolding showing yard window once refused
hours-refused = refl

-- A re-cost changes nothing if costs and block are both equal ..
block-changes : map (changes_nothing yard) (recost 0 5 (pair 1 1) ∷ recost 0 9 (pair 1 1) ∷ recost 0 5 (pair 1 2) ∷ []) ≡ true ∷ false ∷ false ∷ []
unfolding showing yard
block-changes = refl

-- .. and with equal costs and another block it changes the block only: no move, and no row is told.
block-given : map (changed yard (recost 0 9 (pair 1 1))).blocks (numbers_from 0 4) ≡ 9 ∷ 6 ∷ 7 ∷ 0 ∷ []
unfolding showing yard
block-given = refl

block-moves : changed_moves 2 (recost 0 9 (pair 1 1)) yard.moves ≡ yard.moves
unfolding showing yard
block-moves = refl

block-untold : notices yard (recost 0 9 (pair 1 1) ∷ []) ≡ [] ∷ []
unfolding showing yard
block-untold = refl

-- ---- eight costs

-- A row with one cost, at place i, that is not zero.
only : ℕ → ℕ → List ℕ
only i c = set (replicate row_costs 0) i c

words : ℕ → List ℕ → List ℕ
words d p = let a = words_of (address d p) in a.upper ∷ a.lower ∷ []

-- The highest bit of the first cost is the address's highest, the lowest bit of the last its lowest; bit 8 begins the upper word.
-- Five costs have 80 bits.
eight-words : map (words 8) (only 0 32768 ∷ only 7 1 ∷ only 0 256 ∷ only 7 256 ∷ only 0 128 ∷ []) ++ words 5 (padded 5 (replicate 5 65535)) ∷ []
    ≡ (9223372036854775808 ∷ 0 ∷ [])
    ∷ (0 ∷ 1 ∷ [])
    ∷ (128 ∷ 0 ∷ [])
    ∷ (1 ∷ 0 ∷ [])
    ∷ (0 ∷ 9223372036854775808 ∷ [])
    ∷ (65535 ∷ 18446744073709551615 ∷ [])
    ∷ []
unfolding showing only words
eight-words = refl

-- Order, dominance and region by the last of eight costs, and by costs whose bits stand in both words.
eight-order : map (λ p. before 8 p (only 7 256)) (only 7 255 ∷ only 0 255 ∷ only 7 256 ∷ only 6 256 ∷ []) ≡ true ∷ true ∷ false ∷ false ∷ []
unfolding showing only
eight-order = refl

eight-dominates : map (λ d. dominates d (only 7 1) (only 7 2)) (7 ∷ 8 ∷ []) ≡ false ∷ true ∷ []
unfolding showing only
eight-dominates = refl

eight-region : map (λ p. side_of 8 p (only 7 256)) (only 7 256 ∷ only 7 255 ∷ only 0 32768 ∷ []) ++ get_or (far_of 8 (only 7 255) (only 7 256)) 3 0 ∷ []
    ≡ 1 ∷ 512 ∷ 65536 ∷ 511 ∷ []
unfolding showing only
eight-region = refl
