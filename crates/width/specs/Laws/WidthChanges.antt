-- Costs past the first d do not matter to changes (Card 13): answers, notices, boards and trees of loads and changes are the
-- same with other costs past d in the rows.
use Rattle.std.specs.Prelude.{ℕ, suc, ◌≤◌, Bool, true, false, ◌&&◌, ◌≡◌, leb, take}
use Rattle.std.proofs.Math.Bool.{cond, not}
use mathlib.Core.List.{List, [], ◌∷◌, ◌++◌, map, map-map, map-append, Memᴰ}
use Rattle.std.proofs.Math.Path.{refl, sym, ap, ap₂}
use Rattle.std.proofs.Common.{◌∙◌, subst}
use borrow.Author.Tests.{not-false}
use Rattle.std.proofs.Math.Dec.{eqb}
use Rattle.std.proofs.Math.ListN.{length, length-map}
use Rattle.zorder.specs.Address.{row_costs, padded}
use Rattle.zorder.specs.Between.{RowCosts}
use Rattle.zorder.specs.Refusal.{refusal, cost_past_bad}
use Rattle.zorder.proofs.Laws.Between.{row-padded}
use Rattle.zorder.proofs.Laws.Refusal.{first_passes, rest-passes}
use Rattle.model.specs.Basics.{Each, any, has, equal}
use Rattle.model.specs.Moves.{Move, InputRow, Row, move_of, row_of, same_row, left, entered, move_before, insert, in_z_order}
use Rattle.model.specs.Lists.{skyline}
use Rattle.model.specs.Tree.{Tree, moves_of}
use Rattle.model.specs.Loading.{load_tree}
use Rattle.model.specs.Entering.{enter_tree}
use Rattle.model.specs.Withdrawing.{without, withdraw_tree, costs_on, unchanged, recost_tree}
use Rattle.model.specs.Notice.{missing, notice_of}
use Rattle.model.specs.Changing.{change_tree}
use Rattle.model.specs.Calls.{Answer, refused_with, or_else, rows_answer, Board, block_bad, row_refusal, rows_refusal, load_answer, give_block, row_blocks, loaded, Change, enter, withdraw, recost, on_board, change_refusal, changed_moves, changed_blocks, changed, list_of, change_notice, change_answer}
use Rattle.model.proofs.Laws.Bool.{same_test, cond_map}
use Rattle.model.proofs.Laws.Basics.{each-mem, mem-each, each_map, each-select, any-map, any-ext, select-map, select-ext, equal-refl, equal-true}
use Rattle.model.proofs.Laws.Sorting.{map-insert, each-insert}
use Rattle.model.proofs.Laws.Order.{costs-on-fit}
use Rattle.width.specs.Width.{move_with, input_with, row_with, board_with, change_with, tree_with}
use Rattle.width.specs.Laws.Width.{KeepsFirst, move-before-with, skyline-with, rows-with}
use Rattle.width.specs.Laws.WidthTree.{sorted-with, load-with, enter-with, without-with, costs-on-with, on-board-with, withdraw-with, moves-of-with}

-- The costs of a row, "costs past d are zero".
abbrev pub FitCosts : ℕ → Move → Type 0
FitCosts d m = RowCosts d m.costs

abbrev pub FitChange : ℕ → Change → Type 0
FitChange d (enter n block costs) = RowCosts d costs
FitChange d (withdraw n) = Unit {0}
FitChange d (recost n block costs) = RowCosts d costs

-- Rows of moves, marked in whatever way.
pub fit-rows : (d : ℕ) (mark : Move → ℕ) (ms : List Move) → Each (FitCosts d) ms → Each (λ r. RowCosts d r.costs) (map (λ m. row_of (mark m) m) ms)
unfolding row_of
fit-rows d mark ms h = each_map (λ r. RowCosts d r.costs) (λ m. row_of (mark m) m) ms h

pub fit-skyline : (d : ℕ) (ms : List Move) → Each (FitCosts d) ms → Each (FitCosts d) (skyline d ms)
unfolding skyline
fit-skyline d ms h = each-select _ (FitCosts d) ms h

pub fit-changed : (d : ℕ) (x : Change) (ms : List Move) → FitChange d x → Each (FitCosts d) ms → Each (FitCosts d) (changed_moves d x ms)
unfolding changed_moves insert without
fit-changed d (enter n block costs) ms f h = each-insert (move_before d) (FitCosts d) (record { number = n; costs = costs }) ms f h
fit-changed d (withdraw n) ms f h = each-select _ (FitCosts d) ms h
fit-changed d (recost n block costs) ms f h = each-insert (move_before d) (FitCosts d) (record { number = n; costs = costs }) (without n ms) f (each-select _ (FitCosts d) ms h)

module _ (d : ℕ) (g : List ℕ → List ℕ) (G : KeepsFirst d g) (l : d ≤ row_costs) where
  -- Rows are equal where their first d costs are.
  equal-with : (p q : List ℕ) → RowCosts d p → RowCosts d q → equal (g p) (g q) ≡ equal p q
  equal-with p q h k =
      same_test (equal (g p) (g q)) (equal p q)
      (λ e. subst (λ (cs : List ℕ). equal p cs ≡ true) (whole (equal-true (g p) (g q) e)) (equal-refl p))
      (λ e. subst (λ (cs : List ℕ). equal (g p) (g cs) ≡ true) (equal-true p q e) (equal-refl (g p)))
    where
      whole : g p ≡ g q → p ≡ q
      whole e =
          sym (row-padded d p l h)
          ∙ ap (padded d) (sym (G.first p) ∙ ap (take d) e ∙ G.first q)
          ∙ row-padded d q l k

  -- ---- notices

  missing-with : (rs ss : List Row) → Each (λ r. RowCosts d r.costs) rs → Each (λ r. RowCosts d r.costs) ss
      → missing (map (row_with g) rs) (map (row_with g) ss) ≡ map (row_with g) (missing rs ss)
  unfolding missing same_row
  missing-with rs ss h k =
      select-map _ (row_with g) rs
      ∙ ap (map (row_with g)) (select-ext _ (λ r. not (any (same_row r) ss)) rs (mem-each _ rs (λ r m. ap not (row r m))))
    where
      row : (r : Row) → Memᴰ r rs → any (same_row (row_with g r)) (map (row_with g) ss) ≡ any (same_row r) ss
      row r m =
          any-map (same_row (row_with g r)) (row_with g) ss
          ∙ any-ext (λ s. same_row (row_with g r) (row_with g s)) (same_row r) ss
          (mem-each _ ss (λ s n. ap (λ (b : Bool). eqb r.number s.number && b)
          (equal-with r.costs s.costs (each-mem (λ r. RowCosts d r.costs) h m) (each-mem (λ r. RowCosts d r.costs) k n))))

  notice-with : (old new : List Move) → Each (FitCosts d) old → Each (FitCosts d) new
      → notice_of (map (move_with g) old) (map (move_with g) new) ≡ map (row_with g) (notice_of old new)
  unfolding notice_of
  notice-with old new h k =
      ap₂ ◌++◌ (part left old new h k) (part entered new old k h)
      ∙ sym (map-append (row_with g) (missing (map (row_of left) old) (map (row_of left) new)) (missing (map (row_of entered) new) (map (row_of entered) old)))
    where
      part : (mark : ℕ) (ms ns : List Move) → Each (FitCosts d) ms → Each (FitCosts d) ns
          → missing (map (row_of mark) (map (move_with g) ms)) (map (row_of mark) (map (move_with g) ns)) ≡ map (row_with g) (missing (map (row_of mark) ms) (map (row_of mark) ns))
      part mark ms ns h k =
          ap₂ missing (rows-with g mark ms) (rows-with g mark ns)
          ∙ missing-with (map (row_of mark) ms) (map (row_of mark) ns) (fit-rows d (λ m. mark) ms h) (fit-rows d (λ m. mark) ns k)

  -- ---- boards and trees

  pub changed-with : (x : Change) (ms : List Move) → changed_moves d (change_with g x) (map (move_with g) ms) ≡ map (move_with g) (changed_moves d x ms)
  unfolding changed_moves change_with insert
  changed-with (enter n block costs) ms = sym (map-insert (move_with g) (move_before d) (move_before d) (λ m n. sym (move-before-with d g G m n)) (record { number = n; costs = costs }) ms)
  changed-with (withdraw n) ms = without-with d g G n ms
  changed-with (recost n block costs) ms =
      ap (insert d (record { number = n; costs = g costs })) (without-with d g G n ms)
      ∙ sym (map-insert (move_with g) (move_before d) (move_before d) (λ m n. sym (move-before-with d g G m n)) (record { number = n; costs = costs }) (without n ms))

  -- A re-cost of a move that is on the board changes nothing in the same cases.
  unchanged-with : (n : ℕ) (costs : List ℕ) (ms : List Move) → RowCosts d costs → Each (FitCosts d) ms → on_board n ms ≡ true
      → unchanged n (g costs) (map (move_with g) ms) ≡ unchanged n costs ms
  unfolding unchanged
  unchanged-with n costs ms f h e =
      ap (equal (g costs)) (costs-on-with d g G n ms) ∙ equal-with costs (costs_on n ms) f (costs-on-fit d n ms h e)

  recost-with : (n : ℕ) (costs : List ℕ) (t : Tree) → RowCosts d costs → Each (FitCosts d) (moves_of t) → on_board n (moves_of t) ≡ true
      → recost_tree d (record { number = n; costs = g costs }) (tree_with g t) ≡ tree_with g (recost_tree d (record { number = n; costs = costs }) t)
  unfolding recost_tree
  recost-with n costs t f h e =
      (λ i. cond (same i) (tree_with g t) (other i))
      ∙ sym (cond_map (tree_with g) (unchanged n costs (moves_of t)) t (enter_tree d (record { number = n; costs = costs }) (withdraw_tree d n t)))
    where
      same : unchanged n (g costs) (moves_of (tree_with g t)) ≡ unchanged n costs (moves_of t)
      same = ap (unchanged n (g costs)) (moves-of-with d g G t) ∙ unchanged-with n costs (moves_of t) f h e

      other : enter_tree d (record { number = n; costs = g costs }) (withdraw_tree d n (tree_with g t)) ≡ tree_with g (enter_tree d (record { number = n; costs = costs }) (withdraw_tree d n t))
      other =
          ap (enter_tree d (record { number = n; costs = g costs })) (withdraw-with d g G n t)
          ∙ enter-with d g G (record { number = n; costs = costs }) (withdraw_tree d n t)

-- A board whose rows are fit, and a change whose costs are.
module _ (g : List ℕ → List ℕ) (b : Board) (G : KeepsFirst b.dimension g) (l : b.dimension ≤ row_costs) (h : Each (FitCosts b.dimension) b.moves) where
  abbrev dim : ℕ
  dim = b.dimension

  past-with : (costs : List ℕ) → RowCosts dim costs → cost_past_bad dim (g costs) ≡ cost_past_bad dim costs
  past-with costs f = G.past costs f.past ∙ sym f.past

  change-refusal-with : (x : Change) → FitChange dim x → change_refusal (board_with g b) (change_with g x) ≡ change_refusal b x
  unfolding change_refusal change_with
  change-refusal-with (enter n block costs) f = λ i. refusal ((leb b.size n, 4) ∷ (block_bad block, 11) ∷ (past-with costs f i, 7) ∷ (on-board-with dim g G n b.moves i, 5) ∷ [])
  change-refusal-with (withdraw n) f = λ i. refusal ((leb b.size n, 4) ∷ (not (on-board-with dim g G n b.moves i), 6) ∷ [])
  change-refusal-with (recost n block costs) f = λ i. refusal ((leb b.size n, 4) ∷ (block_bad block, 11) ∷ (past-with costs f i, 7) ∷ (not (on-board-with dim g G n b.moves i), 6) ∷ [])

  change-blocks-with : (x : Change) → changed_blocks (change_with g x) ≡ changed_blocks x
  unfolding change_with changed_blocks
  change-blocks-with (enter n block costs) = refl
  change-blocks-with (withdraw n) = refl
  change-blocks-with (recost n block costs) = refl

  module _ (x : Change) (f : FitChange dim x) where
    pub changed-board-with : changed (board_with g b) (change_with g x) ≡ board_with g (changed b x)
    unfolding changed
    changed-board-with = λ i. record { size = b.size; dimension = dim; moves = changed-with dim g G l x b.moves i; blocks = change-blocks-with x i b.blocks }

    -- Notices: the same rows, with the costs that g gives.
    pub change-notice-with : change_notice (board_with g b) (change_with g x) ≡ map (row_with g) (change_notice b x)
    unfolding change_notice list_of changed
    change-notice-with =
        ap₂ notice_of (skyline-with dim g G b.moves)
        (ap (skyline dim) (changed-with dim g G l x b.moves) ∙ skyline-with dim g G (changed_moves dim x b.moves))
        ∙ notice-with dim g G l (skyline dim b.moves) (skyline dim (changed_moves dim x b.moves))
        (fit-skyline dim b.moves h)
        (fit-skyline dim (changed_moves dim x b.moves) (fit-changed dim x b.moves f h))

    pub change-answer-with : (lent : ℕ) → change_answer (board_with g b) (change_with g x) lent ≡ change_answer b x lent
    unfolding change_answer
    change-answer-with lent =
        ap₂ (λ (n need : ℕ). or_else (refused_with n) (rows_answer need lent)) (change-refusal-with x f)
        (ap length change-notice-with ∙ length-map (change_notice b x) (row_with g))

  recost-on : (n block : ℕ) (costs : List ℕ) → change_refusal b (recost n block costs) ≡ 0 → on_board n b.moves ≡ true
  unfolding change_refusal
  recost-on n block costs a =
      not-false (on_board n b.moves) (first_passes (not (on_board n b.moves)) 5 _ (rest-passes (cost_past_bad dim costs) 6 _ (rest-passes (block_bad block) 10 _ (rest-passes (leb b.size n) 3 _ a))))

  -- Trees of changes that are accepted.
  pub change-tree-with : (x : Change) (t : Tree) → FitChange dim x → moves_of t ≡ b.moves → change_refusal b x ≡ 0
      → change_tree dim (change_with g x) (tree_with g t) ≡ tree_with g (change_tree dim x t)
  unfolding change_tree change_with
  change-tree-with (enter n block costs) t f e a = enter-with dim g G (record { number = n; costs = costs }) t
  change-tree-with (withdraw n) t f e a = withdraw-with dim g G n t
  change-tree-with (recost n block costs) t f e a = recost-with dim g G l n costs t f (subst (Each (FitCosts dim)) (sym e) h) (subst (λ (ms : List Move). on_board n ms ≡ true) (sym e) (recost-on n block costs a))

-- ---- loads

module _ (c d : ℕ) (g : List ℕ → List ℕ) (G : KeepsFirst d g) where
  abbrev Past : InputRow → Type 0
  Past r = cost_past_bad d r.costs ≡ false

  row-refusal-with : (earlier : List ℕ) (r : InputRow) → Past r → row_refusal c d earlier (input_with g r) ≡ row_refusal c d earlier r
  unfolding row_refusal
  row-refusal-with earlier r h =
      ap (λ (b : Bool). refusal ((leb c r.number, 4) ∷ (block_bad r.block, 11) ∷ (b, 7) ∷ (has r.number earlier, 5) ∷ [])) (G.past r.costs h ∙ sym h)

  rows-refusal-with : (place : ℕ) (earlier : List ℕ) (rs : List InputRow) → Each Past rs → rows_refusal c d place earlier (map (input_with g) rs) ≡ rows_refusal c d place earlier rs
  unfolding rows_refusal
  rows-refusal-with place earlier [] h = refl
  rows-refusal-with place earlier (r ∷ rs) h =
      ap₂ (λ (n : ℕ) (a : Answer). cond (eqb n 0) a (record { number = n; detail = place }))
      (row-refusal-with earlier r h.0)
      (rows-refusal-with (suc place) (r.number ∷ earlier) rs h.1)

  blocks-with : (rs : List InputRow) → row_blocks (map (input_with g) rs) ≡ row_blocks rs
  unfolding row_blocks
  blocks-with [] = refl
  blocks-with (r ∷ rs) = ap (give_block r.number r.block) (blocks-with rs)

  module _ (rs : List InputRow) where
    pub load-answer-with : (bytes : ℕ) → Each Past rs → load_answer bytes c d (map (input_with g) rs) ≡ load_answer bytes c d rs
    unfolding load_answer
    load-answer-with bytes h = ap (or_else _) (rows-refusal-with 0 [] rs h)

    moves-in-with : map move_of (map (input_with g) rs) ≡ map (move_with g) (map move_of rs)
    unfolding move_of
    moves-in-with = map-map move_of (input_with g) rs ∙ sym (map-map (move_with g) move_of rs)

    pub loaded-with : loaded c d (map (input_with g) rs) ≡ board_with g (loaded c d rs)
    unfolding loaded
    loaded-with =
        λ i. record { size = c; dimension = d; moves = (ap (in_z_order d) moves-in-with ∙ sorted-with d g G (map move_of rs)) i; blocks = blocks-with rs i }

    pub load-tree-with : load_tree d (map move_of (map (input_with g) rs)) ≡ tree_with g (load_tree d (map move_of rs))
    load-tree-with = ap (load_tree d) moves-in-with ∙ load-with d g G (map move_of rs)
