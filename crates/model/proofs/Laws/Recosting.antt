-- Re-costing: the move of that number stands with its new costs, in its place, and the tree keeps the rules.
use Rattle.std.specs.Prelude.{ℕ, Bool, true, false, cond, not, ◌||◌, ◌≡◌, refl, eqb}
use Rattle.std.proofs.Common.{sym, ap, ◌∙◌, subst, eqb-true}
use mathlib.Core.List.{List, [], ◌∷◌, map, Memᴰ, Permᴰ}
use Rattle.model.specs.Basics.{Each, cons_if, select, any, has, distinct, equal}
use Rattle.model.specs.Moves.{Move, move_before, insert, ordered}
use Rattle.model.specs.Tree.{Tree, moves_of, ruled}
use Rattle.model.specs.Entering.{enter_tree}
use Rattle.model.specs.Withdrawing.{without, withdraw_tree, costs_on, unchanged, recost_tree}
use Rattle.model.specs.Calls.{on_board}
use Rattle.model.proofs.Laws.Bool.{cond_cases, both_ways, not_back, and_left, and_right}
use Rattle.model.proofs.Laws.Basics.{equal-true}
use Rattle.model.proofs.Laws.Sorting.{StrictOrder, each-insert}
use Rattle.model.proofs.Laws.Order.{move-path, has-numbers}
use Rattle.model.proofs.Laws.Permuted.{perm-equal, perm-insert, sorted_ext, sorted_insert, sorted-sublist, rising-sorted, each-sublist}
use Rattle.model.proofs.Laws.Tree.{ruled-ordered}
use Rattle.model.proofs.Laws.Entering.{enter-moves, enter-ruled}
use Rattle.model.proofs.Laws.Withdrawing.{without-off, without_gone, without-sublist, withdraw-moves, withdraw-ruled}

-- ---- equal costs

others-off : (m : Move) (ms : List Move) → distinct (map (λ k. k.number) (m ∷ ms)) ≡ true → on_board m.number ms ≡ false
unfolding distinct
others-off m ms h =
    let ns = map (λ k. k.number) ms in
    sym (has-numbers m.number ms) ∙ not_back (has m.number ns) (and_left (not (has m.number ns)) (distinct ns) h)

-- the moves are x, which has the costs of its number, and those of other numbers
unchanged-perm : (x : Move) (ms : List Move) → on_board x.number ms ≡ true → distinct (map (λ k. k.number) ms) ≡ true
    → unchanged x.number x.costs ms ≡ true → Permᴰ (x ∷ without x.number ms) ms
unfolding on_board any unchanged costs_on without select distinct
unchanged-perm x [] b h u = both_ways b refl
unchanged-perm x (m ∷ ms) b h u =
    step (eqb m.number x.number) refl b u
    (λ c v. unchanged-perm x ms c (and_right (not (has m.number (map (λ k. k.number) ms))) (distinct (map (λ k. k.number) ms)) h) v)
  where
    step : (t : Bool) → eqb m.number x.number ≡ t → (t || on_board x.number ms) ≡ true
        → equal x.costs (cond t m.costs (costs_on x.number ms)) ≡ true
        → (on_board x.number ms ≡ true → unchanged x.number x.costs ms ≡ true → Permᴰ (x ∷ without x.number ms) ms)
        → Permᴰ (x ∷ cons_if (not t) m (without x.number ms)) (m ∷ ms)
    step true e c v again =
        let n = eqb-true m.number x.number e in
        Permᴰ.cons (move-path x m (sym n, equal-true x.costs m.costs v))
        (perm-equal (without-off x.number ms (ap (λ (k : ℕ). on_board k ms) (sym n) ∙ others-off m ms h)))
    step false e c v again = Permᴰ.trans (Permᴰ.swap refl refl) (Permᴰ.cons refl (again c v))

-- Withdrawn and entered again with the costs that it has, a move stands where it stood.
module _ (d : ℕ) (P : Move → Type 0) (o : StrictOrder P (move_before d)) (x : Move) (p : P x) (ms : List Move) (r : ordered d ms ≡ true) (q : Each P ms)
    (b : on_board x.number ms ≡ true) (h : distinct (map (λ m. m.number) ms) ≡ true) where
  pub recost-same : unchanged x.number x.costs ms ≡ true → insert d x (without x.number ms) ≡ ms
  unfolding insert ordered
  recost-same u =
      let lt = move_before d in
      let others = without x.number ms in
      let others-each = each-sublist P (without-sublist x.number ms) q in
      let s = rising-sorted lt P o ms q r in
      sorted_ext lt P o (Permᴰ.trans (perm-insert lt x others) (unchanged-perm x ms b h u))
      (each-insert lt P x others p others-each)
      (sorted_insert lt P o x others p others-each (sorted-sublist lt (without-sublist x.number ms) s))
      s

-- ---- the tree after a re-cost

module _ (d : ℕ) (P : Move → Type 0) (o : StrictOrder P (move_before d)) (x : Move) (p : P x) (t : Tree) (r : ruled d t ≡ true)
    (q : Each P (moves_of t)) where
  abbrev others : List Move
  others = without x.number (moves_of t)

  others-each : Each P others
  others-each = each-sublist P (without-sublist x.number (moves_of t)) q

  -- ---- other costs: withdrawn, then entered

  abbrev left : Tree
  left = withdraw_tree d x.number t

  left-moves : moves_of left ≡ others
  left-moves = withdraw-moves d P o x.number t r q

  left-each : Each P (moves_of left)
  left-each = subst (Each P) (sym left-moves) others-each

  again-moves : moves_of (enter_tree d x left) ≡ insert d x others
  again-moves = enter-moves d P o x p left (withdraw-ruled d P o x.number t r q) left-each ∙ ap (insert d x) left-moves

  again-ruled : ruled d (enter_tree d x left) ≡ true
  again-ruled =
      enter-ruled d P o x p left (withdraw-ruled d P o x.number t r q) left-each
      (λ m. without_gone x (moves_of t) (subst (Memᴰ x) left-moves m))

  -- ---- either way

  module _ (b : on_board x.number (moves_of t) ≡ true) (h : distinct (map (λ m. m.number) (moves_of t)) ≡ true) where
    same-moves : unchanged x.number x.costs (moves_of t) ≡ true → moves_of t ≡ insert d x others
    same-moves u = sym (recost-same d P o x p (moves_of t) (ruled-ordered d t r) q b h u)

    pub recost-moves : moves_of (recost_tree d x t) ≡ insert d x (without x.number (moves_of t))
    unfolding recost_tree
    recost-moves =
        cond_cases (λ (u : Tree). moves_of u ≡ insert d x others) (unchanged x.number x.costs (moves_of t)) same-moves (λ e. again-moves)

  pub recost-ruled : ruled d (recost_tree d x t) ≡ true
  unfolding recost_tree
  recost-ruled = cond_cases (λ (u : Tree). ruled d u ≡ true) (unchanged x.number x.costs (moves_of t)) (λ e. r) (λ e. again-ruled)
