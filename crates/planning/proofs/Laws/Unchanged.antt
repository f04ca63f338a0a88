-- A re-cost with equal costs changes nothing: the board, its tree and its list stay, and no row is told.
use Rattle.std.specs.Prelude.{ℕ, Bool, true, ◌≡◌}
use Rattle.std.proofs.Math.Bool.{cond}
use mathlib.Core.List.{List, [], map}
use Rattle.std.proofs.Math.Path.{sym, ap, subst}
use Rattle.std.proofs.Common.{◌∙◌}
use Rattle.model.specs.Basics.{Each, distinct, equal}
use Rattle.model.specs.Moves as model
use Rattle.model.specs.Moves.{insert}
use Rattle.model.specs.Lists.{skyline}
use Rattle.model.specs.Notice.{notice_of}
use Rattle.model.specs.Tree.{Tree, moves_of}
use Rattle.model.specs.Entering.{enter_tree}
use Rattle.model.specs.Withdrawing.{without, withdraw_tree, costs_on, unchanged, recost_tree}
use Rattle.model.specs.Calls as calls
use Rattle.model.specs.Calls.{on_board, list_of, change_notice, changed}
use Rattle.model.specs.Changing.{change_tree}
use Rattle.model.specs.Sound.{Fit}
use Rattle.model.proofs.Laws.Order.{move-order}
use Rattle.model.proofs.Laws.Notice.{notice-none}
use Rattle.model.proofs.Laws.Recosting.{recost-moves}
use Rattle.promises.specs.Layout.{size_in, dimension_in, costs_in, board_in}
use Rattle.promises.specs.Sound.{Stands}
use Rattle.promises.specs.Run.{Bytes}
use Rattle.promises.proofs.Laws.Stands.{stands-dimension, stands-moves, stands-fit, stands-once}
use Rattle.dominance.specs.Move.{as_move}
use Rattle.dominance.specs.declared.Move.{Move}
use Rattle.memory.specs.Held.{SoundRows}
use Rattle.memory.specs.Laws.Written.{only-refl}
use Rattle.planning.specs.Change.{Made}
use Rattle.planning.proofs.Laws.Judge.{board-moves}
use Rattle.planning.proofs.Laws.Places.{costs-board}

module _ {c d n : ℕ} {m : List ℕ} (s : SoundRows c d n m) (b : Bytes m) (x : Move) (fit : Fit c d (as_move x)) (on : on_board x.number (board_in m).moves ≡ true)
    (r : equal x.costs (costs_in c d m x.number) ≡ true) (block : ℕ) where
  abbrev change : calls.Change
  change = calls.recost x.number block x.costs

  module _ (t : Tree) (stands : Stands m t) where
    moves : moves_of t ≡ (board_in m).moves
    moves = stands-moves m t stands

    same-costs : unchanged x.number x.costs (moves_of t) ≡ true
    unfolding unchanged
    same-costs =
        let own = board-moves c d n m s in
        ap (equal x.costs)
        (ap (costs_on x.number) (moves ∙ own) ∙ costs-board c d n m x.number (ap (on_board x.number) (sym own) ∙ on))
        ∙ r

    same-tree : recost_tree (dimension_in m) (as_move x) t ≡ t
    unfolding recost_tree
    same-tree =
        ap (λ (u : Bool). cond u t (enter_tree (dimension_in m) (as_move x) (withdraw_tree (dimension_in m) x.number t))) same-costs

    same-moves : insert (dimension_in m) (as_move x) (without x.number (board_in m).moves) ≡ (board_in m).moves
    same-moves =
        let P = Fit (size_in m) (dimension_in m) in
        let own = subst (λ (k : ℕ). Fit k (dimension_in m) (as_move x)) s.size (subst (λ (k : ℕ). Fit c k (as_move x)) s.dimension fit) in
        ap (λ (ns : List model.Move). insert (dimension_in m) (as_move x) (without x.number ns)) (sym moves)
        ∙ sym
        (recost-moves (dimension_in m) P (move-order (dimension_in m) (size_in m) (stands-dimension m t stands)) (as_move x) own t stands.rules
        (subst (Each P) (sym moves) (stands-fit m t stands b))
        (ap (on_board x.number) moves ∙ on)
        (ap (λ (ns : List model.Move). distinct (map (λ y. y.number) ns)) moves ∙ stands-once m t stands b))
        ∙ ap moves_of same-tree
        ∙ moves

  pub no-notice : change_notice (board_in m) change ≡ []
  unfolding change_notice changed calls.changed_moves list_of board_in
  no-notice =
      ap (λ (ms : List model.Move). notice_of (list_of (board_in m)) (skyline (dimension_in m) ms)) (same-moves s.sound.tree s.sound.stands)
      ∙ notice-none (list_of (board_in m))

  pub same-made : Made change m m
  unfolding change_tree calls.changed_moves board_in
  same-made =
      record {
        kept = λ t stands.
            record {
              stands = subst (Stands m) (sym (same-tree t stands)) stands;
              moves = sym (same-moves t stands);
              only = only-refl m;
            };
      }
