-- Giving a move new costs, step by step on sound memory: what the steps ask, and what all of them leave.
use Rattle.std.specs.Prelude.{ℕ, suc, ◌-◌, ◌≤◌, ◌<◌, false, ◌≡◌, length}
use mathlib.Core.List.{List}
use Rattle.std.proofs.Math.Path.{refl, sym, ap, ap₂}
use Rattle.std.proofs.Common.{◌∙◌, subst, subst₂, arith}
use Rattle.model.specs.Moves as model
use Rattle.model.specs.Moves.{insert}
use Rattle.model.specs.Tree.{Tree, moves_of}
use Rattle.model.specs.Entering.{enter_tree}
use Rattle.model.specs.Withdrawing.{without, withdraw_tree, costs_on, unchanged, recost_tree}
use Rattle.model.specs.Calls as calls
use Rattle.model.specs.Calls.{on_board}
use Rattle.model.specs.Changing.{change_tree}
use Rattle.model.specs.Sound.{Fit}
use Rattle.model.proofs.Laws.Bool.{cond_cases}
use Rattle.model.proofs.Laws.Basics.{equal-true}
use Rattle.model.proofs.Laws.Order.{move-order}
use Rattle.model.proofs.Laws.Entering.{enter-moves}
use Rattle.line.specs.Line.{moves_in}
use Rattle.promises.specs.Layout.{number_in, costs_in, flag_in, line_from}
use Rattle.promises.specs.Sound.{Stands}
use Rattle.promises.specs.Run.{Bytes}
use Rattle.dominance.specs.Move.{as_move}
use Rattle.dominance.specs.declared.Move.{Move}
use Rattle.memory.specs.Held.{SoundRows}
use Rattle.memory.specs.Stores.{set_listed, set_costs, set_count}
use Rattle.memory.specs.Frame.{MovesOnly, FlagsOnly, CostsOnly}
use Rattle.memory.specs.Laws.Written.{only-trans, rows_written, flags-written, costs-written}
use Rattle.memory.specs.Laws.Fields.{flag-over-rows, flag-over-costs}
use Rattle.memory.specs.Laws.Blocks.{on-at}
use Rattle.memory.specs.Laws.Held.{held-few}
use Rattle.tree.specs.Hold.{RowsHold}
use Rattle.tree.specs.Enter as tree
use Rattle.tree.specs.Withdraw as withdraw
use Rattle.upkeep.specs.Change.{drop_at, moves_after}
use Rattle.upkeep.specs.Flag.{SetFlags}
use Rattle.upkeep.specs.Laws.Change.{rest-without}
use Rattle.upkeep.specs.declared.exchange.Upkeep.{Upkeep}
use Rattle.planning.specs.Change.{ToRecost, Moved, RecostMade}
use Rattle.planning.proofs.Laws.Places.{costs-board}
use Rattle.board.specs.Laws.Rows.{holds-sound, holds-moves, holds-over-flags, holds-counted}
use Rattle.board.specs.Laws.Made.{FlagsRight, made}
use Rattle.board.specs.Laws.Flags.{flags-come}
use Rattle.board.specs.Laws.Steps.{listed-frame, stored-frame, stored-holds, stored-asked, gone-written, gone-flag, gone-holds, gone-moves}

costs-there : (c d n p : ℕ) (m : List ℕ) → p < n → costs_on (number_in c m p) (moves_in (line_from c d n m)) ≡ costs_in c d m (number_in c m p)
costs-there c d n p m l = costs-board c d n m (number_in c m p) (on-at c d n m p l)

module _ {c d n p : ℕ} {x : Move} {u : Upkeep} {m m₁ m₂ : List ℕ} (a : ToRecost c d n p x u m) (b : Bytes m)
    (set : SetFlags c n u.changed m m₁)
    (e₂ : m₂ ≡ set_listed c x.number u.listed m₁) where
  abbrev s : SoundRows c d n m
  s = a.asked.sound

  abbrev before : List model.Move
  before = moves_in (line_from c d n m)

  abbrev fit : Fit c d (as_move x)
  fit = a.asked.fit x refl

  flagged : FlagsOnly c m m₂
  flagged = listed-frame x.number u.listed fit.number set.frame e₂

  pub recost-withdraw-asked : withdraw.WithdrawAsked c d n p m₂
  recost-withdraw-asked =
      let t = s.sound.tree in
      record { tree = record { tree = t; holds = holds-over-flags (holds-sound s b t s.sound.stands) flagged }; place = a.place }

  rest : without x.number before ≡ drop_at p before
  rest = ap (λ (k : ℕ). without k before) (sym a.number) ∙ sym (rest-without c d n p m s b a.place)

  -- Its costs are others, so the move does go and come.
  recost-tree : (t : Tree) → Stands m t → enter_tree d (as_move x) (withdraw_tree d (number_in c m p) t) ≡ recost_tree d (as_move x) t
  unfolding recost_tree unchanged
  recost-tree t stands =
      cond_cases (λ (r : Tree). enter_tree d (as_move x) (withdraw_tree d (number_in c m p) t) ≡ r) (unchanged x.number x.costs (moves_of t))
      (λ e.
      absurd
      (a.other
      (sym (costs-there c d n p m a.place)
      ∙ ap₂ costs_on a.number (holds-moves (holds-sound s b t stands))
      ∙ sym (equal-true x.costs (costs_on x.number (moves_of t)) e))))
      (λ _. ap (λ (k : ℕ). enter_tree d (as_move x) (withdraw_tree d k t)) a.number)

  pub recost-written : {m₃ : List ℕ} → withdraw.Withdrawn c d n p m₂ m₃ → MovesOnly c m m₃
  recost-written w = only-trans (flags-written c flagged) (gone-written w)

  module _ {m₃ m₄ : List ℕ} (w : withdraw.Withdrawn c d n p m₂ m₃) (e₄ : m₄ ≡ set_costs c x.number x.costs m₃) where
    gone : (t : Tree) → Stands m t → RowsHold c d (n - 1) m₃ (withdraw_tree d (number_in c m p) t)
    gone = gone-holds w s b a.place flagged

    off : (t : Tree) → Stands m t → on_board x.number (moves_of (withdraw_tree d (number_in c m p) t)) ≡ false
    off t stands = ap (on_board x.number) (gone-moves w s b a.place flagged t stands) ∙ a.asked.new x refl

    pub recost-enter-asked : tree.EnterAsked c d (n - 1) (as_move x) m₄
    recost-enter-asked =
        let t = s.sound.tree in
        let stands = s.sound.stands in
        stored-asked (gone t stands) fit (off t stands) e₄ (omega (arith, a.place, held-few c d n m s))

    module _ {m₅ m₆ : List ℕ} (entered : tree.Entered c d (n - 1) (as_move x) m₄ m₅) (e₆ : m₆ ≡ set_count n m₅) (t : Tree) (stands : Stands m t) where
      costs : CostsOnly c m₃ m₄
      costs = stored-frame (gone t stands) fit (off t stands) e₄

      moves : moves_of (enter_tree d (as_move x) (withdraw_tree d (number_in c m p) t)) ≡ insert d (as_move x) (drop_at p before)
      moves =
          let h = gone t stands in
          enter-moves d (Fit c d) (move-order d c h.readable.dimension) (as_move x) fit (withdraw_tree d (number_in c m p) t) h.rules h.fits
          ∙ ap (insert d (as_move x)) (gone-moves w s b a.place flagged t stands)

      held : RowsHold c d n m₅ (recost_tree d (as_move x) t)
      held =
          let all : suc (n - 1) ≡ n = omega (arith, a.place) in
          subst₂ (λ (k : ℕ) (r : Tree). RowsHold c d k m₅ r) all (recost-tree t stands)
          (entered.holds (withdraw_tree d (number_in c m p) t) (stored-holds (gone t stands) fit (off t stands) e₄))

      recost-kept : (block : ℕ) → Moved (calls.recost x.number block x.costs) m m₆ t
      unfolding change_tree calls.changed_moves moves_after
      recost-kept block =
          made s (calls.recost x.number block x.costs) t
          (only-trans (recost-written w) (only-trans (costs-written c costs) (rows_written c entered.frame)))
          held
          (ap moves_of (sym (recost-tree t stands)) ∙ moves ∙ ap (insert d (as_move x)) (sym rest))
          (subst (FlagsRight c d m₅) (ap (insert d (as_move x)) (sym rest))
          (flags-come a.asked a.upkept set m₅ x refl
          (λ v l.
          flag-over-rows c entered.frame v
          ∙ flag-over-costs c costs v l
          ∙ gone-flag w v l
          ∙ ap (λ (w : List ℕ). flag_in c w v) e₂)))
          e₆

    pub recost-count-asked : {m₅ : List ℕ} → tree.Entered c d (n - 1) (as_move x) m₄ m₅ → (16 ≤ length m₅) × (n < 65536)
    recost-count-asked entered = holds-counted (held entered refl s.sound.tree s.sound.stands)

    pub recost-made : {m₅ m₆ : List ℕ} → tree.Entered c d (n - 1) (as_move x) m₄ m₅ → m₆ ≡ set_count n m₅ → RecostMade (as_move x) m m₆
    recost-made entered e₆ block = record { kept = λ t stands. recost-kept entered e₆ t stands block }
