-- Entering a move, step by step on sound memory: what the steps ask, and what all of them leave.
use Rattle.std.specs.Prelude.{ℕ, ◌+◌, ◌≤◌, ◌<◌, false, ◌≡◌, length}
use mathlib.Core.List.{List}
use Rattle.std.proofs.Math.Path.{refl, ap}
use Rattle.std.proofs.Common.{sym, ◌∙◌, subst, add-one, arith}
use Rattle.model.specs.Moves.{insert}
use Rattle.model.specs.Tree.{Tree, moves_of}
use Rattle.model.specs.Calls as calls
use Rattle.model.specs.Calls.{on_board}
use Rattle.model.specs.Changing.{change_tree}
use Rattle.model.specs.Sound.{Fit}
use Rattle.model.proofs.Laws.Order.{move-order}
use Rattle.model.proofs.Laws.Entering.{enter-moves}
use Rattle.promises.specs.Layout.{flag_in}
use Rattle.promises.specs.Sound.{Stands}
use Rattle.promises.specs.Run.{Bytes}
use Rattle.dominance.specs.Move.{as_move}
use Rattle.dominance.specs.declared.Move.{Move}
use Rattle.memory.specs.Held.{SoundRows}
use Rattle.memory.specs.Stores.{set_listed, set_costs, set_count}
use Rattle.memory.specs.Frame.{FlagsOnly, CostsOnly}
use Rattle.memory.specs.Laws.Written.{only-trans, rows_written, flags-written, costs-written}
use Rattle.memory.specs.Laws.Fields.{flag-over-rows, flag-over-costs}
use Rattle.tree.specs.Hold.{RowsHold}
use Rattle.tree.specs.Enter as tree
use Rattle.upkeep.specs.Change.{moves_after}
use Rattle.upkeep.specs.Flag.{SetFlags}
use Rattle.upkeep.specs.declared.exchange.Upkeep.{Upkeep}
use Rattle.planning.specs.Change.{ToEnter, Moved, EnterMade}
use Rattle.board.specs.Laws.Rows.{holds-sound, holds-moves, holds-over-flags, holds-counted}
use Rattle.board.specs.Laws.Made.{FlagsRight, made}
use Rattle.planning.proofs.Laws.Places.{entering-moves}
use Rattle.board.specs.Laws.Flags.{flags-come}
use Rattle.board.specs.Laws.Steps.{listed-frame, stored-frame, stored-holds, stored-asked}

module _ {c d n : ℕ} {x : Move} {u : Upkeep} {m m₁ m₂ m₃ : List ℕ} (a : ToEnter c d n x u m) (b : Bytes m)
    (set : SetFlags c n u.changed m m₁)
    (e₂ : m₂ ≡ set_listed c x.number u.listed m₁)
    (e₃ : m₃ ≡ set_costs c x.number x.costs m₂) where
  abbrev s : SoundRows c d n m
  s = a.asked.sound

  flagged : FlagsOnly c m m₂
  flagged = listed-frame x.number u.listed (a.asked.fit x refl).number set.frame e₂

  module _ (t : Tree) (stands : Stands m t) where
    flagged-holds : RowsHold c d n m₂ t
    flagged-holds = holds-over-flags (holds-sound s b t stands) flagged

    off : on_board x.number (moves_of t) ≡ false
    off = ap (on_board x.number) (sym (holds-moves (holds-sound s b t stands)) ∙ sym (entering-moves c d n m)) ∙ a.asked.new x refl

  pub enter-line-asked : tree.EnterAsked c d n (as_move x) m₃
  enter-line-asked =
      let t = s.sound.tree in
      let stands = s.sound.stands in
      stored-asked (flagged-holds t stands) (a.asked.fit x refl) (off t stands) e₃ a.space

  pub enter-count-asked : {m₄ : List ℕ} → tree.Entered c d n (as_move x) m₃ m₄ → (16 ≤ length m₄) × (n + 1 < 65536)
  enter-count-asked entered =
      let t = s.sound.tree in
      let stands = s.sound.stands in
      let k = holds-counted (entered.holds t (stored-holds (flagged-holds t stands) (a.asked.fit x refl) (off t stands) e₃)) in
      omega arith

  module _ {m₄ m₅ : List ℕ} (entered : tree.Entered c d n (as_move x) m₃ m₄) (e₅ : m₅ ≡ set_count (n + 1) m₄) (t : Tree) (stands : Stands m t) where
    costs : CostsOnly c m₂ m₃
    costs = stored-frame (flagged-holds t stands) (a.asked.fit x refl) (off t stands) e₃

    enter-kept : (block : ℕ) → Moved (calls.enter x.number block x.costs) m m₅ t
    unfolding change_tree calls.changed_moves moves_after
    enter-kept block =
        let h = holds-sound s b t stands in
        made s (calls.enter x.number block x.costs) t
        (only-trans (flags-written c flagged) (only-trans (costs-written c costs) (rows_written c entered.frame)))
        (entered.holds t (stored-holds (flagged-holds t stands) (a.asked.fit x refl) (off t stands) e₃))
        (enter-moves d (Fit c d) (move-order d c h.readable.dimension) (as_move x) (a.asked.fit x refl) t h.rules h.fits ∙ ap (insert d (as_move x)) (sym (holds-moves h)))
        (subst (FlagsRight c d m₄) (ap (insert d (as_move x)) (entering-moves c d n m))
        (flags-come a.asked a.upkept set m₄ x refl
        (λ v l. flag-over-rows c entered.frame v ∙ flag-over-costs c costs v l ∙ ap (λ (w : List ℕ). flag_in c w v) e₂)))
        (e₅ ∙ ap (λ (k : ℕ). set_count k m₄) (add-one n))

  pub enter-made : {m₄ m₅ : List ℕ} → tree.Entered c d n (as_move x) m₃ m₄ → m₅ ≡ set_count (n + 1) m₄ → EnterMade (as_move x) m m₅
  enter-made entered e₅ block = record { kept = λ t stands. enter-kept entered e₅ t stands block }
