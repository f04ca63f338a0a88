-- Steps that the changes share: what each asks of the rows, and what it leaves.
use Rattle.std.specs.Prelude.{ℕ, ◌-◌, ◌≤◌, ◌<◌, Bool, false, List, ◌≡◌, Some, length}
use Rattle.std.proofs.Common.{sym, ap, ◌∙◌, subst, arith}
use Rattle.zorder.specs.Address.{row_costs}
use Rattle.model.specs.Moves as model
use Rattle.model.specs.Tree.{Tree, moves_of}
use Rattle.model.specs.Withdrawing.{without, withdraw_tree}
use Rattle.model.specs.Calls.{on_board}
use Rattle.model.specs.Sound.{Fit}
use Rattle.model.proofs.Laws.Order.{move-order}
use Rattle.model.proofs.Laws.Withdrawing.{withdraw-moves}
use Rattle.line.specs.Line.{moves_in}
use Rattle.promises.specs.Layout.{number_in, costs_in, flag_in, line_from}
use Rattle.promises.specs.Sound.{Stands}
use Rattle.promises.specs.Run.{Bytes}
use Rattle.dominance.specs.declared.Move.{Move}
use Rattle.memory.specs.Room.{Room}
use Rattle.memory.specs.Held.{SoundRows}
use Rattle.memory.specs.Stores.{set_listed, set_costs}
use Rattle.memory.specs.Frame.{MovesOnly, FlagsOnly, CostsOnly}
use Rattle.memory.specs.Laws.Frames.{frame-trans}
use Rattle.memory.specs.Laws.Written.{only-trans, only-room, rows_written, work-written}
use Rattle.memory.specs.Laws.Fields.{number-over-flags, flag-over-rows, flag-over-work}
use Rattle.memory.specs.Laws.Stored.{set_listed-flags, set_costs-costs, costs-set_costs}
use Rattle.memory.specs.Laws.Held.{held-room}
use Rattle.tree.specs.Hold.{RowsHold}
use Rattle.tree.specs.Enter.{EnterAsked}
use Rattle.tree.specs.Withdraw.{Withdrawn}
use Rattle.upkeep.specs.Change.{drop_at, AskedRows}
use Rattle.upkeep.specs.Laws.Change.{rest-without}
use Rattle.upkeep.specs.declared.exchange.Exchange.{Exchange}
use Rattle.board.specs.Laws.Rows.{holds-sound, holds-moves, holds-over-flags, holds-set_costs, enter-asked}

-- What storing the flag and the costs of a coming move asks, whatever was written before.
pub coming-asked : {c d n : ℕ} {k : Exchange} {m m₁ : List ℕ} {x : Move} → AskedRows c d n k m → k.coming ≡ Some x → MovesOnly c m m₁ → Room c m₁ × (x.number < c)
coming-asked {c} {d} {n} {m = m} {x = x} asked comes f = (only-room c f (held-room c d n m asked.sound), (asked.fit x comes).number)

-- Its flag, after those of the others.
pub listed-frame : {c : ℕ} {m m₁ m₂ : List ℕ} (k : ℕ) (b : Bool) → k < c → FlagsOnly c m m₁ → m₂ ≡ set_listed c k b m₁ → FlagsOnly c m m₂
listed-frame {c} {m₁ = m₁} k b l f e = frame-trans f (subst (FlagsOnly c m₁) (sym e) (set_listed-flags c k m₁ l b))

-- Its costs, where no row has its number.
module _ {c d n : ℕ} {x : model.Move} {m m' : List ℕ} {t : Tree} (h : RowsHold c d n m t) (fit : Fit c d x) (off : on_board x.number (moves_of t) ≡ false)
    (e : m' ≡ set_costs c x.number x.costs m) where
  few : length x.costs ≤ row_costs
  few = omega (arith, fit.costs.count)

  pub stored-frame : CostsOnly c m m'
  stored-frame = subst (CostsOnly c m) (sym e) (set_costs-costs c x.number m fit.number x.costs few)

  pub stored-holds : RowsHold c d n m' t
  stored-holds = subst (λ (w : List ℕ). RowsHold c d n w t) (sym e) (holds-set_costs h x.number x.costs fit.number few off)

  pub stored-asked : n < c → EnterAsked c d n x m'
  stored-asked space =
      enter-asked stored-holds x space fit
      (ap (λ (w : List ℕ). costs_in c d w x.number) e ∙ costs-set_costs c d x.number x.costs m h.readable.dimension fit.costs h.readable.room fit.number)
      off

-- A move goes.
module _ {c d n p : ℕ} {m₁ m₂ : List ℕ} (w : Withdrawn c d n p m₁ m₂) where
  pub gone-written : MovesOnly c m₁ m₂
  gone-written = only-trans (work-written c w.work) (rows_written c w.rows)

  pub gone-flag : (v : ℕ) → v < c → flag_in c m₂ v ≡ flag_in c m₁ v
  gone-flag v k = flag-over-rows c w.rows v ∙ flag-over-work c w.work v k

  module _ {m : List ℕ} (s : SoundRows c d n m) (b : Bytes m) (l : p < n) (flagged : FlagsOnly c m m₁) (t : Tree) (stands : Stands m t) where
    pub gone-holds : RowsHold c d (n - 1) m₂ (withdraw_tree d (number_in c m p) t)
    gone-holds =
        let h = holds-sound s b t stands in
        subst (λ (k : ℕ). RowsHold c d (n - 1) m₂ (withdraw_tree d k t)) (number-over-flags c flagged p (omega (arith, h.readable.rows)))
        (w.holds t (holds-over-flags h flagged))

    pub gone-moves : moves_of (withdraw_tree d (number_in c m p) t) ≡ drop_at p (moves_in (line_from c d n m))
    gone-moves =
        let h = holds-sound s b t stands in
        withdraw-moves d (Fit c d) (move-order d c h.readable.dimension) (number_in c m p) t h.rules h.fits
        ∙ ap (without (number_in c m p)) (sym (holds-moves h))
        ∙ sym (rest-without c d n p m s b l)
