use Prim.Native.Nat.{◌+◌}
use mathlib.Core.Path.{sym, ap, ◌∙◌, subst₂}
use native.Mathlib.Omega.{arith}
use Rattle.memory.specs.Stores.{set_work}
use Rattle.tree.specs.Laws.Saving.{Saving, saving-none, saving-less, saving-more}
use Rattle.tree.proofs.withdraw.save.Goals.{else-other-number, then-other-number}
use Rattle.tree.proofs.withdraw.save.Goals as goal

pub loop-i-init : goal.loop-i-init
loop-i-init c =
    let a = c.args in
    saving-none a.c a.rows.now.start a.number a.m.now

pub loop-i-preserved : goal.loop-i-preserved
loop-i-preserved c =
    let a = c.args in
    let from = a.rows.now.start in
    let own = c.loop-i in
    let read = c.number_at-other.ensures in
    elim c.if-other-number.branch [
      | then-other-number w ↦ subst₂ (λ k m. Saving a.c from (own.i + 1) a.number k a.m.now m) (sym w.k-is)
          (sym (w.m-is ∙ w.set_work.ensures ∙ ap (λ v. set_work a.c own.k v own.m) read))
          (saving-more a.c from a.number a.m.now own.i own.k own.m own.invariant (omega arith) (omega arith) (λ e. w.if-other-number.true (read ∙ e)))
      | else-other-number w ↦ subst₂ (λ k m. Saving a.c from (own.i + 1) a.number k a.m.now m) (sym w.k-is) (sym w.m-is)
          (saving-less a.c from a.number a.m.now own.i own.k own.m own.invariant (omega arith) (sym read ∙ w.if-other-number.false))
    ]
