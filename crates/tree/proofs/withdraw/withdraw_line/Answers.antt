-- `withdraw::withdraw_line` meets its contract. Assumes nothing.
use Prim.Native.Nat.{ℕ}
use mathlib.Core.Path.{sym, subst}
use Rattle.memory.specs.declared.head.Head.{Head}
use Rattle.tree.specs.Withdraw.{Saved, SavedAsked, SavedEntered}
use Rattle.tree.specs.Laws.Removal.{saved-asked, withdrawn}
use Rattle.tree.proofs.withdraw.withdraw_line.Goals as goal

pub enter_saved-requires : goal.enter_saved-requires
enter_saved-requires c =
    let a = c.args in
    let r = c.widened-rows.result in
    subst (λ (g : Head). SavedAsked g.size g.dimension g.count c.save-k.result c.lower_root.new.m) (sym c.with_rows.ensures)
    (saved-asked c.requires.place c.widened-rows.ensures
    (subst (λ (v : ℕ). Saved a.h.size r.start r.end v a.m.now c.save-k.new.m c.save-k.result) c.number_at-number.ensures c.save-k.ensures)
    c.cut_out.ensures c.lower_root.ensures c.requires.tree)

pub returns : goal.returns
returns c =
    let a = c.args in
    let r = c.widened-rows.result in
    withdrawn c.requires.place c.widened-rows.ensures
    (subst (λ (v : ℕ). Saved a.h.size r.start r.end v a.m.now c.save-k.new.m c.save-k.result) c.number_at-number.ensures c.save-k.ensures)
    c.cut_out.ensures c.lower_root.ensures
    (subst (λ (g : Head). SavedEntered g.size g.dimension g.count c.save-k.result c.lower_root.new.m c.enter_saved.new.m) c.with_rows.ensures c.enter_saved.ensures)
