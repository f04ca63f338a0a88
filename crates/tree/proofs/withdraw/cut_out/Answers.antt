-- `withdraw::cut_out` meets its contract. Assumes nothing.
use Prim.Native.Nat.{ℕ}
use mathlib.Core.List.{List}
use mathlib.Core.Path.{sym, ap, ◌∙◌, subst}
use native.Mathlib.Omega.{arith}
use Rattle.memory.specs.Stores.{set_height}
use Rattle.tree.specs.Withdraw.{CutOut}
use Rattle.tree.specs.Laws.Gap.{cut-none, cut_low, cut_high}
use Rattle.tree.proofs.withdraw.cut_out.Goals as goal

pub returns-then-h-k : goal.returns-then-h-k
returns-then-h-k c =
    let a = c.args in
    let k = c.height_at-k in
    let m : List ℕ = c.close_gap.new.m in
    subst (CutOut a.c a.n a.rows.now.start a.rows.now.end a.m.now)
    (sym (c.set_height.ensures ∙ ap (λ h. set_height a.c a.rows.now.start h m) k.ensures))
    (cut_high c.requires c.close_gap.ensures (omega arith) (omega arith))

pub returns-else-h-k : goal.returns-else-h-k
returns-else-h-k c =
    cut_low c.requires c.close_gap.ensures (omega arith) (omega arith)

pub returns-else-rows-n : goal.returns-else-rows-n
returns-else-rows-n c =
    cut-none c.requires c.close_gap.ensures (omega arith)
