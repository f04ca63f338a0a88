use Prim.Native.Nat.{◌-◌}
use mathlib.Core.Path.{sym, subst}
use native.Mathlib.Omega.{arith}
use Rattle.tree.specs.Laws.Lowering.{Lowers, lowers-none, lowers-first, lowers-end, lowers-stop, lowers-more}
use Rattle.tree.proofs.withdraw.lower_root.Goals as goal

pub returns-then-n-eq0 : goal.returns-then-n-eq0
returns-then-n-eq0 c = let a = c.args in lowers-none a.c a.n a.m.now c.if-n-eq0.true

pub loop-l-init : goal.loop-l-init
loop-l-init c =
    let a = c.args in
    lowers-first a.c a.n c.height_at-top.result a.m.now (omega arith) c.height_at-top.ensures

pub returns-then-entries-gt1 : goal.returns-then-entries-gt1
returns-then-entries-gt1 c = lowers-stop (omega arith) c.loop-l.invariant (omega arith) c.entries.ensures (omega arith)

pub loop-l-preserved : goal.loop-l-preserved
loop-l-preserved c =
    let a = c.args in
    let own = c.loop-l in
    subst (Lowers a.c a.n (own.l - 1) a.m.now) (sym c.set_height.ensures)
    (lowers-more (omega arith) own.invariant (omega arith) c.entries.ensures (omega arith) (omega arith) (omega arith))

pub returns : goal.returns
returns c = lowers-end (omega arith) c.loop-l.invariant (omega arith)
