use Prim.Native.Nat.{◌+◌}
use mathlib.Core.Path.{sym, subst}
use native.Mathlib.Omega.{arith}
use Rattle.dominance.specs.Move.{as_move}
use Rattle.memory.specs.declared.head.Head.{Head}
use Rattle.tree.specs.Enter.{EnterAsked, Entered}
use Rattle.tree.specs.Laws.Again.{entering-none, entering-low, entering-read, entering-asked, entering-more}
use Rattle.tree.proofs.withdraw.enter_saved.Goals as goal

pub loop-j-init : goal.loop-j-init
loop-j-init c = entering-none c.requires

pub costs_of-requires : goal.costs_of-requires
costs_of-requires c =
    let own = c.loop-j in
    omega (arith, entering-low c.requires own.invariant (omega arith))

pub enter_line-requires : goal.enter_line-requires
enter_line-requires c =
    let own = c.loop-j in
    let a = c.args in
    let number = c.work_at-number in
    let costs = c.costs_of in
    subst (λ (g : Head). EnterAsked g.size g.dimension g.count (as_move (record { number = number.result; costs = costs.result })) own.m) (sym c.with_rows.ensures)
    (subst (λ x. EnterAsked a.h.size a.h.dimension (a.h.count + own.j) x own.m)
    (entering-read c.requires own.invariant (omega arith) (record { number = number.result; costs = costs.result }) number.ensures costs.ensures)
    (entering-asked c.requires own.invariant (omega arith)))

pub loop-j-preserved : goal.loop-j-preserved
loop-j-preserved c =
    let after = c.enter_line in
    let own = c.loop-j in
    let a = c.args in
    let number = c.work_at-number in
    let costs = c.costs_of in
    entering-more c.requires own.invariant (omega (arith, c.loop-j-test.true)) after.new.m
    (subst (λ x. Entered a.h.size a.h.dimension (a.h.count + own.j) x own.m after.new.m)
    (sym (entering-read c.requires own.invariant (omega (arith, c.loop-j-test.true)) (record { number = number.result; costs = costs.result }) number.ensures costs.ensures))
    (subst (λ (g : Head). Entered g.size g.dimension g.count (as_move (record { number = number.result; costs = costs.result })) own.m after.new.m) c.with_rows.ensures after.ensures))
