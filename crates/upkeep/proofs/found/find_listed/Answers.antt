use mathlib.Core.Path.{sym, ap, subst, ◌∙◌}
use native.Mathlib.Omega.{arith}
use Rattle.numbers.specs.Set.{With}
use Rattle.memory.specs.Tests.{is_flagged, is_listed}
use Rattle.upkeep.specs.Laws.Passing.{passing-few, passing-none, passing-takes, passing-passes}
use Rattle.upkeep.specs.Laws.Found.{finds-all}
use Rattle.upkeep.proofs.found.find_listed.Goals.{else-is_listed, then-is_listed}
use Rattle.upkeep.proofs.found.find_listed.Goals as goal

pub loop-i-init : goal.loop-i-init
unfolding is_listed
loop-i-init c =
    let a = c.args in
    let b = a.b.now in
    passing-none b.head.size b.bytes.now (is_listed b.head.size b.bytes.now) c.empty-numbers.result 0

pub overflow_add-count : goal.overflow_add-count
unfolding is_listed
overflow_add-count c =
    let a = c.args in
    let b = a.b.now in
    omega (arith, passing-few b.head.size b.bytes.now (is_listed b.head.size b.bytes.now) c.loop-i.invariant)

pub loop-i-preserved : goal.loop-i-preserved
unfolding is_listed
loop-i-preserved c =
    let a = c.args in
    let b = a.b.now in
    let own = c.loop-i in
    let at = c.number_at-number in
    let says = ap (is_flagged b.head.size b.bytes.now) (sym at.ensures.0) ∙ sym c.is_listed.ensures in
    elim c.if-is_listed.branch [
      | then-is_listed w ↦ passing-takes b.head.size b.bytes.now (is_listed b.head.size b.bytes.now) own.invariant (omega arith) (says ∙ w.if-is_listed.true) at.result at.ensures.0
          (subst (With own.numbers at.result) (sym w.numbers-is) w.add.ensures) w.count-is
      | else-is_listed w ↦ passing-passes b.head.size b.bytes.now (is_listed b.head.size b.bytes.now) own.invariant (omega arith) (says ∙ w.if-is_listed.false) w.numbers-is w.count-is
    ]

pub returns : goal.returns
returns c =
    let a = c.args in
    let b = a.b.now in
    let own = c.loop-i in
    finds-all b.head.size b.bytes.now (is_flagged b.head.size b.bytes.now) b.head.count own.i _ (omega arith) c.empty-numbers.ensures own.invariant
