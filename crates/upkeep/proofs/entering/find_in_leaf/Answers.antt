use Prim.Native.Nat.{ℕ}
use mathlib.Core.Path.{◌≡◌, sym, subst, ◌∙◌}
use native.Mathlib.Omega.{arith}
use Rattle.numbers.specs.Set.{With}
use Rattle.upkeep.specs.Change.{enters_at, Passing}
use Rattle.upkeep.specs.Laws.Passing.{passing-few, passing-none, passing-takes, passing-passes}
use Rattle.upkeep.proofs.entering.find_in_leaf.Goals.{else-enters, then-enters}
use Rattle.upkeep.proofs.entering.find_in_leaf.Goals as goal

pub loop-i-init : goal.loop-i-init
loop-i-init c =
    let a = c.args in
    let b = a.all.now.board in
    passing-none b.head.size b.bytes.now (enters_at b.head.size b.head.dimension b.head.count a.k b.bytes.now) a.changed.now a.start

pub overflow_add-entered : goal.overflow_add-entered
overflow_add-entered c =
    let a = c.args in
    let b = a.all.now.board in
    omega (arith, passing-few b.head.size b.bytes.now (enters_at b.head.size b.head.dimension b.head.count a.k b.bytes.now) c.loop-i.invariant)

pub loop-i-preserved : goal.loop-i-preserved
loop-i-preserved c =
    let a = c.args in
    let b = a.all.now.board in
    let own = c.loop-i in
    let test = enters_at b.head.size b.head.dimension b.head.count a.k b.bytes.now in
    let says = sym c.enters.ensures in
    elim c.if-enters.branch [
      | then-enters w ↦ passing-takes b.head.size b.bytes.now test own.invariant (omega arith) (says ∙ w.if-enters.true) w.number_at.result w.number_at.ensures.0
          (subst (With own.changed w.number_at.result) (sym w.changed-is) w.add.ensures) w.entered-is
      | else-enters w ↦ passing-passes b.head.size b.bytes.now test own.invariant (omega arith) (says ∙ w.if-enters.false) w.changed-is w.entered-is
    ]

pub returns : goal.returns
returns c =
    let a = c.args in
    let b = a.all.now.board in
    let own = c.loop-i in
    let all : own.i ≡ a.end = omega arith in
    subst (λ (e : ℕ). Passing b.head.size b.bytes.now (enters_at b.head.size b.head.dimension b.head.count a.k b.bytes.now) a.changed.now a.start e own.changed own.entered) all own.invariant
