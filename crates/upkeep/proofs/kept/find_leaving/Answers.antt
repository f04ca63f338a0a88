use Prim.Native.Nat.{ℕ}
use mathlib.Core.Path.{◌≡◌, sym, subst, ◌∙◌}
use native.Mathlib.Omega.{arith}
use Rattle.numbers.specs.Set.{With}
use Rattle.upkeep.specs.Change.{leaves_at, Passing}
use Rattle.upkeep.specs.Laws.Passing.{passing-few, passing-none, passing-takes, passing-passes}
use Rattle.upkeep.proofs.kept.find_leaving.Goals.{else-leaves, then-leaves}
use Rattle.upkeep.proofs.kept.find_leaving.Goals as goal

pub loop-i-init : goal.loop-i-init
loop-i-init c =
    let a = c.args in
    let b = a.b.now in
    passing-none b.head.size b.bytes.now (leaves_at b.head.size b.head.dimension a.k b.bytes.now) a.changed.now 0

pub overflow_add-left : goal.overflow_add-left
overflow_add-left c =
    let a = c.args in
    let b = a.b.now in
    omega (arith, passing-few b.head.size b.bytes.now (leaves_at b.head.size b.head.dimension a.k b.bytes.now) c.loop-i.invariant)

pub loop-i-preserved : goal.loop-i-preserved
loop-i-preserved c =
    let a = c.args in
    let b = a.b.now in
    let own = c.loop-i in
    let test = leaves_at b.head.size b.head.dimension a.k b.bytes.now in
    let says = sym c.leaves.ensures in
    elim c.if-leaves.branch [
      | then-leaves w ↦ passing-takes b.head.size b.bytes.now test own.invariant (omega arith) (says ∙ w.if-leaves.true) w.number_at.result w.number_at.ensures.0
          (subst (With own.changed w.number_at.result) (sym w.changed-is) w.add.ensures) w.left-is
      | else-leaves w ↦ passing-passes b.head.size b.bytes.now test own.invariant (omega arith) (says ∙ w.if-leaves.false) w.changed-is w.left-is
    ]

pub returns : goal.returns
returns c =
    let a = c.args in
    let b = a.b.now in
    let own = c.loop-i in
    let all : own.i ≡ b.head.count = omega arith in
    subst (λ (e : ℕ). Passing b.head.size b.bytes.now (leaves_at b.head.size b.head.dimension a.k b.bytes.now) a.changed.now 0 e own.changed own.left) all own.invariant
