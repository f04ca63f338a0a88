use mathlib.Core.Path.{sym, ap₂, ◌∙◌}
use native.Mathlib.Omega.{arith}
use Rattle.model.specs.Moves.{move_before}
use Rattle.memory.specs.Laws.Turns.{order-none, order-more, order-fail, order-end}
use Rattle.soundness.proofs.sound.order_right.Goals as goal

pub loop-i-init : goal.loop-i-init
loop-i-init c = let b = c.args.b.now in (omega arith, order-none b.head.size b.head.dimension b.bytes.now)

pub returns-then-not-stands_before : goal.returns-then-not-stands_before
returns-then-not-stands_before c =
    let b = c.args.b.now in
    let i = c.loop-i.i in
    sym
    (order-fail b.head.size b.head.dimension b.bytes.now b.head.count i (omega arith) (omega arith)
    (ap₂ (move_before b.head.dimension) (sym c.move_at.ensures) (sym c.move_at-in-loop-i.ensures)
    ∙ sym c.stands_before.ensures
    ∙ c.if-not-stands_before.true))

pub loop-i-preserved : goal.loop-i-preserved
loop-i-preserved c =
    let b = c.args.b.now in
    let own = c.loop-i in (
      omega arith,
      order-more b.head.size b.head.dimension b.bytes.now own.i (omega arith) own.invariant.1
          (ap₂ (move_before b.head.dimension) (sym c.move_at.ensures) (sym c.move_at-in-loop-i.ensures)
          ∙ sym c.stands_before.ensures
          ∙ c.if-not-stands_before.false),
    )

pub returns : goal.returns
returns c =
    let b = c.args.b.now in
    let own = c.loop-i in
    sym own.invariant.1 ∙ order-end b.head.size b.head.dimension b.bytes.now b.head.count own.i (omega arith)
