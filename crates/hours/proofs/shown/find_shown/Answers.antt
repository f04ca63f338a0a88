use mathlib.Core.Path.{◌≡◌, sym, ◌∙◌, subst}
use native.Mathlib.Omega.{arith}
use Rattle.promises.specs.Layout.{move_in}
use Rattle.memory.specs.Held.{move_held}
use Rattle.memory.specs.declared.board.Board.{Board}
use Rattle.hours.specs.Open.{is_shown, shown_in}
use Rattle.upkeep.specs.Laws.Found.{finds-few, finds-none, adds-few, finds-more, finds-all}
use Rattle.hours.proofs.shown.find_shown.Invariants.{test}
use Rattle.hours.proofs.shown.find_shown.Goals as goal

pub loop-i-init : goal.loop-i-init
loop-i-init c = let a = c.args in finds-none a.b.now.head.size a.b.now.bytes.now (test a.b.now.head a.blocks a.b.now.bytes.now) c.empty-numbers.result

pub overflow_add-count : goal.overflow_add-count
overflow_add-count c =
    let a = c.args in
    omega (arith, finds-few a.b.now.head.size a.b.now.bytes.now (test a.b.now.head a.blocks a.b.now.bytes.now) c.loop-i.invariant, adds-few a.b.now.head.size a.b.now.bytes.now _ c.add_found-count.ensures)

pub loop-i-preserved : goal.loop-i-preserved
unfolding move_in
loop-i-preserved c =
    let a = c.args in
    -- The index is of this board.
    let told =
    subst (λ (b : Board). is_shown c.standing_of-standing.result ≡ shown_in b.head a.blocks b.bytes.now (move_held b.head b.bytes.now c.loop-i.i))
    c.new-open.ensures.board c.standing_of-standing.ensures in
    finds-more a.b.now.head.size a.b.now.bytes.now (test a.b.now.head a.blocks a.b.now.bytes.now) c.loop-i.invariant (sym told ∙ sym c.is_shown.ensures) c.add_found-count.ensures (omega arith)

pub returns : goal.returns
returns c =
    let a = c.args in
    finds-all a.b.now.head.size a.b.now.bytes.now (test a.b.now.head a.blocks a.b.now.bytes.now) a.b.now.head.count c.loop-i.i _ (omega arith) c.empty-numbers.ensures c.loop-i.invariant
