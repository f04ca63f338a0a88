use Prim.Native.Nat.{ℕ}
use mathlib.Core.List.{List}
use mathlib.Core.Path.{ap, ◌∙◌, subst}
use Rattle.std.proofs.Math.Bool.{not, not-not}
use native.Mathlib.Omega.{arith}
use Rattle.memory.specs.declared.board.Board.{Board}
use Rattle.promises.specs.Layout.{move_in}
use Rattle.memory.specs.Held.{move_held}
use Rattle.upkeep.specs.Laws.Found.{finds-few, finds-none, adds-few, finds-more, finds-all}
use Rattle.query.specs.Unbeaten.{BeaterFound}
use Rattle.query.specs.Laws.Unbeaten.{beater-found}
use Rattle.query.proofs.unbeaten.find_unbeaten.Invariants.{test}
use Rattle.query.proofs.unbeaten.find_unbeaten.Goals as goal

pub loop-i-init : goal.loop-i-init
loop-i-init c = let a = c.args in finds-none a.b.now.head.size a.b.now.bytes.now (test a.b.now.head a.rule a.b.now.bytes.now) c.empty-numbers.result

pub overflow_add-count : goal.overflow_add-count
overflow_add-count c =
    let a = c.args in
    omega (arith, finds-few a.b.now.head.size a.b.now.bytes.now (test a.b.now.head a.rule a.b.now.bytes.now) c.loop-i.invariant, adds-few a.b.now.head.size a.b.now.bytes.now _ c.add_found-count.ensures)

pub loop-i-preserved : goal.loop-i-preserved
unfolding move_in
loop-i-preserved c =
    let a = c.args in
    let own = c.loop-i in
    let beater = c.beater-found in
    -- The index is of this board.
    let found = subst (λ (b : Board). BeaterFound b.head a.rule b.bytes.now c.costs_at.result beater.result) c.new-listed.ensures.board beater.ensures in
    let none = subst (λ (x : List ℕ). BeaterFound a.b.now.head a.rule a.b.now.bytes.now x beater.result) c.costs_at.ensures found in
    let stays = beater-found a.b.now.head.size a.b.now.head.dimension a.b.now.head.count a.b.now.bytes.now a.rule (move_held a.b.now.head a.b.now.bytes.now own.i) none ∙ ap not c.is_none.ensures ∙ not-not _ in
    finds-more a.b.now.head.size a.b.now.bytes.now (test a.b.now.head a.rule a.b.now.bytes.now) own.invariant stays c.add_found-count.ensures (omega arith)

pub returns : goal.returns
returns c =
    let a = c.args in
    finds-all a.b.now.head.size a.b.now.bytes.now (test a.b.now.head a.rule a.b.now.bytes.now) a.b.now.head.count c.loop-i.i _ (omega arith) c.empty-numbers.ensures c.loop-i.invariant
