-- `entering::goes_listed` meets its contract. Assumes nothing.
use mathlib.Core.Bool.{Bool, ◌&&◌}
use mathlib.Core.Path.{sym, ap, ap₂, ◌∙◌}
use native.Mathlib.Omega.{arith}
use borrow.Author.Tests.{lt-ltb, le-ltb}
use Rattle.memory.specs.Tests.{is_listed}
use Rattle.memory.specs.Laws.Turns.{listed_at}
use Rattle.upkeep.specs.Change.{goes_listed}
use Rattle.upkeep.proofs.entering.goes_listed.Goals as goal

pub returns-then-b-goes : goal.returns-then-b-goes
unfolding goes_listed
returns-then-b-goes c =
    let a = c.args in
    let b = a.b.now in
    sym (ap (λ (t : Bool). t && is_listed b.head.size b.bytes.now a.goes) (le-ltb a.goes b.head.count c.if-b-goes.true))

pub returns : goal.returns
unfolding goes_listed
returns c =
    let a = c.args in
    let b = a.b.now in
    let number = c.number_at in
    sym
    (ap₂ ◌&&◌ (lt-ltb a.goes b.head.count (omega arith))
    (listed_at b.head.size b.bytes.now a.goes number.result number.ensures.0 ∙ sym c.is_listed.ensures))
