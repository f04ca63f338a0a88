-- `found::add_found` meets its contract. Assumes nothing.
use mathlib.Core.Path.{refl}
use native.Mathlib.Omega.{arith}
use Rattle.upkeep.specs.Laws.Passing.{passing-none, passing-takes, passing-passes}
use Rattle.upkeep.proofs.found.add_found.Goals as goal

pub returns-then-found : goal.returns-then-found
returns-then-found c =
    let a = c.args in
    let b = a.b.now in
    let number = c.number_at in
    passing-takes b.head.size b.bytes.now (λ _. a.found) (passing-none b.head.size b.bytes.now (λ _. a.found) a.numbers.now a.i) (omega arith)
    c.if-found.true number.result number.ensures.0 c.add.ensures (omega arith)

pub returns : goal.returns
returns c =
    let a = c.args in
    let b = a.b.now in
    passing-passes b.head.size b.bytes.now (λ _. a.found) (passing-none b.head.size b.bytes.now (λ _. a.found) a.numbers.now a.i) (omega arith)
    c.if-found.false refl refl
