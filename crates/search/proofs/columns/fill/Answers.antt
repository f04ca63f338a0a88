use native.Mathlib.Omega.{arith}
use Rattle.search.specs.Laws.Columns.{filled-column}
use Rattle.search.proofs.columns.fill.Goals as goal

pub loop-at-init : goal.loop-at-init
loop-at-init c = λ t l. absurd (omega arith)

pub loop-at-preserved : goal.loop-at-preserved
loop-at-preserved c =
    let a = c.args in
    let own = c.loop-at in
    filled-column a.costs own.columns _ own.at (omega arith) own.invariant c.put.ensures

pub returns : goal.returns
returns c = λ t l. c.loop-at.invariant t (omega arith)
