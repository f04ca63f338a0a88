-- `plan::plan_found` meets its contract. Assumes nothing.
use mathlib.Core.Path.{sym, subst}
use Rattle.rows.specs.Planned.{PlansFound}
use Rattle.rows.proofs.Planned.{found-plans}
use Rattle.rows.specs.declared.telling.Telling.{Telling}
use Rattle.rows.proofs.plan.plan_found.Goals as goal

pub returns : goal.returns
returns c =
    let a = c.args in
    let verdict = c.enough-verdict in
    subst (λ (t : Telling). PlansFound a.h a.found a.opened a.lent (record { verdict = verdict.result; need = a.found.count; opened = a.opened; telling = t })) (sym c.listing_of.ensures)
    (found-plans a.h a.found a.opened a.lent verdict.result c.counted.result verdict.ensures c.counted.ensures)
