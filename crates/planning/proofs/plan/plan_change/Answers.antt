-- `plan::plan_change` meets its contract. Assumes nothing.
use Rattle.std.specs.Prelude.{Err}
use Rattle.std.proofs.Common.{subst}
use Rattle.promises.specs.declared.Refusal.{Refusal}
use Rattle.planning.specs.Plan.{KeepsMoves}
use Rattle.planning.proofs.Laws.Plan.{plan-unsound}
use Rattle.planning.proofs.plan.plan_change.Goals as goal

pub returns-in_default : goal.returns-in_default
returns-in_default c = plan-unsound c.in_default.ensures
    (subst (λ (r : Refusal). KeepsMoves _ c.args.x (Err r) c.keeps_moves.result) c.from.ensures c.keeps_moves.ensures)

pub plan_on-requires : goal.plan_on-requires
plan_on-requires c = c.in-Some.ensures
