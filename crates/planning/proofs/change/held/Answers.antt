-- `change::held` meets its contract. Assumes nothing.
use Rattle.zorder.proofs.Row.{row-costs}
use Rattle.planning.proofs.change.held.Goals as goal

pub returns-clause-costs : goal.returns-clause-costs
returns-clause-costs c = row-costs c.well_formed.0.1.1.1.0
