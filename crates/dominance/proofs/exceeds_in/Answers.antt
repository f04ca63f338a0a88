use Rattle.model.specs.Lists.{chosen_costs}
use Rattle.dominance.proofs.exceeds_in.Goals as goal

pub returns : goal.returns
unfolding chosen_costs
returns c = c.any_greater.ensures
