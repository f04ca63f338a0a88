-- `exceeds` meets its contract. Assumes nothing.
use Rattle.dominance.specs.Lanes.{is_first}
use Rattle.dominance.proofs.exceeds.Given as goal

abbrev pub ghost-any_greater : goal.ghost-any_greater
ghost-any_greater a = is_first a.of
