-- `exceeds_in` meets its contract. Assumes nothing.
use Rattle.dominance.specs.Lanes.{is_chosen}
use Rattle.dominance.proofs.exceeds_in.Given as goal

abbrev pub ghost-any_greater : goal.ghost-any_greater
ghost-any_greater a = is_chosen a.of
