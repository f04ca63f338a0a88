-- `bounds_in` meets its contract. Assumes nothing.
use Rattle.dominance.specs.Lanes.{is_chosen}
use Rattle.dominance.proofs.bounds_in.Given as goal

abbrev pub ghost-bounds_by : goal.ghost-bounds_by
ghost-bounds_by a = is_chosen a.of
