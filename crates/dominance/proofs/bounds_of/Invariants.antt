-- `bounds_of` meets its contract. Assumes nothing.
use Rattle.dominance.specs.Lanes.{is_first}
use Rattle.dominance.proofs.bounds_of.Given as goal

abbrev pub ghost-bounds_by : goal.ghost-bounds_by
ghost-bounds_by a = is_first a.of
