-- `least` meets its contract. Assumes nothing.
use mathlib.Core.Bool.{cond}
use Rattle.model.specs.Dominance.{less}
use Rattle.dominance.proofs.least.Given as goal

abbrev pub ghost-by_cost : goal.ghost-by_cost
ghost-by_cost _ a b = cond (less b a) b a
