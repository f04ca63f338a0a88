-- `ranges::memory_need` meets its contract: no number of a size in range is too large. Assumes nothing.
use mathlib.Core.Path.{refl}
use native.Mathlib.Omega.{arith}
use Rattle.model.specs.Calls.{memory_need}
use Rattle.model.proofs.Laws.Loading.{size-most}
use Rattle.promises.proofs.ranges.memory_need.Goals as goal

pub returns : goal.returns
unfolding memory_need
returns c = refl

pub overflow_mul-result : goal.overflow_mul-result
overflow_mul-result c = omega (arith, size-most c.args.c c.requires)

pub overflow_add-result : goal.overflow_add-result
overflow_add-result c = omega (arith, size-most c.args.c c.requires)
