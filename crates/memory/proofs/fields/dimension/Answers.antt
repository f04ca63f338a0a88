-- `fields::dimension` meets its contract. Assumes nothing.
use native.Mathlib.Omega.{arith}
use Rattle.promises.specs.Layout.{dimension_in}
use Rattle.memory.proofs.fields.dimension.Goals as goal

pub overflow_cast-result : goal.overflow_cast-result
overflow_cast-result c = omega (arith, c.shared_slice_known-1.given 2)

pub returns : goal.returns
unfolding dimension_in
returns c = omega (arith, c.shared_slice_known-1.given 2)
