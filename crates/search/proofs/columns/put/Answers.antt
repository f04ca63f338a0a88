use native.Mathlib.Omega.{arith}
use Rattle.search.specs.Laws.Columns.{put-none, put-more, put_all}
use Rattle.search.proofs.columns.put.Goals as goal

pub loop-k-init : goal.loop-k-init
loop-k-init c = put-none

pub loop-k-preserved : goal.loop-k-preserved
loop-k-preserved c = put-more c.loop-k.k c.loop-k.cells (omega arith) (omega arith) c.loop-k.invariant

pub returns : goal.returns
returns c = put_all (omega arith) c.loop-k.invariant

pub bounds-cells-k : goal.bounds-cells-k
bounds-cells-k c = omega (arith, c.loop-k.invariant.wide)
