use mathlib.Core.List.{map}
use mathlib.Core.Path.{◌≡◌}
use native.Mathlib.Omega.{arith}
use lib.ListN.{take}
use Rattle.zorder.proofs.Fill.{filled_none, mapped-more, mapped-all}
use Rattle.zorder.proofs.Row.{row-costs}
use Rattle.zorder.proofs.corners.corner.Goals as goal

pub loop-i-init : goal.loop-i-init
loop-i-init g c = filled_none (map (g.filled c.args.u) (take c.args.d c.args.costs))

pub loop-i-preserved : goal.loop-i-preserved
loop-i-preserved g c =
    let a = c.args in
    let own = c.loop-i in
    let told = c.requires.1.1.1 _ _ ((row-costs c.well_formed.1.1.0).small own.i) c.fill.ensures in
    rw (own.invariant, told) (mapped-more (g.filled a.u) a.d a.costs (omega arith) (omega arith) own.i c.loop-i-test.true)

pub returns : goal.returns
returns g c =
    let a = c.args in
    let all : c.loop-i.i ≡ a.d = omega arith in
    rw (c.loop-i.invariant, all) (mapped-all (g.filled a.u) a.d a.costs (omega arith) (omega arith))
