use mathlib.Core.Path.{sym, ◌∙◌}
use native.Mathlib.Omega.{arith}
use lib.ListN.{length-take}
use Rattle.model.specs.Hours.{block_count}
use Rattle.hours.specs.Laws.Blocks.{first_found, none_found}
use Rattle.hours.proofs.blocks.first_bad.Goals as goal

pub offset_bounds-hours-k : goal.offset_bounds-hours-k
offset_bounds-hours-k c = omega (arith, length-take block_count c.args.hours.now)

pub bounds-hours-k : goal.bounds-hours-k
bounds-hours-k c = omega (arith, length-take block_count c.args.hours.now)

pub returns-then-hours_bad : goal.returns-then-hours_bad
returns-then-hours_bad c =
    let own = c.loop-k in
    let entries = c.args.hours.now in
    record { first = first_found entries own.k (omega arith) own.invariant (sym c.hours_bad.ensures ∙ c.if-hours_bad.true); below = omega (arith, length-take block_count entries) }

pub returns : goal.returns
returns c = record { first = none_found c.args.hours.now c.loop-k.k (omega arith) c.loop-k.invariant; below = tt }
