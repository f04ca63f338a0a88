-- `plan::plan_hours` meets its contract. Assumes nothing.
use mathlib.Core.List.{map}
use mathlib.Core.Path.{sym, ◌∙◌}
use native.Mathlib.Omega.{arith}
use Rattle.memory.specs.Laws.Held.{held-readable}
use Rattle.model.specs.Calls.{hours_query}
use Rattle.model.proofs.Laws.Hours.{minute-most}
use Rattle.promises.specs.Answers.{block_hours}
use Rattle.promises.specs.Layout.{board_in}
use Rattle.rows.proofs.Planned.{query-bad, query-refused}
use Rattle.search.specs.Laws.Search.{found-at, found-none, found-below}
use Rattle.hours.specs.Open.{FirstBad}
use Rattle.hours.specs.Laws.Calls.{minute-refused, hours-refused, hours-right, hours-planned}
use Rattle.hours.proofs.plan.plan_hours.Goals as goal

pub returns-then-minute_bad : goal.returns-then-minute_bad
returns-then-minute_bad c =
    let a = c.args in
    let hours = map block_hours a.hours.now in
    query-bad (hours_query a.minute hours) a.m.now a.lent c.refused-then-minute_bad.ensures c.in-Some.ensures.sound
    (minute-refused (board_in a.m.now) a.minute hours (sym c.minute_bad.ensures ∙ c.if-minute_bad.true))

pub returns-in-Some-first_bad : goal.returns-in-Some-first_bad
returns-in-Some-first_bad c =
    let a = c.args in
    let hours = map block_hours a.hours.now in
    query-refused (hours_query a.minute hours) a.m.now a.lent c.refused-in-Some-first_bad.ensures c.in-Some.ensures.sound (omega arith)
    (hours-refused (board_in a.m.now) a.minute hours (sym c.minute_bad.ensures ∙ c.if-minute_bad.false) (found-at 64 (FirstBad hours) c.in-Some-first_bad.is c.first_bad.ensures.first) (found-below 64 c.in-Some-first_bad.is c.first_bad.ensures.below))

pub overflow_cast-minute : goal.overflow_cast-minute
overflow_cast-minute c = omega (arith, minute-most _ (sym c.minute_bad.ensures ∙ c.if-minute_bad.false))

pub returns : goal.returns
returns c =
    let a = c.args in
    let hours = map block_hours a.hours.now in
    hours-planned c.in-Some.ensures c.open_blocks-blocks.ensures c.find_shown.ensures c.plan_found.ensures
    (hours-right (board_in a.m.now) a.minute hours (sym c.minute_bad.ensures ∙ c.if-minute_bad.false) (found-none 64 (FirstBad hours) c.in_default-first_bad.is c.first_bad.ensures.first) (omega arith))

pub invariant_of-board : goal.invariant_of-board
invariant_of-board c = record { readable = held-readable c.in-Some.ensures; fits = λ k. omega (arith, c.type_inv.m k) }
