-- `plan::plan_band` meets its contract. Assumes nothing.
use mathlib.Core.Path.{refl}
use native.Mathlib.Omega.{arith}
use Rattle.memory.specs.Laws.Held.{held-readable}
use Rattle.model.specs.Calls.{band_query}
use Rattle.model.specs.Opening.{query_opens}
use Rattle.rows.proofs.Planned.{query-unsound, query-bad}
use Rattle.query.specs.Band.{in_band}
use Rattle.query.specs.Laws.Calls.{band-bad, band-right, band-rows}
use Rattle.query.specs.Laws.Plan.{found-planned}
use Rattle.query.proofs.plan.plan_band.Goals as goal

pub returns-in_default : goal.returns-in_default
returns-in_default c =
    let a = c.args in
    query-unsound (band_query a.b) a.m.now a.lent c.refused.ensures c.in_default.ensures

pub returns-then-b-gt4095 : goal.returns-then-b-gt4095
returns-then-b-gt4095 c =
    let a = c.args in
    let s = c.in-Some.ensures in
    query-bad (band_query a.b) a.m.now a.lent c.refused-then-b-gt4095.ensures s.sound
    (band-bad a.m.now a.b c.if-b-gt4095.true)

pub returns : goal.returns
unfolding query_opens
returns c =
    let a = c.args in
    let s = c.in-Some.ensures in
    found-planned (λ d ms. in_band d a.b ms) (band_query a.b) s c.find_band.ensures c.plan_found.ensures
    (band-right a.m.now a.b c.if-b-gt4095.false)
    (band-rows a.m.now a.b) (λ _. refl)

pub find_band-requires : goal.find_band-requires
find_band-requires c = c.in-Some.ensures

pub invariant_of-board : goal.invariant_of-board
invariant_of-board c = record { readable = held-readable c.in-Some.ensures; fits = λ k. omega (arith, c.type_inv.m k) }
