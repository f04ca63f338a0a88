-- `plan_list` meets its contract. Assumes nothing.
use native.Mathlib.Omega.{arith}
use Rattle.model.specs.Calls.{list}
use Rattle.memory.specs.Laws.Held.{held-readable}
use Rattle.rows.proofs.Planned.{query-unsound}
use Rattle.listing.specs.Laws.List.{list-planned}
use Rattle.listing.proofs.plan_list.Goals as goal

pub returns-in_default : goal.returns-in_default
returns-in_default c =
    let a = c.args in
    query-unsound list a.m.now a.lent c.refused.ensures
    c.in_default.ensures

pub nodes_opened-opened-requires : goal.nodes_opened-opened-requires
nodes_opened-opened-requires c = c.in-Some.ensures

pub returns : goal.returns
returns c =
    list-planned c.in-Some.ensures c.find_listed-found.ensures c.nodes_opened-opened.ensures c.plan_found.ensures

pub invariant_of-board : goal.invariant_of-board
invariant_of-board c = record { readable = held-readable c.in-Some.ensures; fits = λ k. omega (arith, c.type_inv.m k) }
