-- `plan::plan_on_k` meets its contract. Assumes nothing.
use mathlib.Core.Logic.{inl, inr}
use mathlib.Core.Path.{refl}
use native.Mathlib.Omega.{arith}
use Rattle.memory.specs.Laws.Held.{held-readable}
use Rattle.model.specs.Calls.{on_k_query}
use Rattle.model.specs.Opening.{query_opens}
use Rattle.rows.proofs.Planned.{query-unsound, query-bad}
use Rattle.query.specs.Rule.{Fair}
use Rattle.query.specs.Unbeaten.{unbeaten}
use Rattle.query.specs.Laws.Calls.{on-bad, on-right, on-rows}
use Rattle.query.specs.Laws.Plan.{found-planned}
use Rattle.query.specs.declared.rule.Rule.TheVariants.{OnK}
use Rattle.query.proofs.plan.plan_on_k.Goals.{then-k-lt1-via-else-k-lt1+then-h-k, then-k-lt1-via-then-k-lt1}
use Rattle.query.proofs.plan.plan_on_k.Goals as goal

pub returns-in_default : goal.returns-in_default
returns-in_default c =
    let a = c.args in
    query-unsound (on_k_query a.k) a.m.now a.lent c.refused.ensures c.in_default.ensures

pub returns-then-k-lt1 : goal.returns-then-k-lt1
returns-then-k-lt1 c =
    let a = c.args in
    let s = c.in-Some.ensures in
    query-bad (on_k_query a.k) a.m.now a.lent c.refused-then-k-lt1.ensures s.sound
    (on-bad a.m.now a.k (elim c.then-k-lt1.branch [
      | then-k-lt1-via-then-k-lt1 w ↦ inl w.if-k-lt1.true
      | then-k-lt1-via-else-k-lt1+then-h-k w ↦ inr (omega (arith, s.dimension, w.if-h-k.true))
    ]))

pub find_unbeaten-requires : goal.find_unbeaten-requires
unfolding Fair
find_unbeaten-requires c = (c.in-Some.ensures, c.if-k-lt1.false)

pub returns : goal.returns
unfolding query_opens
returns c =
    let a = c.args in
    let s = c.in-Some.ensures in
    found-planned (λ d. unbeaten d (OnK a.k)) (on_k_query a.k) s c.find_unbeaten.ensures c.plan_found.ensures
    (on-right a.m.now a.k c.if-k-lt1.false (omega (arith, s.dimension, c.if-h-k.false)))
    (on-rows a.m.now a.k) (λ _. refl)

pub invariant_of-board : goal.invariant_of-board
invariant_of-board c = record { readable = held-readable c.in-Some.ensures; fits = λ k. omega (arith, c.type_inv.m k) }
