-- `plan::plan_chosen` meets its contract. Assumes nothing.
use Prim.Native.Nat.{ℕ, ◌*◌, ◌%◌, ◌^◌}
use mathlib.Core.List.{List}
use mathlib.Core.Logic.{inl, inr}
use mathlib.Core.Path.{◌≡◌, refl, ap, ◌∙◌}
use native.Mathlib.Omega.{arith}
use Rattle.memory.specs.Laws.Held.{held-readable}
use Rattle.zorder.proofs.Bits.{shl_one}
use Rattle.promises.specs.Layout.{dimension_in}
use Rattle.model.specs.Calls.{chosen_query}
use Rattle.model.specs.Opening.{query_opens}
use Rattle.memory.specs.Held.{SoundRows}
use Rattle.memory.specs.Laws.Held.{held-dimension}
use Rattle.rows.proofs.Planned.{query-unsound, query-bad}
use Rattle.query.specs.Rule.{Fair}
use Rattle.query.specs.Unbeaten.{unbeaten}
use Rattle.query.specs.Laws.Calls.{chosen-bad, chosen-right, chosen-rows}
use Rattle.query.specs.Laws.Plan.{found-planned}
use Rattle.query.specs.declared.rule.Rule.TheVariants.{Chosen}
use Rattle.query.proofs.plan.plan_chosen.Goals.{then-set-eq0-via-else-set-eq0+then-h-set, then-set-eq0-via-then-set-eq0}
use Rattle.query.proofs.plan.plan_chosen.Goals as goal

-- `1 << d`, for the d of sound memory.
module _ {c d n : ℕ} {m : List ℕ} (s : SoundRows c d n m) where
  power : (1 * 2 ^ d) % 2 ^ 64 ≡ 2 ^ dimension_in m
  power = shl_one 64 d (omega (arith, held-dimension c d n m s)) ∙ ap (λ (n : ℕ). 2 ^ n) s.dimension

pub returns-in_default : goal.returns-in_default
returns-in_default c =
    let a = c.args in
    query-unsound (chosen_query a.set) a.m.now a.lent c.refused.ensures c.in_default.ensures

pub overflow_shl-h : goal.overflow_shl-h
overflow_shl-h c = let s = c.in-Some.ensures in omega (arith, held-dimension _ _ _ _ s)

pub returns-then-set-eq0 : goal.returns-then-set-eq0
returns-then-set-eq0 c =
    let a = c.args in
    let s = c.in-Some.ensures in
    query-bad (chosen_query a.set) a.m.now a.lent c.refused-then-set-eq0.ensures s.sound
    (chosen-bad a.m.now a.set (elim c.then-set-eq0.branch [
      | then-set-eq0-via-then-set-eq0 w ↦ inl w.if-set-eq0.true
      | then-set-eq0-via-else-set-eq0+then-h-set w ↦ inr (omega (arith, w.if-h-set.true, power s))
    ]))

pub find_unbeaten-requires : goal.find_unbeaten-requires
unfolding Fair
find_unbeaten-requires c = (c.in-Some.ensures, tt)

pub returns : goal.returns
unfolding query_opens
returns c =
    let a = c.args in
    let s = c.in-Some.ensures in
    found-planned (λ d. unbeaten d (Chosen a.set)) (chosen_query a.set) s c.find_unbeaten.ensures c.plan_found.ensures
    (chosen-right a.m.now a.set c.if-set-eq0.false (omega (arith, c.if-h-set.false, power s)))
    (chosen-rows a.m.now a.set) (λ _. refl)

pub invariant_of-board : goal.invariant_of-board
invariant_of-board c = record { readable = held-readable c.in-Some.ensures; fits = λ k. omega (arith, c.type_inv.m k) }
