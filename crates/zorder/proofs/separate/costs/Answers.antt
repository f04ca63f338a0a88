-- `separate::costs` meets its contract: its checks are those of the definition, in their order. Assumes nothing.
use Prim.Native.Nat.{ℕ}
use mathlib.Core.Bool.{true, false}
use mathlib.Core.List.{List}
use mathlib.Core.Path.{◌≡◌, refl, sym, ap, subst, ◌∙◌}
use Rattle.std.proofs.Common.{rules, Result, Ok, Err}
use Rattle.zorder.specs.Address.{costs_of, padded}
use Rattle.zorder.specs.Promise.{CostsPromise, refusal_number, number_of, detail_of}
use Rattle.zorder.specs.Refusal.{cost_count_bad, address_bad, costs_refusal, refusal}
use Rattle.zorder.specs.Words.{value}
use Rattle.zorder.specs.declared.refusal.Refusal.{Refusal}
use Rattle.zorder.specs.declared.refusal.Refusal.TheVariants.{BadCostCount, BadArgument}
use Rattle.zorder.proofs.Laws.Refusal.{count-right}
use Rattle.zorder.proofs.Checks.{two-checks}
use Rattle.zorder.proofs.separate.costs.Goals.{In_ok-check}
use Rattle.zorder.proofs.separate.costs.Goals as goal

module _ (d a : ℕ) (r : Result (List ℕ) Refusal) where
  refused : (e : Refusal) → r ≡ Err e → refusal_number e ≡ costs_refusal d a → CostsPromise d a r
  unfolding number_of detail_of
  refused e is number = subst (CostsPromise d a) (sym is) (record { number = number; detail = refl; costs = tt })

  bad-count : r ≡ Err BadCostCount → cost_count_bad d ≡ true → CostsPromise d a r
  unfolding costs_refusal refusal
  bad-count is bad = refused BadCostCount is (two-checks true (address_bad d a) bad refl)

  bad-address : r ≡ Err BadArgument → cost_count_bad d ≡ false → address_bad d a ≡ true → CostsPromise d a r
  unfolding costs_refusal refusal
  bad-address is right bad = refused BadArgument is (two-checks false true right bad)

accepted : (d a : ℕ) (cs : List ℕ) → cost_count_bad d ≡ false → address_bad d a ≡ false → cs ≡ padded d (costs_of d a) → CostsPromise d a (Ok cs)
unfolding number_of detail_of costs_refusal refusal
accepted d a cs right good told = record { number = two-checks false false right good; detail = refl; costs = told }

right : (c : In_ok-check) → cost_count_bad c.args.d ≡ false
right c = sym c.cost_count_bad.ensures ∙ c.in_ok-check.ensures

pub returns-in_err-check : goal.returns-in_err-check
returns-in_err-check c =
    let a = c.args in
    bad-count a.d (value a.address) c.from_residual.result (search rules) (sym c.cost_count_bad.ensures ∙ c.in_err-check.ensures.0)

pub too_large-requires : goal.too_large-requires
too_large-requires c = (count-right c.args.d (right c)).1

pub returns-in_err-check-2 : goal.returns-in_err-check-2
returns-in_err-check-2 c =
    let a = c.args in
    bad-address a.d (value a.address) c.from_residual-in_err-check-2.result (search rules) (right (goal.at.returns-in_err-check-2 c).In_ok-check)
    (sym (c.too_large.ensures ∙ ap (address_bad a.d) c.from-a.ensures) ∙ c.in_err-check-2.ensures.0)

pub separated-requires : goal.separated-requires
separated-requires c = (count-right c.args.d (right (goal.at.separated-requires c).In_ok-check)).1

pub returns : goal.returns
returns c =
    let a = c.args in
    accepted a.d (value a.address) c.separated.result (right (goal.at.returns c).In_ok-check)
    (sym (c.too_large.ensures ∙ ap (address_bad a.d) c.from-a.ensures) ∙ c.in_ok-check-2.ensures)
    (c.separated.ensures ∙ ap (λ (n : ℕ). padded a.d (costs_of a.d n)) c.from-a.ensures)
