-- `interleave::address` meets its contract: its checks are those of the definition, in their order. Assumes nothing.
use Prim.Native.Nat.{ℕ}
use mathlib.Core.Bool.{true, false, not}
use mathlib.Core.List.{List}
use mathlib.Core.Path.{◌≡◌, refl, sym, ap, subst, ◌∙◌}
use Rattle.std.proofs.Common.{rules, Result, Ok, Err}
use Rattle.zorder.specs.Address as definition
use Rattle.zorder.specs.Promise.{AddressPromise, refusal_number, number_of, detail_of}
use Rattle.zorder.specs.Refusal.{cost_count_bad, cost_past_bad, address_refusal, refusal}
use Rattle.zorder.specs.Words.{words_of}
use Rattle.zorder.specs.declared.AddressWords.{AddressWords}
use Rattle.zorder.specs.declared.refusal.Refusal.{Refusal}
use Rattle.zorder.specs.declared.refusal.Refusal.TheVariants.{BadCostCount, BadArgument}
use Rattle.zorder.proofs.Laws.Refusal.{count-right}
use Rattle.zorder.proofs.Checks.{two-checks}
use Rattle.zorder.proofs.interleave.address.Goals.{In_ok-check}
use Rattle.zorder.proofs.interleave.address.Goals as goal

module _ (d : ℕ) (costs : List ℕ) (r : Result AddressWords Refusal) where
  refused : (e : Refusal) → r ≡ Err e → refusal_number e ≡ address_refusal d costs → AddressPromise d costs r
  unfolding number_of detail_of
  refused e is number = subst (AddressPromise d costs) (sym is) (record { number = number; detail = refl; address = tt })

  bad-count : r ≡ Err BadCostCount → cost_count_bad d ≡ true → AddressPromise d costs r
  unfolding address_refusal refusal
  bad-count is bad = refused BadCostCount is (two-checks true (cost_past_bad d costs) bad refl)

  bad-past : r ≡ Err BadArgument → cost_count_bad d ≡ false → cost_past_bad d costs ≡ true → AddressPromise d costs r
  unfolding address_refusal refusal
  bad-past is right bad = refused BadArgument is (two-checks false true right bad)

accepted : (d : ℕ) (costs : List ℕ) (a : AddressWords) → cost_count_bad d ≡ false → cost_past_bad d costs ≡ false → a ≡ words_of (definition.address d costs) → AddressPromise d costs (Ok a)
unfolding number_of detail_of address_refusal refusal
accepted d costs a right good told = record { number = two-checks false false right good; detail = refl; address = told }

right : (c : In_ok-check) → cost_count_bad c.args.d ≡ false
right c = sym c.cost_count_bad.ensures ∙ c.in_ok-check.ensures

pub returns-in_err-check : goal.returns-in_err-check
returns-in_err-check c =
    bad-count c.args.d c.args.costs c.from_residual.result (search rules) (sym c.cost_count_bad.ensures ∙ c.in_err-check.ensures.0)

pub zero_past-requires : goal.zero_past-requires
zero_past-requires c = (count-right c.args.d (right c)).1

pub returns-in_err-check-2 : goal.returns-in_err-check-2
unfolding cost_past_bad
returns-in_err-check-2 c =
    let a = c.args in
    bad-past a.d a.costs c.from_residual-in_err-check-2.result (search rules) (right (goal.at.returns-in_err-check-2 c).In_ok-check)
    (ap not (sym c.zero_past.ensures) ∙ c.in_err-check-2.ensures.0)

pub interleaved-requires : goal.interleaved-requires
interleaved-requires c =
    (count-right c.args.d (right (goal.at.interleaved-requires c).In_ok-check)).1

pub returns : goal.returns
unfolding cost_past_bad
returns c =
    let a = c.args in
    accepted a.d a.costs c.from.result (right (goal.at.returns c).In_ok-check)
    (ap not (sym c.zero_past.ensures) ∙ c.in_ok-check-2.ensures)
    (c.from.ensures ∙ ap words_of c.interleaved.ensures)
