-- `corners::region` meets its contract: its checks are those of the definition, in their order, and the corners' costs are the
-- first address's costs with their last bits filled. Assumes nothing.
use Prim.Native.Nat.{ℕ, ◌^◌, ◌≤◌}
use mathlib.Core.Bool.{Bool, true, false, ◌||◌}
use mathlib.Core.List.{List, map}
use mathlib.Core.Path.{◌≡◌, refl, sym, ap, ap₂, subst, ◌∙◌}
use native.Mathlib.Omega.{arith}
use lib.Dec.{ltb}
use lib.ListN.{take}
use lib.Pow.{pow_mono}
use Rattle.std.proofs.Common.{rules, Result, Ok, Err}
use Rattle.zorder.specs.Address.{costs_of, padded}
use Rattle.zorder.specs.Promise.{RegionPromise, RegionTold, refusal_number, number_of, detail_of}
use Rattle.zorder.specs.Refusal.{cost_count_bad, address_bad, region_refusal, refusal}
use Rattle.zorder.specs.Region.{unkept, zeros_below, ones_below, side}
use Rattle.zorder.specs.Words.{value}
use Rattle.zorder.specs.declared.Square.{Square}
use Rattle.zorder.specs.declared.refusal.Refusal.{Refusal}
use Rattle.zorder.specs.declared.refusal.Refusal.TheVariants.{BadCostCount, BadArgument}
use Rattle.zorder.proofs.Laws.Corners.{near-costs, far-costs}
use Rattle.zorder.proofs.Laws.Inverse.{costs_of-costs}
use Rattle.zorder.proofs.Laws.Refusal.{count-right, address-right}
use Rattle.zorder.proofs.Checks.{three-checks}
use Rattle.zorder.proofs.Row.{take-padded}
use Rattle.zorder.proofs.corners.region.Goals.{After-from-last, In_ok-check, In_ok-check-2, In_ok-check-3}
use Rattle.zorder.proofs.corners.region.Goals as goal

-- A refused call.
module _ (d a b : ℕ) (r : Result Square Refusal) where
  refused : (e : Refusal) → r ≡ Err e → refusal_number e ≡ region_refusal d a b → RegionPromise d a b r
  unfolding number_of detail_of
  refused e is number = subst (RegionPromise d a b) (sym is) (record { number = number; detail = refl; region = tt })

  bad-count : r ≡ Err BadCostCount → cost_count_bad d ≡ true → RegionPromise d a b r
  unfolding region_refusal refusal
  bad-count is bad = refused BadCostCount is (three-checks true (address_bad d a || address_bad d b) (ltb b a) bad refl refl)

  module _ (is : r ≡ Err BadArgument) (right : cost_count_bad d ≡ false) where
    bad-large : (address_bad d a || address_bad d b) ≡ true → RegionPromise d a b r
    unfolding region_refusal refusal
    bad-large bad = refused BadArgument is (three-checks false true (ltb b a) right bad refl)

    bad-order : (address_bad d a || address_bad d b) ≡ false → ltb b a ≡ true → RegionPromise d a b r
    unfolding region_refusal refusal
    bad-order good bad = refused BadArgument is (three-checks false false true right good bad)

-- What an accepted call tells.
module _
    (d a b u : ℕ)
    (row : List ℕ)
    (count : u ≡ unkept d a b)
    (costs : row ≡ padded d (costs_of d a))
  where
    corner : (f : ℕ → ℕ → ℕ) → padded d (map (f u) (take d row)) ≡ padded d (map (f (unkept d a b)) (costs_of d a))
    corner f =
        ap₂ (λ (n : ℕ) (cs : List ℕ). padded d (map (f n) cs)) count (ap (take d) costs ∙ take-padded d (costs_of d a) (costs_of-costs d a).count)

    told : (s : Square) → s.near ≡ padded d (map (zeros_below 1 u) (take d row)) → s.far ≡ padded d (map (ones_below 1 u) (take d row)) → s.side ≡ 2 ^ u → RegionTold d a b s
    unfolding side
    told s is-near is-far is-side =
        record {
          near = is-near ∙ corner (zeros_below 1) ∙ ap (padded d) (sym (near-costs d a b));
          far = is-far ∙ corner (ones_below 1) ∙ ap (padded d) (sym (far-costs d a b));
          side = is-side ∙ ap (λ (k : ℕ). 2 ^ k) count;
        }

accepted : (d a b : ℕ) (s : Square) → cost_count_bad d ≡ false → (address_bad d a || address_bad d b) ≡ false → ltb b a ≡ false → RegionTold d a b s
    → RegionPromise d a b (Ok s)
unfolding number_of detail_of region_refusal refusal
accepted d a b s right good ordered told = record { number = three-checks false false false right good ordered; detail = refl; region = told }

-- What the checks passed say.
right : (c : In_ok-check) → cost_count_bad c.args.d ≡ false
right c = sym c.cost_count_bad.ensures ∙ c.in_ok-check.ensures

few : (c : In_ok-check) → (2 ≤ c.args.d) × (c.args.d ≤ 8)
few c = count-right c.args.d (right c)

first-good : (c : In_ok-check-2) → address_bad c.args.d c.from-first.result ≡ false
first-good c = sym c.too_large.ensures ∙ c.in_ok-check-2.ensures

last-good : (c : In_ok-check-3) → address_bad c.args.d c.from-last.result ≡ false
last-good c = sym c.too_large-2.ensures ∙ c.in_ok-check-3.ensures

-- What is promised of the numbers is promised of the words.
of-words : (c : After-from-last) {r : Result Square Refusal} → RegionPromise c.args.d c.from-first.result c.from-last.result r
    → RegionPromise c.args.d (value c.args.a) (value c.args.b) r
of-words c {r} promise =
    let a = c.args in
    subst (λ (n : ℕ). RegionPromise a.d n (value a.b) r) c.from-first.ensures (subst (λ (n : ℕ). RegionPromise a.d c.from-first.result n r) c.from-last.ensures promise)

pub returns-in_err-check : goal.returns-in_err-check
returns-in_err-check c =
    of-words (goal.at.returns-in_err-check c).After-from-last (
    bad-count c.args.d c.from-first.result c.from-last.result c.from_residual.result (search rules) (sym c.cost_count_bad.ensures ∙ c.in_err-check.ensures.0)
    )

pub too_large-requires : goal.too_large-requires
too_large-requires c = (few c).1

pub returns-in_err-check-2 : goal.returns-in_err-check-2
returns-in_err-check-2 c =
    let d = c.args.d in
    let at = goal.at.returns-in_err-check-2 c in
    of-words at.After-from-last (
    bad-large d c.from-first.result c.from-last.result c.from_residual-in_err-check-2.result (search rules) (right at.In_ok-check)
    (ap (λ (t : Bool). t || address_bad d c.from-last.result) (sym c.too_large.ensures ∙ c.in_err-check-2.ensures.0))
    )

pub too_large-requires-2 : goal.too_large-requires-2
too_large-requires-2 c = (few (goal.at.too_large-requires-2 c).In_ok-check).1

pub returns-in_err-check-3 : goal.returns-in_err-check-3
returns-in_err-check-3 c =
    let at = goal.at.returns-in_err-check-3 c in
    of-words at.After-from-last (
    bad-large c.args.d c.from-first.result c.from-last.result c.from_residual-in_err-check-3.result (search rules) (right at.In_ok-check)
    (ap₂ ◌||◌ (first-good at.In_ok-check-2) (sym c.too_large-2.ensures ∙ c.in_err-check-3.ensures.0))
    )

pub returns-in_err-check-4 : goal.returns-in_err-check-4
returns-in_err-check-4 c =
    let at = goal.at.returns-in_err-check-4 c in
    of-words at.After-from-last (
    bad-order c.args.d c.from-first.result c.from-last.result c.from_residual-in_err-check-4.result (search rules) (right at.In_ok-check)
    (ap₂ ◌||◌ (first-good at.In_ok-check-2) (last-good at.In_ok-check-3))
    c.in_err-check-4.ensures.0
    )

pub unkept-u-requires : goal.unkept-u-requires
unkept-u-requires c =
    let d = c.args.d in
    let at = goal.at.unkept-u-requires c in
    let within = few at.In_ok-check in
    (omega arith, within.1, address-right d c.from-first.result (first-good at.In_ok-check-2), address-right d c.from-last.result (last-good at.In_ok-check-3))

pub separated-costs-requires : goal.separated-costs-requires
separated-costs-requires c = (few (goal.at.separated-costs-requires c).In_ok-check).1

pub near-requires : goal.near-requires
near-requires c = ((few (goal.at.near-requires c).In_ok-check).1, c.unkept-u.ensures.1)

pub far-requires : goal.far-requires
far-requires c = ((few (goal.at.far-requires c).In_ok-check).1, c.unkept-u.ensures.1)

pub returns : goal.returns
returns c =
    let d = c.args.d in
    let first = c.from-first.result in
    let last = c.from-last.result in
    let at = goal.at.returns c in
    let u = c.unkept-u in
    of-words at.After-from-last (
    accepted d first last _ (right at.In_ok-check)
    (ap₂ ◌||◌ (first-good at.In_ok-check-2) (last-good at.In_ok-check-3))
    c.in_ok-check-4.ensures
    (told d first last u.result c.separated-costs.result u.ensures.0 c.separated-costs.ensures _ c.near.ensures c.far.ensures (omega (arith, pow_mono u.ensures.1)))
    )
