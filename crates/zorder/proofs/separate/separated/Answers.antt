use Prim.Native.Nat.{ℕ, zero, suc, ◌-◌, ◌<◌}
use mathlib.Core.List.{List}
use mathlib.Core.Path.{◌≡◌, sym, ap, ap₂, ◌∙◌}
use native.Mathlib.Nat.{le_of_suc-le-suc}
use native.Mathlib.Omega.{arith}
use lib.ListN.{length, get_or, set}
use Rattle.zorder.specs.Address.{cost_from_bits, costs_from, costs_of}
use Rattle.zorder.proofs.Laws.Inverse.{costs_of-costs}
use Rattle.zorder.proofs.Fill.{filled, filled_none, filled_more, filled-all}
use Rattle.zorder.proofs.separate.separated.Goals as goal

cost-at : (d n i a : ℕ) → i < n → get_or (costs_from d n a) i 0 ≡ cost_from_bits d (n - 1 - i) 16 a
unfolding costs_from
cost-at d zero i a h = absurd (omega arith)
cost-at d (suc n) zero a h = ap (λ (e : ℕ). cost_from_bits d e 16 a) (omega arith)
cost-at d (suc n) (suc i) a h = cost-at d n i a (le_of_suc-le-suc h) ∙ ap (λ (e : ℕ). cost_from_bits d e 16 a) (omega arith)

pub loop-i-init : goal.loop-i-init
loop-i-init c = filled_none (costs_of c.args.d c.args.a)

pub loop-i-preserved : goal.loop-i-preserved
unfolding costs_of
loop-i-preserved c =
    let a = c.args in
    let own = c.loop-i in
    let t : List ℕ = costs_of a.d a.a in
    let count : length t ≡ a.d = (costs_of-costs a.d a.a).count in
    ap₂ (λ (row : List ℕ) (v : ℕ). set row own.i v) own.invariant (c.cost_in.ensures ∙ sym (cost-at a.d a.d own.i a.a c.loop-i-test.true))
    ∙ filled_more t own.i 0 (omega arith) (omega arith)

pub returns : goal.returns
returns c =
    let a = c.args in
    let own = c.loop-i in
    let t : List ℕ = costs_of a.d a.a in
    let all : own.i ≡ a.d = omega arith in
    own.invariant ∙ ap (filled t) all ∙ filled-all t a.d (costs_of-costs a.d a.a).count
