use Prim.Native.Nat.{ℕ, ◌+◌, ◌*◌}
use mathlib.Core.Bool.{cond}
use mathlib.Core.Path.{ap, ap₂, ◌∙◌}
use native.Mathlib.Omega.{arith}
use lib.ListN.{get_or}
use Rattle.zorder.specs.Address.{row_costs}
use Rattle.model.specs.Dominance.{less}
use Rattle.dominance.specs.Sums.{count_less}
use Rattle.dominance.specs.Laws.Sums.{SumTo, sum-none, sum_more, sum-end, first_of, first_small, at-counted}
use Rattle.dominance.proofs.count_greater.Goals.{After-less_times-greater}
use Rattle.dominance.proofs.count_greater.Goals as goal

-- A turn's sum.
more : (c : After-less_times-greater)
    → let a = c.args in
    let own = c.loop-i in
    SumTo (first_of a.d) (first_small a.d) a.q a.p row_costs (own.i + 1) (own.greater + c.less_times-greater.result)
more c =
    let a = c.args in
    let own = c.loop-i in
    let told = c.less_times-greater.ensures ∙ ap (λ (k : ℕ). k * cond (less (get_or a.q own.i 0) (get_or a.p own.i 0)) 1 0) c.first_factor.ensures.0 in
    sum_more (first_of a.d) (first_small a.d) a.q a.p own.greater c.less_times-greater.result (omega arith) told own.invariant

pub loop-i-init : goal.loop-i-init
loop-i-init c = sum-none (first_of c.args.d) (first_small c.args.d) c.args.q c.args.p row_costs

pub loop-i-preserved : goal.loop-i-preserved
loop-i-preserved c = more c

pub returns : goal.returns
returns c =
    let a = c.args in
    let own = c.loop-i in
    sum-end (first_of a.d) (first_small a.d) a.q a.p row_costs own.i own.greater (omega arith) own.invariant
    ∙ ap₂ count_less (at-counted a.d a.q (omega arith) (omega arith)) (at-counted a.d a.p (omega arith) (omega arith))
