use Prim.Native.Nat.{ℕ, ◌*◌}
use mathlib.Core.Bool.{cond}
use mathlib.Core.Path.{ap, ◌∙◌}
use native.Mathlib.Omega.{arith}
use lib.ListN.{get_or}
use Rattle.zorder.specs.Address.{row_costs}
use Rattle.model.specs.Dominance.{less, somewhere_less, at}
use Rattle.model.specs.Basics.{numbers_from}
use mathlib.Core.List.{List}
use Rattle.model.proofs.Laws.Basics.{at_most_one}
use Rattle.dominance.specs.Laws.Sums.{or-none, or-more, or-end}
use Rattle.dominance.specs.Laws.Tests.{factor_of, factor-small, counted-test}
use Rattle.dominance.proofs.any_greater.Goals as goal

pub loop-i-init : goal.loop-i-init
loop-i-init g c = or-none (factor_of g.test) (factor-small g.test) c.args.q c.args.p row_costs

pub less_times-greater-requires : goal.less_times-greater-requires
less_times-greater-requires g c =
    let i = c.loop-i.i in
    let factor = c.requires.1.1 i c.factor.result c.loop-i-test.true c.factor.ensures in
    omega (arith, factor, at_most_one (g.test i))

pub loop-i-preserved : goal.loop-i-preserved
loop-i-preserved g c =
    let a = c.args in
    let own = c.loop-i in
    let factor = c.requires.1.1 own.i c.factor.result c.loop-i-test.true c.factor.ensures in
    let told = c.less_times-greater.ensures ∙ ap (λ (k : ℕ). k * cond (less (get_or a.q own.i 0) (get_or a.p own.i 0)) 1 0) factor in
    or-more (factor_of g.test) (factor-small g.test) a.q a.p own.greater c.less_times-greater.result c.loop-i-test.true told own.invariant

pub returns : goal.returns
returns g c =
    let a = c.args in
    or-end (factor_of g.test) (factor-small g.test) a.q a.p row_costs c.loop-i.i c.loop-i.greater (omega arith) c.loop-i.invariant
    ∙ ap (λ (s : List ℕ). somewhere_less (at s a.q) (at s a.p)) (counted-test g.test (numbers_from 0 row_costs))
