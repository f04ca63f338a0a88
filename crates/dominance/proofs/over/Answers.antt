-- `over` meets its contract. Assumes nothing.
use Prim.Native.Nat.{ℕ}
use mathlib.Core.Bool.{Bool, cond}
use mathlib.Core.Path.{◌≡◌, ap, ◌∙◌}
use native.Mathlib.Omega.{arith}
use lib.Dec.{eqb}
use Rattle.model.specs.Dominance.{less}
use Rattle.dominance.specs.Laws.Lanes.{factor-test, over-number}
use Rattle.dominance.proofs.over.Goals.{After-choose}
use Rattle.dominance.proofs.over.Goals as goal

chosen : (c : After-choose) → c.choose.result ≡ cond (less c.args.b c.args.a) c.args.a c.args.b
chosen c =
    let x = c.args in
    let pick : Bool → ℕ = λ t. cond t x.a x.b in
    c.choose.ensures ∙ ap (λ (k : ℕ). pick (eqb k 1)) c.less.ensures ∙ ap pick (factor-test (less x.b x.a))

pub overflow_sub-result : goal.overflow_sub-result
overflow_sub-result c = let x = c.args in omega (arith, chosen c, (over-number x.a x.b).0)

pub returns : goal.returns
returns c = let x = c.args in omega (arith, chosen c, (over-number x.a x.b).1)
