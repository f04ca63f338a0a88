-- `rule::dominates_on` meets its contract. Assumes nothing.
use Prim.Native.Nat.{ℕ, ◌-◌}
use mathlib.Core.Bool.{Bool, ◌&&◌}
use mathlib.Core.Path.{ap₂, ◌∙◌}
use native.Mathlib.Omega.{arith}
use lib.Dec.{leb}
use lib.ListN.{take}
use lib.Seq.{length-take-le}
use Rattle.dominance.specs.Laws.Sums.{count-few}
use Rattle.query.specs.Laws.Rule.{count-on-k}
use Rattle.query.proofs.rule.dominates_on.Goals as goal

pub overflow_sub-result : goal.overflow_sub-result
overflow_sub-result c =
    let a = c.args in
    omega (arith, c.count_greater-greater.ensures, count-few (take a.d a.q) (take a.d a.p), length-take-le a.d a.q (omega arith))

pub returns : goal.returns
returns c =
    let a = c.args in
    ap₂ (λ (n : ℕ) (b : Bool). leb a.k (a.d - n) && b) c.count_greater-greater.ensures c.exceeds.ensures
    ∙ count-on-k a.p a.q a.d (omega arith) (omega arith) a.k (omega arith)
