-- `columns::zero` meets its contract. Assumes nothing.
use Prim.Native.Nat.{ℕ, ◌-◌}
use mathlib.Core.Path.{ap, ◌∙◌}
use native.Mathlib.Omega.{arith}
use Rattle.model.specs.Dominance.{less}
use Rattle.model.proofs.Laws.Basics.{at_most_one}
use Rattle.search.specs.Laws.Columns.{zero_number}
use Rattle.search.proofs.columns.zero.Goals as goal

pub overflow_cast-result : goal.overflow_cast-result
overflow_cast-result c = omega (arith, c.less.ensures, at_most_one (less 0 c.args.a))

pub overflow_sub-result : goal.overflow_sub-result
overflow_sub-result c = omega (arith, c.less.ensures, at_most_one (less 0 c.args.a))

pub returns : goal.returns
returns c = ap (λ (k : ℕ). 1 - k) c.less.ensures ∙ zero_number c.args.a
