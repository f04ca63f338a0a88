-- `less_times` meets its contract. Assumes nothing.
use mathlib.Core.Path.{◌∙◌}
use native.Mathlib.Omega.{arith}
use Rattle.dominance.specs.Laws.Sums.{less-times}
use Rattle.dominance.proofs.less_times.Goals as goal

pub returns : goal.returns
returns c =
    let x = c.args in
    c.less.ensures ∙ less-times x.factor x.a x.b (omega arith)
