use mathlib.Core.Path.{ap₂, ◌∙◌}
use native.Mathlib.Omega.{arith}
use Rattle.model.specs.Dominance.{somewhere_less}
use Rattle.dominance.specs.Laws.Tests.{at-selected}
use Rattle.dominance.proofs.exceeds.Goals as goal

pub returns : goal.returns
returns c =
    let a = c.args in
    c.any_greater.ensures
    ∙ ap₂ somewhere_less (at-selected a.d a.q (omega arith) (omega arith)) (at-selected a.d a.p (omega arith) (omega arith))
