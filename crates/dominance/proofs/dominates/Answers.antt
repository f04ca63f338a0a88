-- `dominates` meets its contract. Assumes nothing.
use mathlib.Core.Bool.{Bool, not, ◌&&◌}
use mathlib.Core.Path.{ap₂, ◌∙◌}
use Rattle.dominance.specs.Laws.Sums.{exceeds-dominate}
use Rattle.dominance.proofs.dominates.Goals as goal

pub returns : goal.returns
returns c =
    let a = c.args in
    ap₂ (λ (s t : Bool). not s && t) c.exceeds.ensures c.exceeds-2.ensures ∙ exceeds-dominate a.d a.p a.q
