-- `hides` meets its contract. Assumes nothing.
use mathlib.Core.Bool.{Bool, not, ◌&&◌, ◌||◌}
use mathlib.Core.Path.{sym, ap, ap₂, ◌∙◌}
use lib.Dec.{ltb}
use Rattle.model.specs.Dominance.{less, lower_twin, hides}
use Rattle.dominance.specs.Laws.Sums.{test-number, exceeds-dominate-or-equal}
use Rattle.dominance.proofs.hides.Goals as goal

-- An array in a struct has its length.
pub returns : goal.returns
unfolding hides lower_twin less
returns c =
    let a = c.args in
    let lower = ap (ltb 0) c.less-lower.ensures ∙ test-number (ltb a.p.number a.q.number) in
    ap₂ (λ (s t : Bool). not s && t) c.exceeds.ensures (ap₂ ◌||◌ lower c.exceeds-2.ensures)
    ∙ exceeds-dominate-or-equal a.d a.p.costs a.q.costs (ltb a.p.number a.q.number) (c.well_formed.1.0.1.1.1.0.1.0.1 ∙ sym c.well_formed.1.1.0.1.1.1.0.1.0.1)
