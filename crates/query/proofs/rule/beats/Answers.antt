-- `rule::beats` meets its contract, rule by rule. Assumes nothing.
use mathlib.Core.Path.{sym, ap, ◌∙◌, subst}
use native.Mathlib.Omega.{arith}
use Rattle.query.specs.Rule as spec
use Rattle.query.specs.declared.rule.Rule.{Rule}
use Rattle.query.proofs.rule.beats.Goals as goal

pub dominates_on-requires : goal.dominates_on-requires
unfolding spec.Fair
dominates_on-requires c = (omega arith, subst spec.Fair c.in-OnK.is c.requires.1)

pub returns-in-OnK : goal.returns-in-OnK
unfolding spec.beats
returns-in-OnK c =
    let a = c.args in
    c.dominates_on.ensures ∙ ap (λ (r : Rule). spec.beats a.d r a.p a.q) (sym c.in-OnK.is)

pub returns-in-Chosen : goal.returns-in-Chosen
unfolding spec.beats
returns-in-Chosen c =
    let a = c.args in
    c.dominates_at.ensures ∙ ap (λ (r : Rule). spec.beats a.d r a.p a.q) (sym c.in-Chosen.is)
