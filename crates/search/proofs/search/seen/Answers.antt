-- `search::seen` meets its contract. Assumes nothing.
use mathlib.Core.Path.{sym, ap, ◌∙◌}
use mathlib.Core.Logic.{inl, inr}
use Rattle.search.specs.Search.{seen}
use Rattle.search.specs.Laws.Search.{lanes-tab}
use Rattle.search.specs.declared.search.Among.{Among}
use Rattle.search.proofs.search.seen.Goals as goal

pub returns-in-All : goal.returns-in-All
unfolding seen
returns-in-All c = elim c.in-All.is [
  | inl is ↦ sym (ap (λ (l : Among). seen l c.args.costs) is)
  | inr rest ↦ elim rest [
    | inl is ↦ sym (ap (λ (l : Among). seen l c.args.costs) is)
    | inr found ↦ sym (ap (λ (l : Among). seen l c.args.costs) found.1)
  ]
]

pub returns-in-Hidden : goal.returns-in-Hidden
unfolding seen
returns-in-Hidden c = lanes-tab c.from_above.ensures ∙ sym (ap (λ (l : Among). seen l c.args.costs) c.in-Hidden.is)
