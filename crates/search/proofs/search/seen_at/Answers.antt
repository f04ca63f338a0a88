-- `search::seen_at` meets its contract. Assumes nothing.
use mathlib.Core.Path.{ap, ◌∙◌}
use Rattle.zorder.specs.Address.{row_costs}
use Rattle.promises.specs.Layout.{costs_in}
use Rattle.search.specs.Search.{seen, seen_at}
use Rattle.search.proofs.search.seen_at.Goals as goal

pub returns : goal.returns
unfolding seen_at
returns c =
    let a = c.args in
    let b = a.b.now in
    c.seen.ensures
    ∙ ap (seen a.among) (c.words_of.ensures ∙ ap (costs_in b.head.size row_costs b.bytes.now) c.number_at.ensures.0)
