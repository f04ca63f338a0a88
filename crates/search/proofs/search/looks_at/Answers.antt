-- `search::looks_at` meets its contract. Assumes nothing.
use mathlib.Core.Path.{ap, ◌∙◌}
use Rattle.search.specs.Search.{looks, looks_at}
use Rattle.search.proofs.search.looks_at.Goals as goal

pub returns : goal.returns
unfolding looks_at
returns c =
    let a = c.args in
    let b = a.b.now in
    c.looks.ensures ∙ ap (looks a.among b.head.size b.bytes.now) c.number_at.ensures.0
