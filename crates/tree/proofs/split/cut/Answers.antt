-- `split::cut` meets its contract. Assumes nothing.
use mathlib.Core.Path.{sym, ◌∙◌}
use Rattle.tree.specs.Laws.Cascade.{cut_below, cut-root}
use Rattle.tree.proofs.split.cut.Goals as goal

pub returns-then-top-l : goal.returns-then-top-l
returns-then-top-l c =
    let place = c.cut_place-q in
    let top = c.height_at-top in
    cut-root c.requires place.ensures c.set_height.ensures
    c.set_height-then-top-l.ensures (sym top.ensures ∙ c.if-top-l.true)

pub returns-else-top-l : goal.returns-else-top-l
returns-else-top-l c =
    let place = c.cut_place-q in
    let top = c.height_at-top in
    cut_below c.requires place.ensures c.set_height.ensures (λ e. c.if-top-l.false (top.ensures ∙ e))
