-- `enter::put_row` meets its contract. Assumes nothing.
use mathlib.Core.Path.{sym, ◌∙◌}
use Rattle.tree.specs.Laws.Putting.{put-over, put_under}
use Rattle.tree.proofs.enter.put_row.Goals as goal

pub returns-then-takes_over : goal.returns-then-takes_over
returns-then-takes_over c =
    put-over c.requires (sym c.takes_over.ensures.is ∙ c.if-takes_over.true)
    c.height_at-k.ensures c.set_height.ensures c.insert_row.ensures

pub returns-else-takes_over : goal.returns-else-takes_over
returns-else-takes_over c =
    put_under c.requires (sym c.takes_over.ensures.is ∙ c.if-takes_over.false) c.insert_row-else-takes_over.ensures
