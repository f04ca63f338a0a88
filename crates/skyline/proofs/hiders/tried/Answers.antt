-- `hiders::tried` meets its contract. Assumes nothing.
use mathlib.Core.Path.{sym, ◌∙◌}
use Rattle.search.specs.Laws.Search.{tried-found}
use Rattle.skyline.proofs.hiders.tried.Goals as goal

pub returns-then-k-i : goal.returns-then-k-i
returns-then-k-i c = λ e. tried-found c.if-k-i.true (sym c.fits_at.ensures ∙ e)
