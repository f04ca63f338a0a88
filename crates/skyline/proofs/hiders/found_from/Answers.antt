-- `hiders::found_from` meets its contract. Assumes nothing.
use Rattle.search.specs.Laws.Search.{first-found}
use Rattle.skyline.proofs.hiders.found_from.Goals as goal

pub returns : goal.returns
returns c = first-found c.next_within.ensures
