-- `withdraw::close_gap` meets its contract. Assumes nothing.
use Rattle.tree.specs.Laws.Gap.{closed}
use Rattle.tree.proofs.withdraw.close_gap.Goals as goal

pub returns : goal.returns
returns c =
    closed c.requires c.lower.ensures c.lower-2.ensures
