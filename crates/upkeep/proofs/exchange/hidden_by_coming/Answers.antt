-- `exchange::hidden_by_coming` meets its contract. Assumes nothing.
use Rattle.std.proofs.Common.{rules}
use Rattle.upkeep.specs.Change.{hidden_by_coming}
use Rattle.upkeep.proofs.exchange.hidden_by_coming.Goals as goal

pub returns : goal.returns
unfolding hidden_by_coming
returns c = search rules
