-- `stores::set_count` meets its contract. Assumes nothing.
use borrow.Author.Rules.{rules}
use Rattle.memory.specs.Stores.{set_count}
use Rattle.memory.proofs.stores.set_count.Goals as goal

pub returns : goal.returns
unfolding set_count
returns c = search rules
