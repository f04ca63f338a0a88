-- `fields::size` meets its contract. Assumes nothing.
use borrow.Author.Rules.{rules}
use Rattle.promises.specs.Layout.{size_in}
use Rattle.memory.proofs.fields.size.Goals as goal

pub returns : goal.returns
unfolding size_in
returns c = search rules
