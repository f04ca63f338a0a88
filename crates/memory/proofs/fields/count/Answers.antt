-- `fields::count` meets its contract. Assumes nothing.
use borrow.Author.Rules.{rules}
use Rattle.promises.specs.Layout.{count_in}
use Rattle.memory.proofs.fields.count.Goals as goal

pub returns : goal.returns
unfolding count_in
returns c = search rules
