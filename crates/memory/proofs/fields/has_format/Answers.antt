-- `fields::has_format` meets its contract. Assumes nothing.
use borrow.Author.Rules.{rules}
use Rattle.promises.specs.Layout.{format_in}
use Rattle.memory.proofs.fields.has_format.Goals as goal

pub returns : goal.returns
unfolding format_in
returns c = search rules
