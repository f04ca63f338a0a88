-- `bytes::word` meets its contract. Assumes nothing.
use borrow.Author.Rules.{rules}
use Rattle.promises.specs.Layout.{word_at}
use Rattle.memory.proofs.bytes.word.Goals as goal

pub returns : goal.returns
unfolding word_at
returns c = search rules
