-- `bytes::set_word` meets its contract. Assumes nothing.
use borrow.Author.Rules.{rules}
use Rattle.promises.specs.Layout.{set_word}
use Rattle.memory.proofs.bytes.set_word.Goals as goal

pub returns : goal.returns
unfolding set_word
returns c = search rules
