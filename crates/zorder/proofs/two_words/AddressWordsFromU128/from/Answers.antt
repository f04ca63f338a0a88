-- A number as two words. Assumes nothing.
use mathlib.Core.Path.{refl}
use Rattle.zorder.specs.Words.{words_of}
use Rattle.zorder.proofs.two_words.AddressWordsFromU128.from.Goals as goal

pub returns : goal.returns
unfolding words_of
returns c = refl
