-- `judge::block_of` meets its contract. Assumes nothing.
use mathlib.Core.Path.{refl}
use Rattle.promises.specs.Answers.{input_row}
use Rattle.loading.proofs.judge.block_of.Goals as goal

pub returns : goal.returns
unfolding input_row
returns c = refl
