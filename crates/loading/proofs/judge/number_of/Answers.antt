-- `judge::number_of` meets its contract: what is known of the row is what its type says. Assumes nothing.
use mathlib.Core.Path.{refl}
use Rattle.promises.specs.Answers.{input_row}
use Rattle.loading.proofs.Judging.{input-held}
use Rattle.loading.proofs.judge.number_of.Goals as goal

pub returns : goal.returns
unfolding input_row
returns c = (refl, input-held c.well_formed.0)
