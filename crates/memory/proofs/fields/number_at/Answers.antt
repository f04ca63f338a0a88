-- `fields::number_at` meets its contract. Assumes nothing.
use Prim.Native.Nat.{ℕ}
use mathlib.Core.Path.{ap, ◌∙◌}
use Rattle.promises.specs.Layout.{word_at, number_in}
use Rattle.memory.proofs.fields.number_at.Goals as goal

pub returns : goal.returns
unfolding number_in
returns c = c.word.ensures ∙ ap (λ (o : ℕ). word_at o c.args.m.now) c.number_place.ensures
