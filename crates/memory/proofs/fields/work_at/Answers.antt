-- `fields::work_at` meets its contract. Assumes nothing.
use Prim.Native.Nat.{ℕ}
use mathlib.Core.Path.{ap, ◌∙◌}
use Rattle.promises.specs.Layout.{word_at, work_in}
use Rattle.memory.proofs.fields.work_at.Goals as goal

pub returns : goal.returns
unfolding work_in
returns c = c.word.ensures ∙ ap (λ (o : ℕ). word_at o c.args.m.now) c.work_place.ensures
