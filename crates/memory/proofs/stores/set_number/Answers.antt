-- `stores::set_number` meets its contract. Assumes nothing.
use Prim.Native.Nat.{ℕ}
use mathlib.Core.Path.{ap, ◌∙◌}
use Rattle.promises.specs.Layout.{set_word}
use Rattle.memory.specs.Stores.{set_number}
use Rattle.memory.proofs.stores.set_number.Goals as goal

pub returns : goal.returns
unfolding set_number
returns c =
    let a = c.args in
    c.set_word.ensures ∙ ap (λ (o : ℕ). set_word o a.number a.m.now) c.number_place.ensures
