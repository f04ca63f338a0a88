-- `fields::move_at` meets its contract. Assumes nothing.
use Prim.Native.Nat.{ℕ}
use mathlib.Core.List.{List}
use mathlib.Core.Path.{ap, ap₂, ◌∙◌}
use Rattle.model.specs.Moves.{Move}
use Rattle.promises.specs.Layout.{costs_in, move_in}
use Rattle.memory.proofs.fields.move_at.Goals as goal

pub returns : goal.returns
unfolding move_in
returns c =
    let a = c.args in
    let number = c.number_at-number.ensures in
    let made : ℕ → List ℕ → Move = λ n cs. record { number = n; costs = cs } in
    ap₂ made number (c.costs_of.ensures ∙ ap (costs_in a.c a.d a.m.now) number)
