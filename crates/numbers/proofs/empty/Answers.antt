-- `empty` meets its contract. Assumes nothing.
use Prim.Native.Nat.{ℕ, ◌/◌, ◌%◌, ◌^◌}
use mathlib.Core.Path.{ap, ◌∙◌}
use native.Mathlib.Nat.{zero-div}
use lib.Dec.{eqb}
use Rattle.zorder.proofs.Laws.Between.{get_or-zeros}
use Rattle.numbers.specs.Set.{in_set}
use Rattle.numbers.proofs.empty.Goals as goal

pub returns : goal.returns
unfolding in_set
returns c n =
    ap (λ (w : ℕ). eqb (w / 2 ^ (n % 64) % 2) 1) (get_or-zeros 64 (n / 64))
    ∙ ap (λ (w : ℕ). eqb (w % 2) 1) (zero-div (2 ^ (n % 64)))
