-- `greater` meets its contract. Assumes nothing.
use mathlib.Core.List.{[], ◌∷◌}
use native.Mathlib.Omega.{arith}
use Rattle.dominance.specs.Laws.Lanes.{greater-number}
use Rattle.dominance.proofs.greater.Goals as goal

pub returns : goal.returns
returns c = omega (arith, c.over.ensures, greater-number (c.args.a ∷ []) (c.args.b ∷ []) 0)
