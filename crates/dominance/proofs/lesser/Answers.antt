-- `lesser` meets its contract. Assumes nothing.
use mathlib.Core.List.{[], ◌∷◌}
use native.Mathlib.Omega.{arith}
use Rattle.dominance.specs.Laws.Lanes.{lesser-number}
use Rattle.dominance.proofs.lesser.Goals as goal

pub returns : goal.returns
returns c = omega (arith, c.over.ensures, lesser-number (c.args.a ∷ []) (c.args.b ∷ []) 0)
