-- `separate::separated` meets its contract. The loop's invariant: the row holds the first i costs of the address.
-- Assumes nothing.
use mathlib.Core.Path.{◌≡◌}
use Rattle.zorder.specs.Address.{costs_of}
use Rattle.zorder.proofs.Fill.{filled}
use Rattle.zorder.proofs.separate.separated.Given as goal

abbrev pub invariant-loop-i : goal.invariant-loop-i
invariant-loop-i l = l.costs ≡ filled (costs_of l.d l.a) l.i
