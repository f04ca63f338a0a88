-- `interleave::group` meets its contract. The loop's invariant: g is the group of the costs passed. Assumes nothing.
use mathlib.Core.Path.{◌≡◌}
use lib.ListN.{take}
use Rattle.zorder.specs.Address.{group}
use Rattle.zorder.proofs.interleave.group.Given as goal

abbrev pub invariant-loop-c : goal.invariant-loop-c
invariant-loop-c l = l.g ≡ group l.j (take l.c-index l.c-items)
