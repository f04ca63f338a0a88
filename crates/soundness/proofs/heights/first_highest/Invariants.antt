-- `heights::first_highest` meets its contract. The loop's invariant: the rows passed are lower than the first. Assumes nothing.
use Prim.Native.Nat.{◌-◌}
use mathlib.Core.Bool.{true}
use mathlib.Core.Path.{◌≡◌}
use Rattle.memory.specs.Tests.{all_to}
use Rattle.soundness.specs.Laws.Levels.{lower_next}
use Rattle.soundness.proofs.heights.first_highest.Given as goal

abbrev pub invariant-loop-i : goal.invariant-loop-i
invariant-loop-i l = all_to (lower_next l.c l.m) (l.i - 1) ≡ true
