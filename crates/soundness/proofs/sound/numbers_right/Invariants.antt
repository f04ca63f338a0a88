-- `sound::numbers_right` meets its contract. The loop's invariant: the numbers passed are below C, and their blocks in range. Assumes nothing.
use mathlib.Core.Bool.{true}
use mathlib.Core.Path.{◌≡◌}
use Rattle.memory.specs.Tests.{numbers_right}
use Rattle.soundness.proofs.sound.numbers_right.Given as goal

abbrev pub invariant-loop-i : goal.invariant-loop-i
invariant-loop-i l = numbers_right l.c l.i l.m ≡ true
