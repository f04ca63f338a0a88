-- `sound::order_right` meets its contract. The loop's invariant: the moves passed stand in order. Assumes nothing.
use Prim.Native.Nat.{◌-◌, ◌≤◌}
use mathlib.Core.Bool.{true}
use mathlib.Core.Path.{◌≡◌}
use Rattle.memory.specs.Tests.{order_right}
use Rattle.soundness.proofs.sound.order_right.Given as goal

abbrev pub invariant-loop-i : goal.invariant-loop-i
invariant-loop-i l = (l.i - 1 ≤ l.i-end - 1) × (order_right l.b.head.size l.b.head.dimension l.i l.b.bytes.now ≡ true)
