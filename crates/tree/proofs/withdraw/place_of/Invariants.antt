-- `withdraw::place_of` meets its contract. The loop's invariant: no row before place p has the number. Assumes nothing.
use Prim.Native.Nat.{ℕ, ◌<◌}
use mathlib.Core.Logic.{◌≢◌}
use Rattle.promises.specs.Layout.{number_in}
use Rattle.tree.proofs.withdraw.place_of.Given as goal

abbrev pub invariant-loop-p : goal.invariant-loop-p
invariant-loop-p l = (k : ℕ) → k < l.p → number_in l.c l.m k ≢ l.number
