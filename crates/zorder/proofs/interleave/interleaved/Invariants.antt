-- `interleave::interleaved` meets its contract. The loop's invariant: a, with the groups to come, is the address. Assumes nothing.
use Prim.Native.Nat.{ℕ}
use lib.ListN.{take}
use Rattle.zorder.specs.Address.{groups}
use Rattle.zorder.proofs.Digits.{Whole}
use Rattle.zorder.proofs.interleave.interleaved.Given as goal

abbrev pub invariant-loop-j : goal.invariant-loop-j
invariant-loop-j l = Whole l.d (λ (k : ℕ). groups k (take l.d l.costs)) 16 l.a l.j
