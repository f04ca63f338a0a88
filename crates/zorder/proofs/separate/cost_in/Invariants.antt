-- `separate::cost_in` meets its contract. The loop's invariant: c, moved up past the bits to come, with these gives the cost.
-- Assumes nothing.
use Prim.Native.Nat.{ℕ}
use Rattle.zorder.specs.Address.{cost_from_bits}
use Rattle.zorder.proofs.Digits.{Whole}
use Rattle.zorder.proofs.separate.cost_in.Given as goal

abbrev pub invariant-loop-j : goal.invariant-loop-j
invariant-loop-j l = Whole 1 (λ (k : ℕ). cost_from_bits l.d l.e k l.a) 16 l.c l.j
