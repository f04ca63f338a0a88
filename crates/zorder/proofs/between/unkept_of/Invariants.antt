-- `between::unkept_of` meets its contract. The loop's invariant: from each bit on, what differs so far is 0 where the costs
-- passed agree from that bit on. Assumes nothing.
use Prim.Native.Nat.{ℕ, ◌/◌, ◌^◌, ◌<◌}
use mathlib.Core.List.{List}
use mathlib.Core.Logic.{◌↔◌}
use mathlib.Core.Path.{◌≡◌}
use lib.ListN.{get_or}
use Rattle.zorder.proofs.between.unkept_of.Given as goal

-- The first i costs of two rows agree from bit k on.
abbrev pub Alike : ℕ → ℕ → List ℕ → List ℕ → Type 0
Alike k i p q = (n : ℕ) → n < i → get_or p n 0 / 2 ^ k ≡ get_or q n 0 / 2 ^ k

abbrev pub invariant-loop-i : goal.invariant-loop-i
invariant-loop-i l =
    (l.differing < 2 ^ 16) × ((k : ℕ) → (l.differing / 2 ^ k ≡ 0) ↔ Alike k l.i l.p l.q)
