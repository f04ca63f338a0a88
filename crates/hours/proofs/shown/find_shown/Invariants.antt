-- `shown::find_shown` meets its contract. The loop's invariant: of the moves passed those shown are found. Assumes nothing.
use Prim.Native.Nat.{ℕ}
use mathlib.Core.Bool.{Bool}
use mathlib.Core.List.{List}
use Rattle.memory.specs.declared.head.Head.{Head}
use Rattle.upkeep.specs.Found.{move_of}
use Rattle.upkeep.specs.Laws.Found.{FindsTo}
use Rattle.hours.specs.Open.{shown_in}
use Rattle.hours.proofs.shown.find_shown.Given as goal

-- Whether the move of a number is shown.
abbrev pub test : Head → ℕ → List ℕ → ℕ → Bool
test h blocks m k = shown_in h blocks m (move_of h.size h.dimension m k)

abbrev pub invariant-loop-i : goal.invariant-loop-i
invariant-loop-i l = FindsTo l.b.head.size l.b.bytes.now (test l.b.head l.blocks l.b.bytes.now) l.initial.numbers l.i l.numbers l.count
