-- `unbeaten::find_unbeaten` meets its contract. The loop's invariant: of the moves passed those that none beats are found.
-- Assumes nothing.
use Prim.Native.Nat.{ℕ}
use mathlib.Core.Bool.{Bool}
use mathlib.Core.List.{List}
use Rattle.memory.specs.declared.head.Head.{Head}
use Rattle.upkeep.specs.Found.{move_of}
use Rattle.upkeep.specs.Laws.Found.{FindsTo}
use Rattle.query.specs.Unbeaten.{unbeaten_of}
use Rattle.query.specs.declared.rule.Rule.{Rule}
use Rattle.query.proofs.unbeaten.find_unbeaten.Given as goal

-- Whether the move of a number is not beaten.
abbrev pub test : Head → Rule → List ℕ → ℕ → Bool
test h rule m k = unbeaten_of h rule m (move_of h.size h.dimension m k)

abbrev pub invariant-loop-i : goal.invariant-loop-i
invariant-loop-i l = FindsTo l.b.head.size l.b.bytes.now (test l.b.head l.rule l.b.bytes.now) l.initial.numbers l.i l.numbers l.count
