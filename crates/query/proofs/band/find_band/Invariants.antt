-- `band::find_band` meets its contract. The loop's invariant: of the moves passed those in the band are found. Assumes nothing.
use Prim.Native.Nat.{ℕ}
use mathlib.Core.Bool.{Bool}
use mathlib.Core.List.{List}
use Rattle.memory.specs.declared.head.Head.{Head}
use Rattle.upkeep.specs.Found.{move_of}
use Rattle.upkeep.specs.Laws.Found.{FindsTo}
use Rattle.query.specs.Band.{band_of}
use Rattle.query.proofs.band.find_band.Given as goal

-- Whether the move of a number is in the band.
abbrev pub test : Head → ℕ → List ℕ → ℕ → Bool
test h most m k = band_of h most m (move_of h.size h.dimension m k)

abbrev pub invariant-loop-i : goal.invariant-loop-i
invariant-loop-i l = FindsTo l.b.head.size l.b.bytes.now (test l.b.head l.most l.b.bytes.now) l.initial.numbers l.i l.numbers l.count
