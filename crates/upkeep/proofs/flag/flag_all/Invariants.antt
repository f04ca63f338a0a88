-- `flag::flag_all` meets its contract. The loop's invariant: the flags of the places passed are right, and the corners are those
-- of the listed moves there. Assumes nothing.
use Prim.Native.Nat.{ℕ, ◌<◌}
use lib.ListN.{get_or}
use Rattle.upkeep.proofs.Flagging.{Flagging}
use Rattle.upkeep.proofs.flag.flag_all.Given as goal

abbrev pub invariant-loop-i : goal.invariant-loop-i
invariant-loop-i l = Flagging l.h l.initial.m l.m l.i l.corners × ((k : ℕ) → get_or l.m k 0 < 256)
