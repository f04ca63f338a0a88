-- `blocks::open_blocks` meets its contract. The loop's invariant: the set has the open blocks of the entries passed. Assumes
-- nothing.
use Prim.Native.Nat.{◌-◌, ◌≤◌}
use Rattle.hours.specs.Laws.Blocks.{OpenTo}
use Rattle.hours.proofs.blocks.open_blocks.Given as goal

abbrev pub invariant-loop-k : goal.invariant-loop-k
invariant-loop-k l = (l.k ≤ l.n) × OpenTo l.minute l.hours l.k l.blocks

abbrev pub decreases-loop-k : goal.decreases-loop-k
decreases-loop-k l = l.n - l.k
