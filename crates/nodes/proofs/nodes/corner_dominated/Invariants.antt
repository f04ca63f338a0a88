-- `nodes::corner_dominated` meets its contract. The loop's invariant: no listed move passed but the going one dominates the
-- corner, and a place found fits. Assumes nothing.
use Prim.Native.Nat.{◌-◌, ◌<◌}
use Rattle.std.specs.Prelude.{unwrap_or, IfSome}
use Rattle.nodes.specs.Laws.Corners.{Sought}
use Rattle.nodes.proofs.nodes.corner_dominated.Given as goal

abbrev pub invariant-loop-found : goal.invariant-loop-found
invariant-loop-found l =
    Sought l.listed.board.head.size l.listed.board.head.dimension l.goes l.i l.listed.board.bytes.now l.near l.q (unwrap_or l.found l.i)
    × IfSome l.found (λ j. j < l.i)

abbrev pub decreases-loop-found : goal.decreases-loop-found
decreases-loop-found l = l.i - unwrap_or l.found l.i
