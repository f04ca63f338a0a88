-- `band::few_before` meets its contract. The loop's invariant: the dominators before the place that the search has come to are
-- counted, and few enough. Assumes nothing.
use Prim.Native.Nat.{◌-◌, ◌≤◌, ◌<◌}
use Rattle.std.specs.Prelude.{unwrap_or, IfSome}
use Rattle.search.specs.Search.{fits}
use Rattle.search.specs.Laws.Counts.{CountedTo}
use Rattle.search.specs.declared.search.Among.TheVariants.{All}
use Rattle.query.specs.Band.{dominates_place}
use Rattle.query.proofs.band.few_before.Given as goal

abbrev pub invariant-loop-next : goal.invariant-loop-next
invariant-loop-next l = CountedTo (fits All l.all.board.head.size l.all.board.bytes.now l.q) (dominates_place l.all.board.head.size l.all.board.head.dimension l.all.board.bytes.now l.i) l.i (unwrap_or l.next l.i) l.found
    × (l.found ≤ l.most) × IfSome l.next (λ j. j < l.i)

abbrev pub decreases-loop-next : goal.decreases-loop-next
decreases-loop-next l = l.i - unwrap_or l.next l.i
