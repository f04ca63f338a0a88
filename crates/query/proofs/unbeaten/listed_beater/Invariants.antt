-- `unbeaten::listed_beater` meets its contract. The loop's invariant: none of the listed moves passed beats these costs.
-- Assumes nothing.
use Prim.Native.Nat.{◌-◌, ◌<◌}
use Rattle.std.specs.Prelude.{unwrap_or, IfSome}
use Rattle.search.specs.Search.{None}
use Rattle.query.specs.Unbeaten.{listed_beats}
use Rattle.query.proofs.unbeaten.listed_beater.Given as goal

abbrev pub invariant-loop-found : goal.invariant-loop-found
invariant-loop-found l =
    None (listed_beats l.listed.board.head.size l.listed.board.head.dimension l.rule l.listed.board.bytes.now l.costs) 0 (unwrap_or l.found l.listed.board.head.count)
    × IfSome l.found (λ j. j < l.listed.board.head.count)

abbrev pub decreases-loop-found : goal.decreases-loop-found
decreases-loop-found l = l.listed.board.head.count - unwrap_or l.found l.listed.board.head.count
