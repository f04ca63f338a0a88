use mathlib.Core.Path.{sym, ◌∙◌}
use native.Mathlib.Omega.{arith}
use Rattle.search.specs.Search.{fits}
use Rattle.search.specs.Laws.Search.{none-join, run-passed}
use Rattle.search.proofs.search.next_within.Goals as goal

-- The corner of a run passed by says that it need not be looked through.
pub loop-f-preserved : goal.loop-f-preserved
loop-f-preserved c =
    let a = c.args in
    let b = a.b.now in
    let own = c.loop-f in
    let e = c.run_end-e.result in (
      omega arith,
      omega arith,
      none-join (fits a.among b.head.size b.bytes.now a.q) a.i own.f e own.invariant.2
          (run-passed a.among b.head.size b.bytes.now a.q a.to own.f e a.corners.now c.requires.corners (omega arith) (omega arith) (omega arith)
          (sym c.exceeds.ensures ∙ c.if-not-exceeds.false)),
    )
