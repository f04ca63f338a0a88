-- `columns::some_fits` meets its contract. Assumes nothing.
use native.Mathlib.Omega.{arith}
use Rattle.search.specs.Laws.Columns.{fits_said}
use Rattle.search.proofs.columns.some_fits.Goals as goal

pub returns-then-d-le4 : goal.returns-then-d-le4
returns-then-d-le4 c =
    let a = c.args in
    fits_said a.columns.now a.q (omega arith) 4 c.fitting.result c.fitting.ensures (omega arith) (λ k l. c.requires k (omega (arith, c.if-d-le4.true)))

pub returns : goal.returns
returns c =
    let a = c.args in
    fits_said a.columns.now a.q (omega arith) 8 c.fitting-2.result c.fitting-2.ensures (omega arith) (λ k l g. absurd (omega arith))
