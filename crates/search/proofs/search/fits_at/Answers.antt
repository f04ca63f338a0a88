-- `search::fits_at` meets its contract. Assumes nothing.
use Prim.Native.Nat.{ℕ}
use mathlib.Core.Bool.{not}
use mathlib.Core.List.{List}
use mathlib.Core.Path.{sym, ap, ◌∙◌}
use native.Mathlib.Omega.{arith}
use Rattle.model.specs.Dominance.{nowhere_greater}
use Rattle.search.specs.Laws.Search.{fits-within, fits-exceeding, whole_row}
use Rattle.search.proofs.search.fits_at.Goals as goal

pub returns-then-exceeds : goal.returns-then-exceeds
returns-then-exceeds c =
    let a = c.args in
    let b = a.b.now in
    let row = c.seen_at in
    sym (fits-exceeding a.among b.head.size b.bytes.now a.q a.i
    (sym (ap (λ (l : List ℕ). nowhere_greater l a.q) row.ensures)
    ∙ sym (whole_row row.result a.q (omega arith) (omega arith))
    ∙ sym (ap not c.exceeds.ensures)
    ∙ ap not c.if-exceeds.true))

pub returns : goal.returns
returns c =
    let a = c.args in
    let b = a.b.now in
    let row = c.seen_at in
    c.looks_at.ensures
    ∙ sym (fits-within a.among b.head.size b.bytes.now a.q a.i
    (sym (ap (λ (l : List ℕ). nowhere_greater l a.q) row.ensures)
    ∙ sym (whole_row row.result a.q (omega arith) (omega arith))
    ∙ sym (ap not c.exceeds.ensures)
    ∙ ap not c.if-exceeds.false))
