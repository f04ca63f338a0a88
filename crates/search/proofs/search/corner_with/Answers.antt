-- `search::corner_with` meets its contract. Assumes nothing.
use Prim.Native.Nat.{ℕ}
use mathlib.Core.List.{List}
use mathlib.Core.Path.{sym, ◌∙◌, subst}
use Rattle.dominance.specs.Lanes.{Lanes, lesser}
use Rattle.search.specs.Laws.Search.{corner-least, corner-same}
use Rattle.search.proofs.search.corner_with.Goals as goal

pub returns-then-looks_at : goal.returns-then-looks_at
returns-then-looks_at c =
    let a = c.args in
    let b = a.b.now in
    corner-least a.among b.head.size b.bytes.now a.i a.low c.least.result
    (subst (λ (l : List ℕ). Lanes (lesser a.low l) c.least.result) c.seen_at.ensures c.least.ensures)

pub returns : goal.returns
returns c =
    let a = c.args in
    let b = a.b.now in
    corner-same a.among b.head.size b.bytes.now a.i a.low (sym c.looks_at.ensures ∙ c.if-looks_at.false)
