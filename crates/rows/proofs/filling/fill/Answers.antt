use Rattle.std.proofs.Common.{ℕ, ◌+◌, List, map, refl, sym, ap, ◌∙◌, add-one}
use mathlib.Core.Path.{ap₂}
use lib.ListN.{set}
use Rattle.rows.specs.Rows.{row_numbers}
use Rattle.rows.specs.Telling.{position, next_row, next_at, filled_rows}
use Rattle.rows.specs.Laws.Set.{map-set}
use Rattle.rows.proofs.filling.fill.Goals as goal

pub loop-k-init : goal.loop-k-init
unfolding position filled_rows
loop-k-init c = record { place = refl; rows = refl }

pub loop-k-preserved : goal.loop-k-preserved
unfolding position filled_rows
loop-k-preserved c =
    let a = c.args in
    let own = c.loop-k in
    let next = c.told_next-s.ensures in
    record {
      place = next.1 ∙ ap (next_at a.t.told a.t.numbers a.m.now) own.invariant.place ∙ ap (position a.t.told a.t.numbers a.m.now) (sym (add-one own.k));
      rows =
          map-set row_numbers own.rows (a.from + own.k) c.row_from.result
          ∙ ap₂ (λ (rs : List (List ℕ)) (row : List ℕ). set rs (a.from + own.k) row) own.invariant.rows (c.row_from.ensures ∙ next.0 ∙ ap (next_row a.t.told a.t.numbers a.m.now) own.invariant.place)
          ∙ ap (λ (k : ℕ). filled_rows a.t.told a.t.numbers a.m.now a.from k (map row_numbers a.rows.now)) (sym (add-one own.k));
    }
