-- What is said of heights, of the line of these heights, whatever its number of costs.
use Rattle.std.specs.Prelude.{ℕ, ◌≤◌, ◌<◌, List, ◌≡◌}
use Rattle.std.proofs.Common.{sym, ap, ◌∙◌}
use Rattle.line.specs.Places.{move_at, start_among, end_among, entries_among, entry_among, node_start, node_end, entries, entry_at}
use Rattle.model.specs.Moves.{Move}
use Rattle.promises.specs.Layout.{number_in, costs_in, move_in, line_from}
use Rattle.memory.specs.Laws.Lines.{heights_in-line, move_at-line}
use Rattle.nodes.specs.Places.{NodeEnd, NodeStart, Entries, EntryAt}

module _ {c n l p r : ℕ} {m : List ℕ} (d : ℕ) where
  pub end_line : NodeEnd c n l p m r → r ≡ node_end l p (line_from c d n m)
  end_line e = e.is ∙ ap (end_among l p) (sym (heights_in-line c d n m))

  pub start-line : NodeStart c l p m r → p < n → r ≡ node_start l p (line_from c d n m)
  start-line s h = s.is n h ∙ ap (start_among l p) (sym (heights_in-line c d n m))

pub entries-line : {c n l s e r : ℕ} {m : List ℕ} (d : ℕ) → Entries c l s e m r → e ≤ n → r ≡ entries l s e (line_from c d n m)
entries-line {c} {n} {l} {s} {e} {m = m} d k h = k.is n h ∙ ap (entries_among l s e) (sym (heights_in-line c d n m))

pub entry-line : {c n l s j r : ℕ} {m : List ℕ} (d : ℕ) → EntryAt c n l s j m r → r ≡ entry_at l s j (line_from c d n m)
entry-line {c} {n} {l} {s} {j} {m = m} d e = e.is ∙ ap (entry_among l s j) (sym (heights_in-line c d n m))

-- The costs read by a number are those of the line at its place.
pub costs-line : (c d n : ℕ) (m : List ℕ) (i v : ℕ) → i < n → v ≡ number_in c m i → costs_in c d m v ≡ (move_at (line_from c d n m) i).costs
unfolding move_in
costs-line c d n m i v h number = ap (costs_in c d m) number ∙ ap (λ (x : Move). x.costs) (sym (move_at-line c d n m i h))
