-- `row_from` meets its contract. Assumes nothing.
use Prim.Native.Nat.{ℕ, ◌≤◌}
use mathlib.Core.List.{List, [], ◌∷◌}
use mathlib.Core.Path.{◌≡◌, refl, ap, ◌∙◌}
use native.Mathlib.Omega.{arith}
use lib.ListN.{length, get_or, drop}
use Rattle.rows.specs.Rows.{row_numbers}
use Rattle.rows.proofs.row.row_from.Goals as goal

two-first : (ns : List ℕ) → 2 ≤ length ns → get_or ns 0 0 ∷ get_or ns 1 0 ∷ drop 2 ns ≡ ns
two-first [] h = absurd (omega arith)
two-first (p ∷ []) h = absurd (omega arith)
two-first (p ∷ q ∷ ns) h = refl

pub returns : goal.returns
unfolding row_numbers
returns c =
    let ns = c.args.numbers in
    ap (λ (costs : List ℕ). get_or ns 0 0 ∷ get_or ns 1 0 ∷ costs) c.costs_from.ensures ∙ two-first ns (omega arith)
