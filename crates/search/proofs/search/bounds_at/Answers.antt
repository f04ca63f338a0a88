-- `search::bounds_at` meets its contract. Assumes nothing.
use Prim.Native.Nat.{ℕ}
use mathlib.Core.List.{List}
use mathlib.Core.Path.{ap, ◌∙◌}
use Rattle.zorder.specs.Address.{row_costs}
use Rattle.dominance.specs.Lanes.{bound, is_first}
use Rattle.promises.specs.Layout.{tab}
use Rattle.search.specs.Search.{bounds_at}
use Rattle.search.specs.Laws.Search.{lanes-tab}
use Rattle.search.proofs.search.bounds_at.Goals as goal

pub returns : goal.returns
unfolding bounds_at
returns c =
    let a = c.args in
    lanes-tab c.bounds_of.ensures ∙ ap (λ (x : List ℕ). tab (bound (is_first a.b.now.head.dimension) x) row_costs) c.seen_at.ensures
