use Prim.Native.Nat.{ℕ, ◌+◌, ◌*◌, ◌≤◌, ◌<◌}
use mathlib.Core.List.{List}
use mathlib.Core.Path.{◌≡◌, refl, sym, ap, ◌∙◌}
use native.Mathlib.Numerals.{add-one}
use native.Mathlib.Omega.{arith}
use lib.ListN.{length, get_or, drop, drop_of_length-le}
use lib.Seq.{drop-cons}
use Rattle.promises.specs.Layout.{set_word, cost_place}
use Rattle.memory.specs.Stores.{set_costs_from, set_costs}
use Rattle.memory.specs.Laws.Frames.{word-length}
use Rattle.memory.proofs.stores.set_costs.Goals as goal

-- A turn stores the cost at j.
cost-more : (c n j : ℕ) (costs m : List ℕ) → j < length costs → set_costs_from c n (j + 1) (drop (j + 1) costs) (set_word (cost_place c n j) (get_or costs j 0) m) ≡ set_costs_from c n j (drop j costs) m
unfolding set_costs_from
cost-more c n j costs m more =
    ap (λ (k : ℕ). set_costs_from c n k (drop k costs) (set_word (cost_place c n j) (get_or costs j 0) m)) (add-one j)
    ∙ ap (λ (vs : List ℕ). set_costs_from c n j vs m) (sym (drop-cons costs j 0 more))

cost-end : (c n j : ℕ) (costs m : List ℕ) → length costs ≤ j → set_costs_from c n j (drop j costs) m ≡ m
unfolding set_costs_from
cost-end c n j costs m end = ap (λ (vs : List ℕ). set_costs_from c n j vs m) (drop_of_length-le costs end)

pub loop-j-init : goal.loop-j-init
unfolding set_costs
loop-j-init c = (refl, refl)

pub loop-j-preserved : goal.loop-j-preserved
loop-j-preserved c =
    let a = c.args in
    let own = c.loop-j in
    let first = c.costs_place-at in
    let at : first.result + 2 * own.j ≡ cost_place a.c a.number own.j = omega (arith, first.ensures) in
    let stored = c.set_word.ensures ∙ ap (λ (o : ℕ). set_word o (get_or a.costs own.j 0) own.m) at in
    let from : List ℕ → List ℕ = set_costs_from a.c a.number (own.j + 1) (drop (own.j + 1) a.costs) in (
      ap length stored ∙ word-length (cost_place a.c a.number own.j) (get_or a.costs own.j 0) own.m ∙ own.invariant.0,
      ap from stored ∙ cost-more a.c a.number own.j a.costs own.m (omega arith) ∙ own.invariant.1,
    )

pub shape_of-m : goal.shape_of-m
shape_of-m c = c.loop-j.invariant.0

pub returns : goal.returns
returns c =
    let a = c.args in
    let own = c.loop-j in
    sym (cost-end a.c a.number own.j a.costs own.m (omega arith)) ∙ own.invariant.1
