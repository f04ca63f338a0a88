use Rattle.zorder.specs.Address.{row_costs, padded}
use Prim.Native.Nat.{ℕ, ◌+◌, ◌*◌, ◌^◌, ◌≤◌, ◌<◌}
use mathlib.Core.Bool.{cond}
use mathlib.Core.List.{List, append-nil}
use mathlib.Core.Path.{◌≡◌, sym, ap, ap₂, ◌∙◌}
use native.Mathlib.Nat.{zero-mul, one-mul}
use native.Mathlib.Omega.{arith}
use borrow.Author.Tests.{ltb-true, ltb-false}
use lib.Dec.{ltb}
use lib.ListN.{length, get_or, set}
use Rattle.zorder.proofs.Fill.{filled, filled_none, filled_more, filled-all}
use Rattle.model.proofs.Laws.Bool.{test_cases}
use Rattle.dominance.specs.Laws.Sums.{times-lt, first_of}
use Rattle.promises.specs.Layout.{word_at, cost_place, cost_in, costs_in}
use Rattle.memory.specs.Laws.Costs.{row-length, row-cost, row-past}
use Rattle.memory.proofs.fields.costs_of.Goals as goal

-- ---- the row that is read
module _ (c d : ℕ) (m : List ℕ) (number : ℕ) (few : d ≤ row_costs) where
  -- a word times 1 if its cost is one of the first d, else times 0
  row-times : (j k w : ℕ) → j < row_costs → k ≡ first_of d j → w ≡ cost_in c m number j → k * w ≡ get_or (costs_in c d m number) j 0
  row-times j k w l f e =
      ap (λ (n : ℕ). n * w) f
      ∙ test_cases (λ t. cond t 1 0 * w ≡ get_or (costs_in c d m number) j 0) (ltb j d)
      (λ t. one-mul w ∙ e ∙ sym (row-cost c d m number few j (ltb-true j d t)))
      (λ t. zero-mul w ∙ sym (row-past c d m number few j (ltb-false j d t) l))

  row-whole : filled (costs_in c d m number) row_costs ≡ costs_in c d m number
  unfolding padded
  row-whole = filled-all (costs_in c d m number) row_costs (row-length c d m number few) ∙ append-nil (costs_in c d m number)

pub loop-j-init : goal.loop-j-init
loop-j-init c =
    let a = c.args in
    filled_none (costs_in a.c a.d a.m.now a.number)

pub overflow_mul-costs : goal.overflow_mul-costs
overflow_mul-costs c = record { fits = times-lt c.first_factor.result c.word-cost.result (2 ^ 16) c.first_factor.ensures.1 (omega arith) }

pub loop-j-preserved : goal.loop-j-preserved
unfolding cost_in
loop-j-preserved c =
    let a = c.args in
    let few = c.requires.2 in
    let first = c.costs_place-at in
    let own = c.loop-j in
    let w = c.word-cost in
    let at : first.result + 2 * own.j ≡ cost_place a.c a.number own.j = omega (arith, first.ensures) in
    let cost = w.ensures ∙ ap (λ (o : ℕ). word_at o a.m.now) at in
    let row = costs_in a.c a.d a.m.now a.number in
    let count : length row ≡ row_costs = row-length a.c a.d a.m.now a.number few in
    ap₂ (λ (l : List ℕ) (v : ℕ). set l own.j v) own.invariant
    (row-times a.c a.d a.m.now a.number few own.j c.first_factor.result w.result (omega arith) c.first_factor.ensures.0 cost)
    ∙ filled_more row own.j 0 (omega arith) (omega arith)

pub returns : goal.returns
returns c =
    let a = c.args in
    let own = c.loop-j in
    let all : own.j ≡ row_costs = omega arith in
    own.invariant
    ∙ ap (filled (costs_in a.c a.d a.m.now a.number)) all
    ∙ row-whole a.c a.d a.m.now a.number c.requires.2
