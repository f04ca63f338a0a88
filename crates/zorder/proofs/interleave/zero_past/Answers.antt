-- `interleave::zero_past` meets its contract: what is asked of each cost is asked of all. Assumes nothing.
use Rattle.std.proofs.Common.{rules, tests, ◌∙◌, ◌==◌, sym, drop, ℕ}
use Rattle.std.proofs.lemmas.Iterator.{YieldsList-from_slice}
use Rattle.std.proofs.lemmas.Iterator.Adapters.{YieldsList-from_skip}
use Rattle.std.proofs.lemmas.Iterator.Search.{all_from_yields_List}
use Rattle.zorder.proofs.Laws.Refusal.{all_zero_list}
use Rattle.zorder.proofs.interleave.zero_past.Goals as goal

pub returns : goal.returns
returns c =
    let a = c.args in
    all_from_yields_List (λ (x : ℕ). x == 0) _ _ c.all.result c.all.ensures.ran (YieldsList-from_skip a.d (YieldsList-from_slice a.costs (search rules)) (search rules)) (λ x b q k. search (rules, tests))
    ∙ sym (all_zero_list (drop a.d a.costs))
