-- `rule::dominates_at` meets its contract. Assumes nothing.
use Prim.Native.Nat.{ℕ, ◌%◌}
use mathlib.Core.Bool.{Bool, not, ◌&&◌}
use mathlib.Core.List.{List}
use mathlib.Core.Path.{ap, ap₂, ◌∙◌}
use native.Mathlib.Omega.{arith}
use lib.Pow.{pow_pos}
use Rattle.zorder.specs.Address.{row_costs}
use Rattle.zorder.proofs.Bits.{shl_one}
use Rattle.model.specs.Dominance.{somewhere_less, at}
use Rattle.model.specs.Lists.{chosen_costs}
use Rattle.query.specs.Laws.Rule.{exceeds-chosen}
use Rattle.query.proofs.rule.dominates_at.Goals as goal

pub nonzero_rem-s : goal.nonzero_rem-s
nonzero_rem-s c = omega (arith, shl_one 64 c.args.d (omega arith), pow_pos c.args.d)

pub returns : goal.returns
returns c =
    let a = c.args in
    ap₂ (λ (t u : Bool). not t && u) c.exceeds_in.ensures c.exceeds_in-2.ensures
    ∙ ap (λ (n : ℕ). let s : List ℕ = chosen_costs row_costs (a.set % n) in not (somewhere_less (at s a.q) (at s a.p)) && somewhere_less (at s a.p) (at s a.q)) (shl_one 64 a.d (omega arith))
    ∙ exceeds-chosen a.p a.q a.d a.set (omega arith)
