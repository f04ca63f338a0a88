-- `less` meets its contract. Assumes nothing.
use Prim.Native.Nat.{ℕ, ◌+◌, ◌-◌, ◌/◌}
use mathlib.Core.Path.{ap₂, ◌∙◌}
use native.Mathlib.Omega.{arith}
use Rattle.dominance.specs.Laws.Sums.{less-number}
use Rattle.dominance.proofs.less.Goals as goal

pub returns : goal.returns
returns c =
    let x = c.args in
    ap₂ (λ (b a : ℕ). (65535 + b - a) / 65536) c.wide.ensures.0 c.wide-2.ensures.0
    ∙ less-number x.a x.b (omega arith) (omega arith)
