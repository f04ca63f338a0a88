-- `heights::least_entries` meets its contract. Assumes nothing.
use Prim.Native.Nat.{ℕ, zero, suc, ◌≤◌, ◌<◌}
use mathlib.Core.Bool.{Bool, cond}
use mathlib.Core.Path.{◌≡◌, refl, sym, ap, ◌∙◌}
use native.Mathlib.Omega.{arith}
use borrow.Author.Tests.{le-leb}
use Rattle.line.specs.Heights.{root_count}
use Rattle.soundness.proofs.heights.least_entries.Goals as goal

root-leaf : (l : ℕ) → 0 < l → l < 2 → root_count l ≡ 1
unfolding root_count
root-leaf zero h k = absurd (omega arith)
root-leaf (suc zero) h k = refl
root-leaf (suc (suc l)) h k = absurd (omega arith)

root-upper : (l : ℕ) → 2 ≤ l → root_count l ≡ 2
unfolding root_count
root-upper zero h = absurd (omega arith)
root-upper (suc zero) h = absurd (omega arith)
root-upper (suc (suc l)) h = refl

pub returns-then-l-lt2 : goal.returns-then-l-lt2
returns-then-l-lt2 c =
    let a = c.args in
    sym (ap (λ (b : Bool). cond b (root_count a.l) 3) (le-leb a.top a.l (omega arith)) ∙ root-leaf a.l (omega arith) (omega arith))

pub returns-else-l-lt2 : goal.returns-else-l-lt2
returns-else-l-lt2 c =
    let a = c.args in
    sym (ap (λ (b : Bool). cond b (root_count a.l) 3) (le-leb a.top a.l (omega arith)) ∙ root-upper a.l (omega arith))
