use mathlib.Core.Path.{sym, ◌∙◌}
use native.Mathlib.Nat.{le_refl}
use native.Mathlib.Omega.{arith}
use Rattle.tree.specs.Laws.Saving.{place-of}
use Rattle.tree.proofs.withdraw.place_of.Goals as goal

pub returns-then-number_at-number : goal.returns-then-number_at-number
returns-then-number_at-number c =
    let a = c.args in
    let own = c.loop-p in
    record {
      place = place-of a.c a.n a.number a.m.now own.p (omega arith) own.invariant (λ l. sym c.number_at.ensures ∙ c.if-number_at-number.true);
      below = omega arith;
    }

pub returns : goal.returns
returns c =
    let a = c.args in
    record { place = place-of a.c a.n a.number a.m.now a.n (le_refl _) (λ k l. c.loop-p.invariant k (omega arith)) (λ l. absurd (omega arith)); below = tt }
