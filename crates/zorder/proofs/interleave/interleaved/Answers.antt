use Prim.Native.Nat.{ℕ, ◌+◌, ◌*◌, ◌^◌, ◌≤◌, ◌<◌}
use mathlib.Core.List.{List}
use mathlib.Core.Path.{◌≡◌, refl, ap, subst, ◌∙◌}
use native.Mathlib.Omega.{arith}
use lib.ListN.{length, take}
use lib.Seq.{length-take-le}
use Rattle.zorder.specs.Address.{address, group, groups}
use Rattle.zorder.proofs.Laws.Address.{group-lt}
use Rattle.zorder.proofs.Digits.{Digits, digit-in, digits-end}
use Rattle.zorder.proofs.interleave.interleaved.Goals as goal

-- The groups, as digits of d bits.
group-digits : (d : ℕ) (costs : List ℕ) → d ≤ length costs → Digits d (λ (k : ℕ). group k (take d costs)) (λ (k : ℕ). groups k (take d costs))
unfolding groups
group-digits d costs room =
    let cs : List ℕ = take d costs in
    let count : length cs ≡ d = length-take-le d costs room in
    record {
      none = refl;
      more = λ k. ap (λ (n : ℕ). group k cs * 2 ^ (n * k) + groups k cs) count;
      small = λ k. subst (λ (n : ℕ). group k cs < 2 ^ n) count (group-lt k cs);
    }

pub loop-j-preserved : goal.loop-j-preserved
loop-j-preserved c =
    let a = c.args in
    let own = c.loop-j in
    rw
    (c.from.ensures ∙ c.group.ensures)
    (digit-in (group-digits a.d a.costs (omega arith)) 128 16 own.a own.j (omega arith) c.loop-j-test.true own.invariant)

pub returns : goal.returns
unfolding address
returns c =
    let a = c.args in
    let own = c.loop-j in
    digits-end (group-digits a.d a.costs (omega arith)) 16 own.a own.j c.loop-j-test.false own.invariant
