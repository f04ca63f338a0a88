use Prim.Native.Nat.{ℕ, ◌+◌}
use mathlib.Core.List.{List}
use mathlib.Core.Path.{◌≡◌, sym, ◌∙◌, subst}
use native.Mathlib.Omega.{arith}
use Rattle.dominance.specs.Lanes.{Lanes, greater}
use Rattle.skyline.specs.Chunks.{HighWith}
use Rattle.skyline.specs.Laws.Highs.{high-none, high_same, high-more}
use Rattle.skyline.proofs.highs.run_high.Goals.{else-looks_at, then-looks_at}
use Rattle.skyline.proofs.highs.run_high.Goals as goal

pub loop-j-init : goal.loop-j-init
loop-j-init c = (omega arith, omega arith, high-none _ _)

pub loop-j-preserved : goal.loop-j-preserved
loop-j-preserved c =
    let own = c.loop-j in
    let a = c.args in
    let b = a.b.now in
    let With : List ℕ → Type 0 = λ r. HighWith b.head.size b.head.dimension b.bytes.now a.i (own.j + 1) a.high r in (
      omega arith,
      omega arith,
      elim c.if-looks_at.branch [ then-looks_at w ↦ subst With (sym w.top-is) (high-more _ (subst (λ (x : List ℕ). Lanes (greater own.top x) w.greatest-higher.result) w.bounds_at.ensures w.greatest-higher.ensures) own.invariant.2) | else-looks_at w ↦ subst With (sym w.top-is) (high_same (sym c.looks_at.ensures ∙ w.if-looks_at.false) own.invariant.2) ],
    )

pub returns : goal.returns
returns c =
    let own = c.loop-j in
    let a = c.args in
    let b = a.b.now in
    let all : own.j ≡ a.to = omega arith in
    subst (λ (n : ℕ). HighWith b.head.size b.head.dimension b.bytes.now a.i n a.high own.top) all own.invariant.2
