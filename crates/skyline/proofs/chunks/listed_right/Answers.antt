use Prim.Native.Nat.{ℕ}
use mathlib.Core.List.{List}
use mathlib.Core.Path.{◌≡◌, sym, subst}
use native.Mathlib.Omega.{arith}
use Rattle.promises.specs.Run.{Bytes}
use Rattle.skyline.specs.Chunks.{Unhidden, Highs}
use Rattle.skyline.specs.Laws.Unhidden.{unhidden-none, unhidden-chunk, unhidden-right, hidden-wrong}
use Rattle.skyline.proofs.chunks.listed_right.Goals.{else-from-eq0, then-from-eq0}
use Rattle.skyline.proofs.chunks.listed_right.Goals.{Joined-from-eq0}
use Rattle.skyline.proofs.chunks.listed_right.Goals as goal

-- The greatest bounds were made for the first chunk, or are there.
there : (c : Joined-from-eq0) → Highs c.args.b.now.head.size c.args.b.now.head.dimension c.args.b.now.bytes.now c.args.b.now.head.count c.if-from-eq0.highs
there c =
    let a = c.args in
    let b = a.b.now in
    let There : List (List ℕ) → Type 0 = Highs b.head.size b.head.dimension b.bytes.now b.head.count in
    elim c.if-from-eq0.branch [
      | then-from-eq0 w ↦ subst There (sym w.highs-is) w.put_highs.ensures
      | else-from-eq0 w ↦ subst There (sym w.highs-is) (c.loop-from.invariant.3 (omega (arith, w.if-from-eq0.false)) (omega (arith, c.loop-from-test.true)))
    ]

pub loop-from-init : goal.loop-from-init
loop-from-init c = (omega arith, λ j l g t k z s. absurd (omega arith), c.requires.1, λ l. absurd (omega arith))

pub returns-in_default : goal.returns-in_default
unfolding Bytes
returns-in_default c =
    let b = c.args.b.now in
    sym (hidden-wrong b.head.size b.head.dimension b.head.count b.bytes.now b.readable.dimension b.fits c.requires.0 c.in_default.ensures)

pub returns-then-not-later_unhidden : goal.returns-then-not-later_unhidden
unfolding Bytes
returns-then-not-later_unhidden c =
    let a = c.args in
    let b = a.b.now in
    let bytes : Bytes b.bytes.now = b.fits in
    let later = c.later_unhidden in
    sym
    (hidden-wrong b.head.size b.head.dimension b.head.count b.bytes.now b.readable.dimension bytes c.requires.0
    (later.ensures.false-says (c.if-not-later_unhidden.true)))

pub loop-from-smaller-else-not-later_unhidden : goal.loop-from-smaller-else-not-later_unhidden
loop-from-smaller-else-not-later_unhidden c =
    let next = c.in-Some.ensures in
    omega (arith, next.more, next.end)

pub loop-from-preserved-else-not-later_unhidden : goal.loop-from-preserved-else-not-later_unhidden
loop-from-preserved-else-not-later_unhidden c =
    let a = c.args in
    let b = a.b.now in
    let own = c.loop-from in
    let next = c.in-Some.ensures in
    let high = there (goal.at.loop-from-preserved-else-not-later_unhidden c).Joined-from-eq0 in
    let n = b.head.count in
    let to = c.in-Some.chunk.to in
    let later = c.later_unhidden in (
      next.end,
      unhidden-chunk b.head.size b.head.dimension b.bytes.now n own.from to own.invariant.1
          next.unhidden
          (subst (λ (z : ℕ). Unhidden b.head.size b.head.dimension b.bytes.now z to to n) next.starts (later.ensures.true-says (c.if-not-later_unhidden.false))),
      high.runs,
      λ _ _. high,
    )

-- The chunk goes to the last place.
pub loop-from-smaller : goal.loop-from-smaller
loop-from-smaller c =
    let next = c.in-Some.ensures in
    omega (arith, next.more, next.end)

pub loop-from-preserved : goal.loop-from-preserved
loop-from-preserved c =
    let a = c.args in
    let b = a.b.now in
    let own = c.loop-from in
    let next = c.in-Some.ensures in
    let n = b.head.count in
    let to = c.in-Some.chunk.to in
    let all : n ≡ to = omega (arith, next.end, c.if-chunk-n.false) in (
      next.end,
      unhidden-chunk b.head.size b.head.dimension b.bytes.now n own.from to own.invariant.1
          next.unhidden
          (subst (Unhidden b.head.size b.head.dimension b.bytes.now own.from to to) (sym all) (unhidden-none b.head.size b.head.dimension b.bytes.now own.from to to)),
      own.invariant.2,
      λ _ l. absurd (omega (arith, c.if-chunk-n.false)),
    )

pub returns : goal.returns
unfolding Bytes
returns c =
    let a = c.args in
    let b = a.b.now in
    let own = c.loop-from in
    let bytes : Bytes b.bytes.now = b.fits in
    let all : own.from ≡ b.head.count = omega arith in
    sym
    (unhidden-right b.head.size b.head.dimension b.head.count b.bytes.now b.readable.dimension bytes c.requires.0
    (subst (λ (z : ℕ). Unhidden b.head.size b.head.dimension b.bytes.now 0 z 0 b.head.count) all own.invariant.1))
