use Prim.Native.Nat.{ℕ}
use mathlib.Core.Path.{◌≡◌, refl, sym, ◌∙◌, subst}
use native.Mathlib.Omega.{arith}
use Rattle.model.proofs.Laws.Bool.{both_ways}
use Rattle.skyline.specs.Chunks.{Unhidden}
use Rattle.skyline.specs.Laws.Unhidden.{unhidden-none, unhidden-join}
use Rattle.skyline.specs.Laws.Highs.{high-unhidden}
use Rattle.skyline.proofs.chunks.later_unhidden.Goals as goal

pub loop-f-init : goal.loop-f-init
loop-f-init c =
    let a = c.args in
    let b = a.b.now in
    (omega arith, omega (arith, c.requires.place), unhidden-none b.head.size b.head.dimension b.bytes.now a.chunk.from a.chunk.to a.chunk.to)

pub returns-then-not-run_unhidden : goal.returns-then-not-run_unhidden
returns-then-not-run_unhidden c = record { true-says = λ e. both_ways e refl; false-says = λ _. c.run_unhidden.ensures.false-says (c.if-not-run_unhidden.true) }

pub loop-f-preserved-else-not-run_unhidden : goal.loop-f-preserved-else-not-run_unhidden
loop-f-preserved-else-not-run_unhidden c =
    let a = c.args in
    let b = a.b.now in
    let own = c.loop-f in
    let e = c.run_end-e in (
      omega (arith, own.invariant, e.ensures),
      omega (arith, e.ensures),
      unhidden-join b.head.size b.head.dimension b.bytes.now a.chunk.from a.chunk.to a.chunk.to own.f e.result own.invariant.2
          (c.run_unhidden.ensures.true-says (c.if-not-run_unhidden.false)),
    )

-- The run is passed by.
pub loop-f-preserved : goal.loop-f-preserved
loop-f-preserved c =
    let a = c.args in
    let b = a.b.now in
    let own = c.loop-f in
    let e = c.run_end-e in (
      omega (arith, own.invariant, e.ensures),
      omega (arith, e.ensures),
      unhidden-join b.head.size b.head.dimension b.bytes.now a.chunk.from a.chunk.to a.chunk.to own.f e.result own.invariant.2
          (high-unhidden a.chunk.from a.chunk.to b.head.count own.f e.result a.columns.now a.chunk.low a.highs.now c.requires.gathered_chunk.0 c.requires.highs e.ensures.2 e.ensures.1
          (sym c.exceeds.ensures ∙ c.if-not-exceeds.false)),
    )

pub returns : goal.returns
returns c =
    let a = c.args in
    let b = a.b.now in
    let own = c.loop-f in
    let all : own.f ≡ b.head.count = omega arith in
    record {
      true-says = λ _. subst (λ (e : ℕ). Unhidden b.head.size b.head.dimension b.bytes.now a.chunk.from a.chunk.to a.chunk.to e) all own.invariant.2;
      false-says = λ e. both_ways refl e;
    }
