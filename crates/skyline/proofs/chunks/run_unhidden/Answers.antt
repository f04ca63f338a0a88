use mathlib.Core.Path.{◌≡◌, refl, sym, ◌∙◌, subst}
use native.Mathlib.Omega.{arith}
use Rattle.model.proofs.Laws.Bool.{both_ways}
use Rattle.promises.specs.Run.{Bytes}
use Rattle.search.specs.Columns.{Bounds}
use Rattle.skyline.specs.Chunks.{Unhidden}
use Rattle.skyline.specs.Laws.Chunks.{bounds-past}
use Rattle.skyline.specs.Laws.Unhidden.{exceeds-none, columns-none, columns-some, unhidden-none, unhidden-more}
use Rattle.skyline.proofs.chunks.run_unhidden.Goals.{else-looks_at, then-looks_at+else-not-exceeds, then-looks_at+then-not-exceeds+else-some_fits}
use Rattle.skyline.proofs.chunks.run_unhidden.Goals as goal

pub loop-j-init : goal.loop-j-init
loop-j-init c =
    let x = c.args in
    (omega arith, omega arith, λ a b g. unhidden-none x.b.now.head.size x.b.now.head.dimension x.b.now.bytes.now a b x.i)

pub returns-then-some_fits : goal.returns-then-some_fits
unfolding Bytes
returns-then-some_fits c =
    let x = c.args in
    let own = c.loop-j in
    let bounds = c.bounds_at-q in
    let bytes : Bytes x.b.now.bytes.now = c.args.b.now.fits in
    record {
      true-says = λ e. both_ways e refl;
      false-says = λ _.
          columns-some x.b.now.head.size x.b.now.head.dimension x.b.now.bytes.now own.j bounds.result bounds.ensures x.chunk.from x.chunk.to x.columns.now x.chunk.low
          c.requires.gathered_chunk.0 bytes c.requires.gathered_chunk.1 (omega (arith, c.requires.place, own.invariant)) x.b.now.head.count
          (omega (arith, c.requires.place, c.loop-j-test.true))
          (sym c.looks_at.ensures ∙ c.if-looks_at.true)
          (c.some_fits.ensures.true-says c.if-some_fits.true);
    }

pub loop-j-preserved : goal.loop-j-preserved
loop-j-preserved c =
    let x = c.args in
    let own = c.loop-j in
    let size = x.b.now.head.size in
    let d = x.b.now.head.dimension in
    let m = x.b.now.bytes.now in
    let columns = x.columns.now in
    let low = x.chunk.low in (
      omega arith,
      omega (arith, c.loop-j-test.true),
      λ a b g. unhidden-more size d m a b x.i own.j (own.invariant.2 a b g)
          (λ shown.
          elim c.if-looks_at.branch [ then-looks_at+then-not-exceeds+else-some_fits w ↦ columns-none size d m own.j w.bounds_at-q.result w.bounds_at-q.ensures a b columns low g (w.some_fits.ensures.false-says w.if-some_fits.false) | then-looks_at+else-not-exceeds w ↦ exceeds-none size d m own.j w.bounds_at-q.result w.bounds_at-q.ensures a b columns low g (sym w.exceeds.ensures ∙ w.if-not-exceeds.false) | else-looks_at w ↦ both_ways shown (sym c.looks_at.ensures ∙ w.if-looks_at.false) ]),
    )

pub returns : goal.returns
returns c =
    let x = c.args in
    let own = c.loop-j in
    let all : own.j ≡ x.to = omega arith in
    record {
      true-says = λ _.
          subst (Unhidden x.b.now.head.size x.b.now.head.dimension x.b.now.bytes.now x.chunk.from x.chunk.to x.i) all
          (own.invariant.2 x.chunk.from x.chunk.to c.requires.gathered_chunk.0);
      false-says = λ e. both_ways refl e;
    }

pub some_fits-requires : goal.some_fits-requires
some_fits-requires c =
    let b = c.args.b.now in
    subst (Bounds b.head.dimension) (sym c.bounds_at-q.ensures) (bounds-past b.head.size b.head.dimension b.bytes.now c.loop-j.j)
