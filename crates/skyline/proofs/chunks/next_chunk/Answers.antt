use Prim.Native.Nat.{ℕ, ◌+◌, ◌<◌}
use mathlib.Core.Bool.{Bool, true, not, ◌&&◌}
use mathlib.Core.List.{List}
use mathlib.Core.Logic.{inl, inr}
use mathlib.Core.Path.{◌≡◌, refl, sym, ap, ◌∙◌, subst}
use native.Mathlib.Omega.{arith}
use borrow.Author.Tests.{ltb-true, ltb-false, not-false}
use lib.Dec.{ltb}
use Rattle.model.proofs.Laws.Bool.{by_cases, both_ways, and_left, and_right}
use Rattle.dominance.specs.Lanes.{Lanes, lesser}
use Rattle.promises.specs.Run.{Bytes}
use Rattle.search.specs.Search.{seen_at, bounds_at}
use Rattle.search.specs.Columns.{Bounds, Put, Filled}
use Rattle.skyline.specs.Chunks.{Gathered}
use Rattle.skyline.specs.Laws.Chunks.{bounds-past, gathered_none, gathered-same, gathered-more, same_count, more-count, none-fits-before, chunk-grows, chunk-some}
use Rattle.skyline.specs.Laws.Unhidden.{exceeds-none, columns-none, columns-some, unhidden-none, unhidden-within}
use Rattle.search.specs.declared.search.Among.TheVariants.{Listed}
use Rattle.skyline.proofs.chunks.next_chunk.Goals.{else-looks_at, then-looks_at, then-count-eq0, else-count-eq0, then-count-exceeds+else-some_fits, else-count-exceeds}
use Rattle.skyline.proofs.chunks.next_chunk.Goals as goal

-- The two halves of the loop's test.
inside : (i n : ℕ) (b : Bool) → (ltb i n && b) ≡ true → i < n
inside i n b taken = ltb-true i n (and_left (ltb i n) b taken)

room : (a : Bool) (count : ℕ) → (a && ltb count 64) ≡ true → count < 64
room a count taken = ltb-true count 64 (and_right a (ltb count 64) taken)

pub loop-i-init : goal.loop-i-init
loop-i-init c =
    let a = c.args in
    let b = a.b.now in (
      omega arith,
      omega arith,
      omega arith,
      omega arith,
      omega arith,
      gathered_none b.head.size b.bytes.now a.from _ _,
      unhidden-none b.head.size b.head.dimension b.bytes.now a.from a.from a.from,
    )

pub returns-then-some_fits : goal.returns-then-some_fits
unfolding Bytes
returns-then-some_fits c =
    let a = c.args in
    let b = a.b.now in
    let own = c.loop-i in
    let bounds = c.bounds_at-q in
    let bytes : Bytes b.bytes.now = b.fits in
    let some = ltb-true 0 own.count (and_left (ltb 0 own.count) (not c.exceeds.result) c.if-count-exceeds.true) in
    columns-some b.head.size b.head.dimension b.bytes.now own.i bounds.result bounds.ensures a.from own.i own.columns own.low own.invariant.5 bytes
    (omega (arith, own.invariant.4, some)) (omega arith) b.head.count
    (inside own.i b.head.count _ c.loop-i-test.true)
    (sym c.looks_at.ensures ∙ c.if-looks_at.true)
    (c.some_fits.ensures.true-says c.if-some_fits.true)

pub loop-i-smaller : goal.loop-i-smaller
loop-i-smaller c =
    let own = c.loop-i in
    omega (arith, inside own.i c.args.b.now.head.count _ c.loop-i-test.true)

pub loop-i-preserved : goal.loop-i-preserved
loop-i-preserved c =
    let a = c.args in
    let b = a.b.now in
    let own = c.loop-i in
    let taken = c.loop-i-test.true in
    let free = room (ltb own.i b.head.count) own.count taken in
    let size = b.head.size in
    let d = b.head.dimension in
    let m = b.bytes.now in
    let i = own.i in
    let inv = own.invariant in
    let shown = sym c.looks_at.ensures in (
      omega arith,
      omega (arith, inside own.i b.head.count _ taken),
      elim c.if-looks_at.branch [ then-looks_at w ↦ omega (arith, w.count-is, free) | else-looks_at w ↦ omega (arith, w.count-is, free) ],
      elim c.if-looks_at.branch [ then-looks_at w ↦ omega (arith, w.count-is, inv.3) | else-looks_at w ↦ omega (arith, w.count-is, inv.3) ],
      elim c.if-looks_at.branch [ then-looks_at w ↦ omega (arith, w.count-is, more-count size m a.from i own.count own.columns own.low inv.0 inv.5 inv.4 (shown ∙ w.if-looks_at.true)) | else-looks_at w ↦ omega (arith, w.count-is, same_count size m a.from i own.count own.columns own.low inv.0 inv.5 inv.4 (shown ∙ w.if-looks_at.false)) ],
      elim c.if-looks_at.branch [
        | then-looks_at w ↦ subst (λ (x : List ℕ). Gathered size m a.from (i + 1) x c.if-looks_at.low) (sym w.columns-is)
            (subst (λ (x : List ℕ). Gathered size m a.from (i + 1) w.put.new.columns x) (sym w.low-is)
            (gathered-more size m a.from i own.count own.columns own.low inv.0 inv.5 inv.4 (shown ∙ w.if-looks_at.true) free w.if-count-eq0.columns w.put.new.columns w.least-lower.result
            (elim w.if-count-eq0.branch [
              | then-count-eq0 v ↦ inl (v.if-count-eq0.true, subst (Filled (seen_at Listed size m i)) (sym v.columns-is) (subst (λ (x : List ℕ). Filled x v.fill.new.columns) w.seen_at-costs.ensures v.fill.ensures))
              | else-count-eq0 v ↦ inr (omega (arith, v.if-count-eq0.false), v.columns-is)
            ])
            (subst (λ (x : List ℕ). Put w.if-count-eq0.columns own.count x w.put.new.columns) w.seen_at-costs.ensures w.put.ensures)
            (subst (λ (x : List ℕ). Lanes (lesser own.low x) w.least-lower.result) w.seen_at-costs.ensures w.least-lower.ensures)))
        | else-looks_at w ↦ subst (λ (x : List ℕ). Gathered size m a.from (i + 1) x c.if-looks_at.low) (sym w.columns-is)
            (subst (λ (x : List ℕ). Gathered size m a.from (i + 1) own.columns x) (sym w.low-is)
            (gathered-same size m a.from i own.count own.columns own.low inv.0 inv.5 inv.4 (shown ∙ w.if-looks_at.false)))
      ],
      unhidden-within size d m a.from i inv.6
          (λ t.
          elim c.if-looks_at.branch [
            | then-looks_at w ↦ elim w.if-count-exceeds.branch [
              | then-count-exceeds+else-some_fits u ↦ columns-none size d m i w.bounds_at-q.result w.bounds_at-q.ensures a.from i own.columns own.low inv.5 (u.some_fits.ensures.false-says u.if-some_fits.false)
              | else-count-exceeds u ↦
                  by_cases (ltb 0 own.count)
                  (λ some. exceeds-none size d m i w.bounds_at-q.result w.bounds_at-q.ensures a.from i own.columns own.low inv.5
                  (sym w.exceeds.ensures ∙ not-false w.exceeds.result (ap (λ (b : Bool). b && not w.exceeds.result) (sym some) ∙ u.if-count-exceeds.false)))
                  (λ none. none-fits-before size m a.from i own.count own.columns own.low inv.0 inv.5 inv.4 (omega (arith, ltb-false 0 own.count none)) (bounds_at size d m i))
            ]
            | else-looks_at w ↦ both_ways t (shown ∙ w.if-looks_at.false)
          ]),
    )

pub returns : goal.returns
returns c =
    let own = c.loop-i in
    record {
      starts = refl;
      more = chunk-grows c.args.from c.args.b.now.head.count own.i own.count c.requires own.invariant.3 c.loop-i-test.false;
      end = own.invariant.1;
      gathered = own.invariant.5;
      some = λ l. omega (arith, own.invariant.4, chunk-some c.args.b.now.head.count own.i own.count c.loop-i-test.false l);
      unhidden = own.invariant.6;
    }

pub some_fits-requires : goal.some_fits-requires
some_fits-requires c =
    let b = c.args.b.now in
    subst (Bounds b.head.dimension) (sym c.bounds_at-q.ensures) (bounds-past b.head.size b.head.dimension b.bytes.now c.loop-i.i)
