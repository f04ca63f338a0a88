use Prim.Native.Nat.{ℕ, ◌+◌, ◌<◌}
use mathlib.Core.Bool.{true}
use mathlib.Core.List.{List}
use mathlib.Core.Path.{◌≡◌, refl, sym, ap, ◌∙◌, subst}
use native.Mathlib.Omega.{arith}
use Rattle.std.specs.Prelude.{Option, Some, is_some}
use Rattle.promises.specs.Run.{Bytes}
use Rattle.search.specs.Search.{looks_at, looks, bounds_at, ListedCorners, ListedFound}
use Rattle.memory.specs.Tests.{is_listed, hidden_right}
use Rattle.search.specs.Laws.Search.{corners-none, corners-unlooked, corners-more}
use Rattle.search.specs.Laws.Hiders.{hidden-found}
use Rattle.skyline.specs.Laws.Halves.{hidden-none, hidden-shown, hidden-more, hidden-fail}
use Rattle.skyline.proofs.hiders.hidden_right.Goals.{then-looks_at, else-looks_at+in-Some, else-looks_at+in_default+in-Some-found_from}
use Rattle.skyline.proofs.hiders.hidden_right.Goals as goal

pub loop-i-init : goal.loop-i-init
loop-i-init c =
    let a = c.args in
    let b = a.b.now in
    (omega arith, omega arith, corners-none _ c.requires.1, hidden-none b.head.size b.head.dimension b.bytes.now)

pub returns-in_default-found_from : goal.returns-in_default-found_from
unfolding Bytes looks_at looks is_listed
returns-in_default-found_from c =
    let a = c.args in
    let b = a.b.now in
    let own = c.loop-i in
    let inside : own.i < b.head.count = omega (arith, c.loop-i-test.true) in
    let r = c.found_from.result in
    let found = subst (λ (q : List ℕ). ListedFound b.head b.bytes.now q own.i r) c.bounds_at-q.ensures c.found_from.ensures in
    sym
    (hidden-fail b.head.size b.head.dimension b.bytes.now b.head.count own.i inside (sym c.looks_at.ensures ∙ c.if-looks_at.false)
    (hidden-found b.head.size b.head.dimension b.bytes.now b.readable.dimension b.fits b.head.count c.requires.0 own.i r inside found
    ∙ ap is_some c.in_default-found_from.is))

pub loop-i-preserved : goal.loop-i-preserved
unfolding Bytes looks_at looks is_listed
loop-i-preserved c =
    let a = c.args in
    let b = a.b.now in
    let own = c.loop-i in
    let inside : own.i < b.head.count = omega (arith, c.loop-i-test.true) in
    let shown = sym c.looks_at.ensures in
    let hidden : (q : List ℕ) (r : Option ℕ) → q ≡ bounds_at b.head.size b.head.dimension b.bytes.now own.i → is_some r ≡ true → ListedFound b.head b.bytes.now q own.i r
    → hidden_right b.head.size b.head.dimension (own.i + 1) b.bytes.now ≡ true =
    λ q r e l found.
    hidden-more b.head.size b.head.dimension b.bytes.now own.i own.invariant.3
    (hidden-found b.head.size b.head.dimension b.bytes.now b.readable.dimension b.fits b.head.count c.requires.0 own.i r inside
    (subst (λ (x : List ℕ). ListedFound b.head b.bytes.now x own.i r) e found)
    ∙ l) in
    let For : List (List ℕ) → Type 0 = λ r. ListedCorners b.head b.bytes.now (own.i + 1) r in (
      omega (arith, inside),
      elim c.if-looks_at.branch [ then-looks_at w ↦ omega (arith, w.at-is, own.invariant) | else-looks_at+in_default+in-Some-found_from w ↦ omega (arith, w.at-is, own.invariant) | else-looks_at+in-Some w ↦ omega (arith, w.at-is, own.invariant) ],
      elim c.if-looks_at.branch [
        | then-looks_at w ↦ subst For (sym w.corners-is)
            (corners-more own.i (own.i + 1) own.corners w.corner_with.result (omega (arith, inside, b.readable.rows, b.readable.room)) (omega arith) own.invariant.2 w.corner_with.ensures)
        | else-looks_at+in_default+in-Some-found_from w ↦ subst For (sym w.corners-is) (corners-unlooked own.i own.corners (shown ∙ w.if-looks_at.false) own.invariant.2)
        | else-looks_at+in-Some w ↦ subst For (sym w.corners-is) (corners-unlooked own.i own.corners (shown ∙ w.if-looks_at.false) own.invariant.2)
      ],
      elim c.if-looks_at.branch [
        | then-looks_at w ↦ hidden-shown b.head.size b.head.dimension b.bytes.now own.i own.invariant.3 (shown ∙ w.if-looks_at.true)
        | else-looks_at+in_default+in-Some-found_from w ↦ hidden w.bounds_at-q.result w.found_from.result w.bounds_at-q.ensures (ap is_some w.in-Some-found_from.is) w.found_from.ensures
        | else-looks_at+in-Some w ↦ hidden w.bounds_at-q.result (Some w.in-Some.hider) w.bounds_at-q.ensures refl w.in-Some.ensures
      ],
    )
