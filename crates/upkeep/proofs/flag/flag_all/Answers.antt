use mathlib.Core.Path.{refl, ◌∙◌}
use native.Mathlib.Omega.{arith}
use Rattle.search.specs.Laws.Search.{corners-none}
use Rattle.upkeep.proofs.Flagging.{flagged-none, flagging-more, stored-frame, readable-kept, ordered-kept}
use Rattle.upkeep.proofs.flag.flag_all.Goals as goal

pub loop-i-init : goal.loop-i-init
loop-i-init c =
    let a = c.args in
    (record { flagged = flagged-none a.h.size a.h.dimension a.m.now; corners = corners-none _ refl }, λ k. omega (arith, c.slice_known-1.given k))

pub loop-i-preserved : goal.loop-i-preserved
loop-i-preserved c =
    let a = c.args in
    let own = c.loop-i in
    let number = c.number_at-number in
    let hider = c.hider_before-hider in
    let more = c.loop-i-test.true in (
      flagging-more a.h a.m.now own.m own.i own.corners c.requires.readable.0 c.requires.once more own.invariant.0 number.result _ _ number.ensures.0 (hider.ensures.hidden ∙ c.is_none.ensures) c.set_listed.ensures c.corner_with.result c.corner_with.ensures,
      λ k. omega (arith, c.slice_known-in-loop-i-1.given k),
    )

-- What was flagged so far leaves the moves as they were.
pub invariant_of-b : goal.invariant_of-b
invariant_of-b c =
    let a = c.args in
    let own = c.loop-i in
    let was = c.requires.readable.0 in
    record { readable = readable-kept a.h.size a.h.count a.m.now own.m own.invariant.0.flagged.frame was.rows a.h.dimension was; fits = own.invariant.1 }

pub hider_before-hider-requires-clause-place : goal.hider_before-hider-requires-clause-place
hider_before-hider-requires-clause-place c =
    let a = c.args in
    let own = c.loop-i in
    (ordered-kept a.h.size a.h.count a.m.now own.m own.invariant.0.flagged.frame c.requires.readable.0.rows a.h.dimension c.requires.readable.1, omega arith)

pub invariant_of-b-in-loop-i : goal.invariant_of-b-in-loop-i
invariant_of-b-in-loop-i c =
    let a = c.args in
    let own = c.loop-i in
    let number = c.number_at-number in
    let hider = c.hider_before-hider in
    let was = c.requires.readable.0 in
    let frame = stored-frame a.h a.m.now own.m own.i own.corners was c.requires.once c.loop-i-test.true own.invariant.0 number.result _ _ number.ensures.0 (hider.ensures.hidden ∙ c.is_none.ensures) c.set_listed.ensures in
    record { readable = readable-kept a.h.size a.h.count a.m.now _ frame was.rows a.h.dimension was; fits = λ k. omega (arith, c.slice_known-in-loop-i-1.given k) }
