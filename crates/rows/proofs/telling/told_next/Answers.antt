use mathlib.Core.Path.{sym, ap, ◌∙◌}
use native.Mathlib.Numerals.{add-one}
use native.Mathlib.Omega.{arith}
use Rattle.rows.specs.Telling.{told_from}
use Rattle.rows.specs.Laws.Telling.{from_told, from-other, from_end, next-told, next-none}
use Rattle.rows.proofs.telling.told_next.Goals as goal

pub returns-in-Some : goal.returns-in-Some
returns-in-Some c =
    let a = c.args in
    let own = c.loop-j in
    let here = from_told a.t a.numbers.now a.m.now own.j (omega (arith, own.invariant.0, c.loop-j-test.true)) c.in-Some.ensures in
    let next = next-told a.t a.numbers.now a.m.now a.i (sym own.invariant.1 ∙ here.0) in
    (here.1 ∙ sym next.0, add-one own.j ∙ sym next.1)

pub loop-j-preserved : goal.loop-j-preserved
loop-j-preserved c =
    let a = c.args in
    let own = c.loop-j in (
      own.invariant.0,
      ap (told_from a.t a.numbers.now a.m.now) (add-one own.j)
          ∙ sym (from-other a.t a.numbers.now a.m.now own.j (omega (arith, own.invariant.0, c.loop-j-test.true)) c.told_at.ensures c.in_default.not-Some)
          ∙ own.invariant.1,
    )

pub returns : goal.returns
returns c =
    let a = c.args in
    let own = c.loop-j in
    let next = next-none a.t a.numbers.now a.m.now a.i (sym own.invariant.1 ∙ from_end a.t a.numbers.now a.m.now own.j (omega (arith, own.invariant.0, c.loop-j-test.false))) in
    (sym next.0, own.invariant.0 ∙ sym next.1)
