-- `telling::place_at` meets its contract. Assumes nothing.
use mathlib.Core.Path.{sym}
use native.Mathlib.Omega.{arith}
use Rattle.rows.specs.Laws.Telling.{place-before, place_after}
use Rattle.rows.proofs.telling.place_at.Goals as goal

pub returns-then-i-place : goal.returns-then-i-place
returns-then-i-place c = let a = c.args in sym (place-before a.place a.i c.if-i-place.true)

pub returns-else-i-place : goal.returns-else-i-place
returns-else-i-place c = let a = c.args in sym (place_after a.place a.i (omega arith))
