-- `telling::told_next` meets its contract. The loop's invariant: the told positions from the present one on are those from
-- the first on. Assumes nothing.
use mathlib.Core.Path.{◌≡◌}
use Rattle.rows.specs.Telling.{positions, told_from}
use Rattle.rows.proofs.telling.told_next.Given as goal

abbrev pub invariant-loop-j : goal.invariant-loop-j
invariant-loop-j l = (l.end ≡ positions l.t) × (told_from l.t l.numbers l.m l.j ≡ told_from l.t l.numbers l.m l.i)
