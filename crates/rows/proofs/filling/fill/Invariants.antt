-- The rows hold what the first k rows told put into them, and the place is where the next one is looked for.
use Rattle.std.proofs.Common.{◌≡◌, map}
use Rattle.rows.specs.Rows.{row_numbers}
use Rattle.rows.specs.Telling.{position, filled_rows}
use Rattle.rows.proofs.filling.fill.Given as goal

abbrev pub invariant-loop-k : goal.invariant-loop-k
invariant-loop-k l = record {
  place : l.i ≡ position l.told l.numbers l.m l.k;
  rows : map row_numbers l.rows ≡ filled_rows l.told l.numbers l.m l.from l.k (map row_numbers l.initial.rows);
}
