-- `places::entry_at` meets its contract. The loop's invariant: q is where the entry of the counter's number starts. Assumes nothing.
use mathlib.Core.Path.{◌≡◌}
use Rattle.line.specs.Places.{entry_among}
use Rattle.promises.specs.Layout.{heights_from}
use Rattle.nodes.proofs.places.entry_at.Given as goal

abbrev pub invariant-loop : goal.invariant-loop
invariant-loop l = l.q ≡ entry_among l.l l.s l.counter (heights_from l.c l.n l.m)
