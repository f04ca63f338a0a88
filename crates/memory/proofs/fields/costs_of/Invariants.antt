-- `fields::costs_of` meets its contract. The loop's invariant: the row holds the first j costs. Assumes nothing.
use mathlib.Core.Path.{◌≡◌}
use Rattle.zorder.proofs.Fill.{filled}
use Rattle.promises.specs.Layout.{costs_in}
use Rattle.memory.proofs.fields.costs_of.Given as goal

abbrev pub invariant-loop-j : goal.invariant-loop-j
invariant-loop-j l = l.costs ≡ filled (costs_in l.c l.d l.m l.number) l.j
