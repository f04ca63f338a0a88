-- `stores::set_costs` meets its contract. The loop's invariant: storing what is left gives the whole. Assumes nothing.
use mathlib.Core.Path.{◌≡◌}
use lib.ListN.{length, drop}
use Rattle.memory.specs.Stores.{set_costs_from, set_costs}
use Rattle.memory.proofs.stores.set_costs.Given as goal

abbrev pub invariant-loop-j : goal.invariant-loop-j
invariant-loop-j l =
    (length l.m ≡ length l.initial.m) × (set_costs_from l.c l.number l.j (drop l.j l.costs) l.m ≡ set_costs l.c l.number l.costs l.initial.m)
