-- `places::entries` meets its contract. The loop's invariant: those counted and those from the present place on are all.
-- Assumes nothing.
use Prim.Native.Nat.{ℕ, ◌+◌, ◌-◌, ◌≤◌}
use mathlib.Core.Path.{◌≡◌}
use Rattle.line.specs.Places.{entries_among}
use Rattle.promises.specs.Layout.{heights_from}
use Rattle.nodes.proofs.places.entries.Given as goal

abbrev pub invariant-loop-i : goal.invariant-loop-i
invariant-loop-i l =
    (l.k ≤ l.i - l.s)
    × ((n : ℕ) → l.e ≤ n → l.k + entries_among l.l l.i l.e (heights_from l.c n l.m) ≡ entries_among l.l l.s l.e (heights_from l.c n l.m))
