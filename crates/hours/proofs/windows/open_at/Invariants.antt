-- `windows::open_at` meets its contract. The loop's invariant: no window passed is open. Assumes nothing.
use Prim.Native.Nat.{◌-◌, ◌≤◌}
use Rattle.model.specs.Hours.{open_in}
use Rattle.promises.specs.Answers.{window_at}
use Rattle.search.specs.Search.{None}
use Rattle.hours.proofs.windows.open_at.Given as goal

abbrev pub invariant-loop-i : goal.invariant-loop-i
invariant-loop-i l = (l.i ≤ l.n) × None (λ j. open_in l.minute (window_at l.entry j)) 0 l.i

abbrev pub decreases-loop-i : goal.decreases-loop-i
decreases-loop-i l = l.n - l.i
