-- `windows::hours_bad` meets its contract. The loop's invariant: no window passed is bad. Assumes nothing.
use Prim.Native.Nat.{◌-◌, ◌≤◌}
use Rattle.model.specs.Hours.{window_bad}
use Rattle.promises.specs.Answers.{window_at}
use Rattle.search.specs.Search.{None}
use Rattle.hours.proofs.windows.hours_bad.Given as goal

abbrev pub invariant-loop-i : goal.invariant-loop-i
invariant-loop-i l = (l.i ≤ l.n) × None (λ j. window_bad (window_at l.entry j)) 0 l.i

abbrev pub decreases-loop-i : goal.decreases-loop-i
decreases-loop-i l = l.n - l.i
