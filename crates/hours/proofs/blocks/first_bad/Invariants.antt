-- `blocks::first_bad` meets its contract. The loop's invariant: no entry passed is bad. Assumes nothing.
use mathlib.Core.List.{[]}
use lib.ListN.{get_or}
use Rattle.model.specs.Hours.{hours_bad}
use Rattle.promises.specs.Answers.{block_hours}
use Rattle.search.specs.Search.{None}
use Rattle.hours.proofs.blocks.first_bad.Given as goal

abbrev pub invariant-loop-k : goal.invariant-loop-k
invariant-loop-k l = None (λ j. hours_bad (block_hours (get_or l.hours j []))) 0 l.k
