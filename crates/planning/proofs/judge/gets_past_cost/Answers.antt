-- `judge::gets_past_cost` meets its contract. Assumes nothing.
use Rattle.std.proofs.Common.{rules}
use Rattle.zorder.specs.Refusal.{cost_past_bad}
use Rattle.planning.proofs.judge.gets_past_cost.Goals as goal

pub returns : goal.returns
unfolding cost_past_bad
returns c = search rules
