-- `interleave::cost_count_bad` meets its contract: the range has the numbers that neither test turns down. Assumes nothing.
use Rattle.std.proofs.Common.{rules}
use Rattle.zorder.specs.Refusal.{cost_count_bad}
use Rattle.zorder.proofs.interleave.cost_count_bad.Goals as goal

pub returns : goal.returns
unfolding cost_count_bad
returns c = search rules
