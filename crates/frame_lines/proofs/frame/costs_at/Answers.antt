-- `frame::costs_at` meets its contract. Assumes nothing.
use Rattle.std.proofs.Common.{rules}
use Rattle.frame_lines.proofs.Made.{made-tab}
use Rattle.frame_lines.specs.Reading.{costs_at}
use Rattle.frame_lines.proofs.frame.costs_at.Goals as goal

pub returns : goal.returns
unfolding costs_at
returns c = made-tab _ _ _ (λ i y q called. search rules) _ _ c.from_fn.ensures.items
