-- Before the first byte no board is held, and what is lent is as long as the calls ask.
use Rattle.std.proofs.Common.{refl}
use Rattle.model.specs.Calls.{memory_need}
use Rattle.frame_lines.specs.State.{unloaded}
use Rattle.framing.specs.Serving.{StateIn}
use Rattle.frames.proofs.main.Goals as goal

pub loop-init : goal.loop-init
unfolding StateIn memory_need
loop-init c = (
  record { state = unloaded; holds = c.start-p.ensures.dimension },
  record { memory = refl; text = refl },
)
