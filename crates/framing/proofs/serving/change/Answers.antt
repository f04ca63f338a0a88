-- `serving::change` meets its contract. Assumes nothing.
use Rattle.framing.specs.Laws.Serving.{change-room, served-change}
use Rattle.framing.proofs.serving.change.Goals as goal

pub put_change-answered-requires : goal.put_change-answered-requires
put_change-answered-requires c = change-room c.plan_change-p.ensures c.requires

pub returns : goal.returns
returns c =
    served-change c.plan_change-p.ensures c.carry_out.ensures _ _ _ _ c.requires.loaded c.put_change-answered.ensures
