-- `serving::listed` meets its contract. Assumes nothing.
use Rattle.framing.specs.Laws.Serving.{list-room, served-list}
use Rattle.framing.proofs.serving.listed.Goals as goal

pub put_list-requires : goal.put_list-requires
put_list-requires c = list-room c.plan_list.ensures c.requires

pub returns : goal.returns
returns c =
    served-list c.plan_list.ensures _ _ _ _ c.requires.loaded c.put_list.ensures
