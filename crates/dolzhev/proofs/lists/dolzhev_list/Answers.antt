use Rattle.model.specs.Calls.{list}
use Rattle.calls.specs.Laws.Exported.{query-exported}
use Rattle.dolzhev.proofs.lists.dolzhev_list.Goals as goal

pub returns : goal.returns
returns c = query-exported list c.args.rows.now c.plan_list-p.ensures c.tell_list.new.rows c.tell_list.ensures
