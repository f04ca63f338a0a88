use Rattle.model.specs.Calls.{chosen_query}
use Rattle.calls.specs.Laws.Exported.{query-exported}
use Rattle.dolzhev.proofs.lists.dolzhev_chosen.Goals as goal

pub returns : goal.returns
returns c = query-exported (chosen_query c.args.set) c.args.rows.now c.plan_chosen-p.ensures c.tell_list.new.rows c.tell_list.ensures
