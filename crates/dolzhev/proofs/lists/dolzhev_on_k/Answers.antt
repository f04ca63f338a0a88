use Rattle.model.specs.Calls.{on_k_query}
use Rattle.calls.specs.Laws.Exported.{query-exported}
use Rattle.dolzhev.proofs.lists.dolzhev_on_k.Goals as goal

pub returns : goal.returns
returns c = query-exported (on_k_query c.args.k) c.args.rows.now c.plan_on_k-p.ensures c.tell_list.new.rows c.tell_list.ensures
