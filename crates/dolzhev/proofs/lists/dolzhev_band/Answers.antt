use Rattle.model.specs.Calls.{band_query}
use Rattle.calls.specs.Laws.Exported.{query-exported}
use Rattle.dolzhev.proofs.lists.dolzhev_band.Goals as goal

pub returns : goal.returns
returns c = query-exported (band_query c.args.b) c.args.rows.now c.plan_band-p.ensures c.tell_list.new.rows c.tell_list.ensures
