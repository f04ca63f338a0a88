use Rattle.std.proofs.Common.{map}
use Rattle.model.specs.Calls.{hours_query}
use Rattle.promises.specs.Answers.{block_hours}
use Rattle.calls.specs.Laws.Exported.{query-exported}
use Rattle.dolzhev.proofs.lists.dolzhev_hours.Goals as goal

pub returns : goal.returns
returns c = query-exported (hours_query c.args.minute (map block_hours c.args.hours.now)) c.args.rows.now c.plan_hours-p.ensures c.tell_list.new.rows c.tell_list.ensures
