use Rattle.std.proofs.Common.{refl}
use Rattle.calls.specs.Laws.Exported.{change-exported}
use Rattle.dolzhev.proofs.change.change.Goals as goal

pub returns : goal.returns
returns c = change-exported refl c.args.rows.now c.plan_change-p.ensures c.tell_notice-r.new.rows c.tell_notice-r.ensures c.carry_out.ensures
