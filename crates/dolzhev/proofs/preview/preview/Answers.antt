use Rattle.std.proofs.Common.{refl}
use Rattle.calls.specs.Laws.Exported.{preview-exported}
use Rattle.dolzhev.proofs.preview.preview.Goals as goal

pub returns : goal.returns
returns c = preview-exported refl c.args.rows.now c.plan_change-p.ensures c.tell_notice.new.rows c.tell_notice.ensures
