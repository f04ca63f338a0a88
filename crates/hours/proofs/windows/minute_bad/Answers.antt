-- `windows::minute_bad` meets its contract. Assumes nothing.
use Rattle.hours.specs.Laws.Windows.{minute-late}
use Rattle.hours.proofs.windows.minute_bad.Goals as goal

pub returns : goal.returns
returns c = minute-late c.args.t
