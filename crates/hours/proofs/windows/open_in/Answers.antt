-- `windows::open_in` meets its contract. Assumes nothing.
use Rattle.promises.specs.Answers.{window_at}
use Rattle.hours.specs.Laws.Windows.{open-over, open-within}
use Rattle.hours.proofs.windows.open_in.Goals as goal

pub returns-then-end-start : goal.returns-then-end-start
unfolding window_at
returns-then-end-start c = let a = c.args in open-over (window_at a.entry a.i) a.minute c.if-end-start.true

pub returns : goal.returns
unfolding window_at
returns c = let a = c.args in open-within (window_at a.entry a.i) a.minute c.if-end-start.false
