-- `windows::window_bad` meets its contract. Assumes nothing.
use mathlib.Core.Bool.{Bool, ◌||◌}
use mathlib.Core.Path.{ap₂}
use lib.Dec.{eqb}
use Rattle.model.specs.Hours.{window_bad}
use Rattle.promises.specs.Answers.{window_at}
use Rattle.hours.proofs.windows.window_bad.Goals as goal

pub returns : goal.returns
unfolding window_at window_bad
returns c =
    let w = window_at c.args.entry c.args.i in
    ap₂ (λ (a b : Bool). a || b || eqb w.start w.end) c.minute_bad.ensures c.minute_bad-2.ensures
