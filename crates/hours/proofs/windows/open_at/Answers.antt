use mathlib.Core.Path.{sym, ◌∙◌}
use native.Mathlib.Omega.{arith}
use Rattle.model.specs.Hours.{open_in}
use Rattle.promises.specs.Answers.{window_at}
use Rattle.search.specs.Laws.Search.{none-empty, none_more}
use Rattle.hours.specs.Laws.Windows.{no-window, some-window}
use Rattle.hours.proofs.windows.open_at.Goals as goal

pub loop-i-init : goal.loop-i-init
loop-i-init c = (omega arith, none-empty _ 0)

pub returns-then-open_in : goal.returns-then-open_in
returns-then-open_in c =
    let a = c.args in
    let own = c.loop-i in
    let n = c.windows_in-n in
    sym (some-window a.entry (open_in a.minute) n.result n.ensures.0 own.i c.loop-i-test.true (sym c.open_in.ensures ∙ c.if-open_in.true))

pub loop-i-preserved : goal.loop-i-preserved
loop-i-preserved c =
    let a = c.args in
    let own = c.loop-i in
    (omega arith, none_more (λ j. open_in a.minute (window_at a.entry j)) 0 own.i own.invariant.1 (sym c.open_in.ensures ∙ c.if-open_in.false))

pub returns : goal.returns
returns c =
    let a = c.args in
    let n = c.windows_in-n in
    sym (no-window a.entry (open_in a.minute) n.result n.ensures.0 (λ k h l. c.loop-i.invariant.1 k h (omega arith)))
