use mathlib.Core.Path.{sym, ◌∙◌}
use native.Mathlib.Omega.{arith}
use Rattle.model.specs.Hours.{window_bad}
use Rattle.promises.specs.Answers.{window_at}
use Rattle.search.specs.Laws.Search.{none-empty, none_more}
use Rattle.hours.specs.Laws.Windows.{no-window, some-window, fifth-bad, few-bad}
use Rattle.hours.proofs.windows.hours_bad.Goals as goal

pub returns-then-entry-gt-WINDOWS : goal.returns-then-entry-gt-WINDOWS
returns-then-entry-gt-WINDOWS c = sym (fifth-bad c.args.entry (omega arith))

pub loop-i-init : goal.loop-i-init
loop-i-init c = (omega arith, none-empty _ 0)

pub returns-then-window_bad : goal.returns-then-window_bad
returns-then-window_bad c =
    let entry = c.args.entry in
    let own = c.loop-i in
    let n = c.windows_in-n in
    sym
    (few-bad entry c.if-entry-gt-WINDOWS.false
    ∙ some-window entry window_bad n.result n.ensures.0 own.i c.loop-i-test.true (sym c.window_bad.ensures ∙ c.if-window_bad.true))

pub loop-i-preserved : goal.loop-i-preserved
loop-i-preserved c =
    let entry = c.args.entry in
    let own = c.loop-i in
    (omega arith, none_more (λ j. window_bad (window_at entry j)) 0 own.i own.invariant.1 (sym c.window_bad.ensures ∙ c.if-window_bad.false))

pub returns : goal.returns
returns c =
    let entry = c.args.entry in
    let n = c.windows_in-n in
    sym
    (few-bad entry c.if-entry-gt-WINDOWS.false
    ∙ no-window entry window_bad n.result n.ensures.0 (λ k a l. c.loop-i.invariant.1 k a (omega arith)))
