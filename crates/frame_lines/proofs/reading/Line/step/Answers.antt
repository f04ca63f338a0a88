-- `reading::Line::step` meets its contract. Assumes nothing.
use mathlib.Core.Bool.{Bool, ◌&&◌}
use mathlib.Core.Path.{sym, ap, ◌∙◌}
use Rattle.frame_lines.specs.Reading.{Stepped}
use Rattle.frame_lines.specs.Laws.Judged.{stepped}
use Rattle.frame_lines.proofs.reading.Line.step.Goals as goal

pub returns-then-is_digit : goal.returns-then-is_digit
unfolding Stepped
returns-then-is_digit c =
    let a = c.args in
    let digit = sym c.if-is_digit.true ∙ c.is_digit.ensures in
    λ line j.
    stepped line a.b a.self j
    c.placed.ensures
    c.counted.ensures
    (ap (λ (x : Bool). x && a.self.spelled) digit)

pub returns-else-is_digit : goal.returns-else-is_digit
unfolding Stepped
returns-else-is_digit c =
    let a = c.args in
    let digit = sym c.if-is_digit.false ∙ c.is_digit.ensures in
    λ line j.
    stepped line a.b a.self j
    c.placed.ensures
    c.counted.ensures
    (c.if-is_digit.false ∙ ap (λ (x : Bool). x && a.self.spelled) digit)
