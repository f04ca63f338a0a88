-- `flags::flags_right` meets its contract. Assumes nothing.
use mathlib.Core.Bool.{Bool, ◌&&◌}
use mathlib.Core.Path.{sym, ap, ◌∙◌}
use Rattle.memory.specs.Tests.{listed_right}
use Rattle.skyline.specs.Laws.Halves.{flags-halves}
use Rattle.skyline.proofs.flags.flags_right.Goals as goal

pub returns-then-not-hidden_right : goal.returns-then-not-hidden_right
returns-then-not-hidden_right c =
    let a = c.args in
    let b = a.b.now in
    let half = c.hidden_right in
    sym
    (flags-halves b.head.size b.head.dimension b.head.count b.bytes.now
    ∙ ap (λ (t : Bool). t && listed_right b.head.size b.head.dimension b.head.count b.bytes.now) (sym half.ensures ∙ c.if-not-hidden_right.true))

pub returns : goal.returns
returns c =
    let a = c.args in
    let b = a.b.now in
    let half = c.hidden_right in
    c.listed_right.ensures
    ∙ sym
    (flags-halves b.head.size b.head.dimension b.head.count b.bytes.now
    ∙ ap (λ (t : Bool). t && listed_right b.head.size b.head.dimension b.head.count b.bytes.now) (sym half.ensures ∙ c.if-not-hidden_right.false))
