-- `feeding::finish` meets its contract. Assumes nothing.
use Rattle.framing.specs.Laws.Feeding.{finishes-none, finishes-line}
use Rattle.framing.proofs.feeding.finish.Goals as goal

pub returns-then-not-is_begun : goal.returns-then-not-is_begun
returns-then-not-is_begun c = finishes-none _ _ c.is_begun.ensures _ (c.if-not-is_begun.true)

pub returns : goal.returns
returns c =
    let p = c.args.p in
    let made = c.answer-r in
    finishes-line p _ c.is_begun.ensures made.result _ _ (c.if-not-is_begun.false) made.ensures
