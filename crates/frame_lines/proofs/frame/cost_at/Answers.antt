-- `frame::cost_at` meets its contract. Assumes nothing.
use borrow.Author.Tests.{lt-ltb, le-ltb}
use Rattle.frame_lines.specs.Reading.{cost_at}
use Rattle.frame_lines.proofs.frame.cost_at.Goals as goal

pub returns-then-j-d : goal.returns-then-j-d
unfolding cost_at
returns-then-j-d c = simp (lt-ltb _ _ c.if-j-d.true) c.word_at.ensures

pub returns-else-j-d : goal.returns-else-j-d
unfolding cost_at
returns-else-j-d c = simp (le-ltb _ _ c.if-j-d.false)
