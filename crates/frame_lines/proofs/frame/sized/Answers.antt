-- `frame::sized` meets its contract. Assumes nothing.
use borrow.Author.Tests.{eq-eqb, ne_eqb}
use Rattle.frame_lines.specs.Reading.{sized_frame}
use Rattle.frame_lines.proofs.frame.sized.Goals as goal

pub returns-then-count-n : goal.returns-then-count-n
unfolding sized_frame
returns-then-count-n c = simp (eq-eqb _ _ c.if-count-n.true)

pub returns-else-count-n : goal.returns-else-count-n
unfolding sized_frame
returns-else-count-n c = simp (ne_eqb _ _ c.if-count-n.false)
