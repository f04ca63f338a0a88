-- `reading::Line::is_begun` meets its contract. Assumes nothing.
use Rattle.frame_lines.specs.Reading.{LastLine}
use Rattle.frame_lines.specs.Laws.Lines.{last_line}
use Rattle.frame_lines.proofs.reading.Line.is_begun.Goals as goal

pub returns : goal.returns
unfolding LastLine
returns c = λ line j. last_line line _ j
