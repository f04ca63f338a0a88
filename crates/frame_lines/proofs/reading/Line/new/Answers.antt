-- `reading::Line::new` meets its contract. Assumes nothing.
use Rattle.frame_lines.specs.Laws.Judged.{judged-none}
use Rattle.frame_lines.proofs.reading.Line.new.Goals as goal

pub returns : goal.returns
returns c = judged-none
