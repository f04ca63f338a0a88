-- `reading::read_on` meets its contract. Assumes nothing.
use Rattle.frame_lines.specs.Reading.{ReadOn}
use Rattle.frame_lines.proofs.reading.read_on.Given as goal

abbrev pub invariant-loop-i : goal.invariant-loop-i
invariant-loop-i l = ReadOn l.initial.l l.bytes l.i l.l
