-- `told::put_row` meets its contract. Assumes nothing.
use lib.ListN.{take, drop}
use mathlib.Core.List.{flat_map}
use Rattle.frame_lines.specs.Text.{word_text}
use Rattle.frame_lines.specs.Put.{TextPut}
use Rattle.framing.proofs.told.put_row.Given as goal

abbrev pub invariant-loop-j : goal.invariant-loop-j
invariant-loop-j l =
    TextPut (flat_map word_text (take l.j (drop 1 l.row))) l.initial.out l.initial.next l.out l.next
