-- `told::put_told` meets its contract. Assumes nothing.
use Prim.Native.Nat.{◌+◌, ◌*◌, ◌≤◌}
use mathlib.Core.List.{flat_map}
use mathlib.Core.Path.{◌≡◌}
use lib.ListN.{take}
use Rattle.rows.specs.Telling.{position}
use Rattle.frame_lines.specs.Reading.{most_digits}
use Rattle.frame_lines.specs.Text.{row_text}
use Rattle.framing.specs.Writing.{telling_rows}
use Rattle.frame_lines.specs.Put.{TextPut}
use Rattle.framing.proofs.told.put_told.Given as goal

abbrev pub invariant-loop-k : goal.invariant-loop-k
invariant-loop-k l =
    (l.next ≤ l.initial.next + most_digits * l.k)
    × (l.i ≡ position l.t.told l.t.numbers l.m l.k)
    × TextPut (flat_map (row_text l.d) (take l.k (telling_rows l.t l.m))) l.initial.out l.initial.next l.out l.next
