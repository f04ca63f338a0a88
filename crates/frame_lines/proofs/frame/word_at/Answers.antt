-- `frame::word_at` meets its contract. Assumes nothing.
use Prim.Native.Nat.{ℕ, ◌+◌, ◌*◌}
use mathlib.Core.Path.{ap₂}
use Rattle.frame_lines.specs.Reading.{word_spelled}
use Rattle.frame_lines.proofs.frame.word_at.Goals as goal

pub returns : goal.returns
unfolding word_spelled
returns c = ap₂ (λ (h l : ℕ). h * 256 + l) c.byte_at.ensures c.byte_at-2.ensures
