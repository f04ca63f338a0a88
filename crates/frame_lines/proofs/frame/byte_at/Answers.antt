-- `frame::byte_at` meets its contract. Assumes nothing.
use Prim.Native.Nat.{ℕ, ◌+◌, ◌*◌}
use mathlib.Core.Path.{ap₂}
use Rattle.frame_lines.specs.Reading.{byte_at}
use Rattle.frame_lines.proofs.frame.byte_at.Goals as goal

pub returns : goal.returns
unfolding byte_at
returns c = ap₂ (λ (h l : ℕ). h * 16 + l) c.value.ensures.0 c.value-2.ensures.0
