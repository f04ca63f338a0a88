-- `said::put_loaded` meets its contract. Assumes nothing.
use Prim.Native.Nat.{ℕ}
use mathlib.Core.Path.{ap₂}
use Rattle.frame_lines.specs.Laws.Put.{put_as}
use Rattle.frame_lines.specs.Text.{refused, answer_text}
use Rattle.framing.specs.Writing.{load_said}
use Rattle.framing.proofs.said.put_loaded.Goals as goal

pub returns : goal.returns
unfolding load_said
returns c =
    put_as (ap₂ (λ (n k : ℕ). answer_text 0 (refused n k)) c.number_of.ensures c.detail_of.ensures) c.put_refusal.ensures
