-- `text::put_refusal` meets its contract. Assumes nothing.
use native.Mathlib.Omega.{arith}
use Rattle.frame_lines.specs.Laws.Put.{put_one, put_both}
use Rattle.frame_lines.specs.Laws.Texts.{head-length}
use Rattle.frame_lines.specs.Text.{said_text, answer_text}
use Rattle.frame_lines.specs.Put.{head_text}
use Rattle.frame_lines.proofs.text.put_refusal.Goals as goal

pub bounds-out-end : goal.bounds-out-end
bounds-out-end c =
    let a = c.args in
    omega (arith, head-length a.number a.detail)

pub returns : goal.returns
unfolding head_text said_text answer_text
returns c = put_both c.put_head-end.ensures (put_one _ _ _ (bounds-out-end c))
