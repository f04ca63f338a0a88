-- `text::put_byte` meets its contract. Assumes nothing.
use native.Mathlib.Omega.{arith}
use Rattle.frame_lines.specs.Laws.Put.{put_two, put_as}
use Rattle.frame_lines.specs.Laws.Texts.{byte_text-digits}
use Rattle.frame_lines.proofs.text.put_byte.Goals as goal

pub returns : goal.returns
returns c =
    let a = c.args in
    put_as
    (byte_text-digits a.n _ _ c.digit.ensures c.digit-2.ensures)
    (put_two _ _ _ _ (omega arith))
