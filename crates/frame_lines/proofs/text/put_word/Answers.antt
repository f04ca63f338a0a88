-- `text::put_word` meets its contract. Assumes nothing.
use Prim.Native.Nat.{◌/◌}
use native.Mathlib.Omega.{arith}
use Rattle.frame_lines.specs.Laws.Put.{put_both}
use Rattle.frame_lines.specs.Laws.Texts.{byte_text-length}
use Rattle.frame_lines.specs.Text.{word_text}
use Rattle.frame_lines.proofs.text.put_word.Goals as goal

pub put_byte-requires : goal.put_byte-requires
put_byte-requires c =
    omega (arith, byte_text-length (c.args.n / 256))

pub returns : goal.returns
unfolding word_text
returns c =
    put_both c.put_byte-next.ensures c.put_byte.ensures
