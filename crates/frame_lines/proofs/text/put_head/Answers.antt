-- `text::put_head` meets its contract. Assumes nothing.
use mathlib.Core.Path.{ap, ◌∙◌}
use mathlib.Core.List.{List, ◌++◌}
use Prim.Native.Nat.{ℕ}
use native.Mathlib.Omega.{arith}
use Rattle.frame_lines.specs.Laws.Put.{put_both, put_as}
use Rattle.frame_lines.specs.Laws.Texts.{byte_text-length, word_text-low}
use Rattle.frame_lines.specs.Text.{byte_text, word_text}
use Rattle.frame_lines.specs.Put.{head_text}
use Rattle.frame_lines.proofs.text.put_head.Goals as goal

pub put_word-requires : goal.put_word-requires
put_word-requires c = omega (arith, byte_text-length c.args.number)

pub returns : goal.returns
unfolding head_text
returns c =
    let a = c.args in
    put_as
    (ap (λ (l : List ℕ). byte_text a.number ++ l) (ap word_text c.two_bytes.ensures ∙ word_text-low a.n))
    (put_both c.put_byte-next.ensures c.put_word.ensures)
