use native.Mathlib.Omega.{arith}
use lib.ListN.{get_or, take, drop}
use Prim.Native.Nat.{ℕ, ◌+◌}
use mathlib.Core.Path.{◌≡◌, ◌∙◌, ap}
use mathlib.Core.List.{◌++◌, flat_map}
use Rattle.frame_lines.specs.Laws.Put.{put-none, put_both, put_as}
use Rattle.frame_lines.specs.Laws.Texts.{byte_text-length}
use Rattle.framing.specs.Laws.Rows.{numbers_more, numbers-length, numbers-all}
use Rattle.frame_lines.specs.Text.{byte_text, word_text}
use Rattle.framing.proofs.told.put_row.Goals as goal

pub loop-j-init : goal.loop-j-init
unfolding flat_map
loop-j-init c = put-none _ _

pub put_word-next-requires : goal.put_word-next-requires
put_word-next-requires c =
    let a = c.args in
    let own = c.loop-j in
    omega (
      arith,
      numbers-length a.row (omega arith) own.j (omega arith),
      byte_text-length (get_or a.row 0 0),
    )

pub loop-j-preserved : goal.loop-j-preserved
loop-j-preserved c =
    let a = c.args in
    let own = c.loop-j in
    put_as (numbers_more a.row (omega arith) own.j (omega arith)) (put_both own.invariant c.put_word-next.ensures)

pub returns : goal.returns
returns c =
    let a = c.args in
    let own = c.loop-j in
    let all : own.j ≡ a.d + 1 = omega arith in
    put_as
    (ap (λ (n : ℕ). byte_text (get_or a.row 0 0) ++ flat_map word_text (take n (drop 1 a.row))) all ∙ numbers-all a.row (omega arith) a.d)
    (put_both c.put_byte-next.ensures own.invariant)
