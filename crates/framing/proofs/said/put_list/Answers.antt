-- `said::put_list` meets its contract. Assumes nothing.
use Prim.Native.Nat.{ℕ, ◌+◌, ◌*◌, ◌≤◌}
use mathlib.Core.Path.{sym, ap, ◌∙◌}
use native.Mathlib.Omega.{arith}
use lib.ListN.{length-set}
use Rattle.frame_lines.specs.Reading.{most_digits}
use Rattle.frame_lines.specs.Text.{word_text}
use Rattle.framing.specs.Writing.{list_said}
use Rattle.frame_lines.specs.Laws.Put.{put_as}
use Rattle.frame_lines.specs.Laws.Texts.{word_text-low, head-length}
use Rattle.promises.proofs.Laws.Answers.{ok-accepts, err-refuses}
use Rattle.framing.specs.Laws.Said.{refused-text, list-rows, list-end, list_put}
use Rattle.framing.proofs.said.put_list.Goals as goal

enough : (count long : ℕ) → 10 + most_digits * count + 1 ≤ long → 7 ≤ long
enough count long room = omega arith

enough-head : (count long : ℕ) → 10 + most_digits * count + 1 ≤ long → 6 ≤ long
enough-head count long room = omega arith

pub returns-then-is_err : goal.returns-then-is_err
unfolding list_said
returns-then-is_err c =
    let a = c.args in
    put_as
    (refused-text a.d a.p.verdict _ c.number_of.ensures c.detail_of.ensures (err-refuses a.p.verdict (sym c.is_err.ensures.value ∙ c.if-is_err.true)))
    c.put_refusal.ensures

pub put_word-rows_at-requires : goal.put_word-rows_at-requires
put_word-rows_at-requires c =
    omega (arith, c.requires.rows.room, head-length 0 c.args.p.need)

pub put_told-end-requires : goal.put_told-end-requires
put_told-end-requires c =
    list-rows c.requires c.put_head-opened_at.ensures
    (put_as (ap word_text c.two_bytes.ensures ∙ word_text-low c.args.p.opened) c.put_word-rows_at.ensures)

pub bounds-out-end : goal.bounds-out-end
bounds-out-end c =
    list-end c.requires c.put_head-opened_at.ensures
    (put_as (ap word_text c.two_bytes.ensures ∙ word_text-low c.args.p.opened) c.put_word-rows_at.ensures)
    c.put_told-end.ensures

pub overflow_add-result : goal.overflow_add-result
overflow_add-result c = let room = bounds-out-end c in omega arith

pub shape_of-out : goal.shape_of-out
shape_of-out c =
    simp length-set
    (c.put_told-end.ensures.kept
    ∙ c.put_word-rows_at.ensures.kept
    ∙ c.put_head-opened_at.ensures.kept)

pub returns : goal.returns
returns c =
    list_put c.requires c.put_head-opened_at.ensures
    (put_as (ap word_text c.two_bytes.ensures ∙ word_text-low c.args.p.opened) c.put_word-rows_at.ensures)
    c.put_told-end.ensures
    (ok-accepts c.args.p.verdict (sym c.is_err.ensures.value ∙ c.if-is_err.false))

pub put_refusal-requires : goal.put_refusal-requires
put_refusal-requires c = enough _ _ c.requires.rows.room

pub shape_of-out-then-is_err : goal.shape_of-out-then-is_err
shape_of-out-then-is_err c = c.put_refusal.ensures.kept

pub put_head-opened_at-requires : goal.put_head-opened_at-requires
put_head-opened_at-requires c = enough-head _ _ c.requires.rows.room
