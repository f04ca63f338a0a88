-- `said::put_change` meets its contract. Assumes nothing.
use Prim.Native.Nat.{ℕ, ◌+◌, ◌*◌, ◌≤◌}
use mathlib.Core.List.{List}
use mathlib.Core.Path.{◌≡◌, sym, ap, ◌∙◌}
use native.Mathlib.Omega.{arith}
use lib.ListN.{length-set}
use Rattle.rows.specs.declared.telling.Telling.{Telling}
use Rattle.frame_lines.specs.Reading.{most_digits}
use Rattle.frame_lines.specs.Text.{rows_text}
use Rattle.frame_lines.specs.Put.{TextPut}
use Rattle.framing.specs.Writing.{telling_rows, change_said}
use Rattle.frame_lines.specs.Laws.Put.{put_as}
use Rattle.promises.proofs.Laws.Answers.{ok-accepts, err-refuses}
use Rattle.framing.specs.Laws.Said.{refused-text, left-rows, entered-rows, change-end, change-put}
use Rattle.framing.proofs.said.put_change.Goals as goal

enough : (count long : ℕ) → 6 + most_digits * count + 1 ≤ long → 7 ≤ long
enough count long room = omega arith

enough-head : (count long : ℕ) → 6 + most_digits * count + 1 ≤ long → 6 ≤ long
enough-head count long room = omega arith

-- The rows of a telling that is the same.
told-as : (d : ℕ) (m : List ℕ) (t u : Telling) {o o' : List ℕ} {i j : ℕ} → t ≡ u → TextPut (rows_text d (telling_rows t m)) o i o' j → TextPut (rows_text d (telling_rows u m)) o i o' j
told-as d m t u same = put_as (ap (λ (t : Telling). rows_text d (telling_rows t m)) same)

pub returns-then-is_err : goal.returns-then-is_err
unfolding change_said
returns-then-is_err c =
    let a = c.args in
    put_as
    (refused-text a.d a.p.verdict _ c.number_of.ensures c.detail_of.ensures (err-refuses a.p.verdict (sym c.is_err.ensures.value ∙ c.if-is_err.true)))
    c.put_refusal.ensures

pub put_told-entered_at-requires : goal.put_told-entered_at-requires
put_told-entered_at-requires c = left-rows c.requires c.put_head-left_at.ensures c.left_of.ensures

pub put_told-end-requires : goal.put_told-end-requires
put_told-end-requires c =
    entered-rows c.requires c.put_head-left_at.ensures (told-as c.args.d c.args.m.now _ _ c.left_of.ensures c.put_told-entered_at.ensures) c.entered_of.ensures

pub bounds-out-end : goal.bounds-out-end
bounds-out-end c =
    change-end c.requires c.put_head-left_at.ensures
    (told-as c.args.d c.args.m.now _ _ c.left_of.ensures c.put_told-entered_at.ensures)
    (told-as c.args.d c.args.m.now _ _ c.entered_of.ensures c.put_told-end.ensures)

pub overflow_add-result : goal.overflow_add-result
overflow_add-result c =
    omega (arith, bounds-out-end c, c.well_formed, c.ranges, c.put_head-left_at.ensures.kept, c.put_told-entered_at.ensures.kept, c.put_told-end.ensures.kept)

pub shape_of-out : goal.shape_of-out
shape_of-out c =
    simp length-set
    (c.put_told-end.ensures.kept
    ∙ c.put_told-entered_at.ensures.kept
    ∙ c.put_head-left_at.ensures.kept)

pub returns : goal.returns
returns c =
    change-put c.requires c.put_head-left_at.ensures
    (told-as c.args.d c.args.m.now _ _ c.left_of.ensures c.put_told-entered_at.ensures)
    (told-as c.args.d c.args.m.now _ _ c.entered_of.ensures c.put_told-end.ensures)
    (ok-accepts c.args.p.verdict (sym c.is_err.ensures.value ∙ c.if-is_err.false))

pub put_refusal-requires : goal.put_refusal-requires
put_refusal-requires c = enough _ _ c.requires.leaves.room

pub shape_of-out-then-is_err : goal.shape_of-out-then-is_err
shape_of-out-then-is_err c = c.put_refusal.ensures.kept

pub put_head-left_at-requires : goal.put_head-left_at-requires
put_head-left_at-requires c = enough-head _ _ c.requires.leaves.room

pub entered_of-requires : goal.entered_of-requires
entered_of-requires c = c.requires.within
