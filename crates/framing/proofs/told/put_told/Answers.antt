use mathlib.Core.List.{flat_map}
use mathlib.Core.Path.{refl}
use native.Mathlib.Omega.{arith}
use Rattle.promises.specs.Answers.{result_row}
use Rattle.rows.specs.Telling.{position}
use Rattle.frame_lines.specs.Laws.Put.{put-none, put_both, put_as}
use Rattle.framing.specs.Laws.Rows.{row_text-most}
use Rattle.framing.specs.Laws.Told.{position-more, told_more, told-end}
use Rattle.framing.proofs.told.put_told.Goals as goal

pub loop-k-init : goal.loop-k-init
unfolding flat_map position
loop-k-init c = (omega arith, refl, put-none _ _)

pub loop-k-preserved : goal.loop-k-preserved
loop-k-preserved c =
    let a = c.args in
    let own = c.loop-k in
    let told = c.told_next-s in (
      omega (arith, row_text-most a.d (result_row told.result.row)),
      position-more a.t a.m.now own.k own.invariant.1 told.ensures.1,
      put_as
          (told_more a.t a.m.now c.requires own.k (omega arith) own.invariant.1 told.ensures.0)
          (put_both own.invariant.2 c.put_row-next.ensures),
    )

pub returns : goal.returns
returns c =
    let a = c.args in
    let own = c.loop-k in
    put_as (told-end a.t a.m.now c.requires {k = own.k} (omega arith)) own.invariant.2
