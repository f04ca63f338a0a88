use Rattle.std.proofs.Common.{arith, rules, subst, ◌≡◌}
use Rattle.loading.specs.Judge.{RowJudged}
use Rattle.std.proofs.lemmas.Result.{err_from_is_err_and}
use Rattle.loading.proofs.Judging.{none_passed, mapped-err, mapped-ok, row-below, row-refused, row-passed, all-passed}
use Rattle.loading.proofs.judge.judge.Goals as goal

pub loop-place-init : goal.loop-place-init
loop-place-init c = none_passed c.args.c c.args.d c.args.rows.now c.empty-seen.result c.empty-seen.ensures

pub returns-in_err-map_err : goal.returns-in_err-map_err
returns-in_err-map_err c =
    let p = err_from_is_err_and c.from_residual.result c.from_residual.ensures.1 in
    let q = mapped-err c.judge_row.result _ c.map_err.ensures.cases c.in_err-map_err.was in
    let h = q.2 in
    let at : c.in_err-map_err.field-0.0 ≡ record { reason = q.0; detail = c.loop-place.place-counter } = search rules in
    rw (p.1, p.2, at) (row-refused c.loop-place.invariant (omega arith) (subst (RowJudged c.args.c c.args.d _ c.loop-place.seen) q.1 c.judge_row.ensures))

pub add-requires : goal.add-requires
add-requires c =
    let q = mapped-ok c.judge_row.result _ c.map_err.ensures.cases c.in_ok-map_err.was in
    omega (arith, c.number_of.ensures.0, c.requires, row-below (subst (RowJudged c.args.c c.args.d _ c.loop-place.seen) q c.judge_row.ensures))

pub loop-place-preserved : goal.loop-place-preserved
loop-place-preserved c =
    let q = mapped-ok c.judge_row.result _ c.map_err.ensures.cases c.in_ok-map_err.was in
    row-passed c.loop-place.invariant (omega arith) (subst (RowJudged c.args.c c.args.d _ c.loop-place.seen) q c.judge_row.ensures) c.number_of.ensures.0 c.add.ensures

pub returns : goal.returns
returns c = all-passed c.loop-place.invariant (omega arith)
