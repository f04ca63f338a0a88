-- `load` meets its contract: its checks are those of the definition, in their order. Assumes nothing.
use Rattle.std.proofs.Common.{refl}
use Rattle.std.proofs.lemmas.Result.{err_from_is_err_and}
use Rattle.model.specs.Calls.{memory_need}
use Rattle.model.proofs.Laws.Loading.{size-most}
use Rattle.model.proofs.Laws.Order.{dimension-most}
use Rattle.loading.proofs.Answering.{able, acceptable, check-refuses, rows-refuse, load-accepted}
use Rattle.loading.proofs.load.Goals as goal

pub returns-in_err-check : goal.returns-in_err-check
returns-in_err-check c =
    let p = err_from_is_err_and c.from_residual.result c.from_residual.ensures.1 in
    rw (p.1, p.2) (check-refuses c.in_err-check.ensures refl)

pub judge-requires : goal.judge-requires
judge-requires c =
    let known = able c.in_ok-check.ensures in
    (size-most c.args.c known.size, dimension-most c.args.d known.dimension)

pub returns-in_err-judge : goal.returns-in_err-judge
returns-in_err-judge c =
    let p = err_from_is_err_and c.from_residual-in_err-judge.result c.from_residual-in_err-judge.ensures.1 in
    rw (p.1, p.2) (rows-refuse c.in_ok-check.ensures c.in_err-judge.ensures refl)

pub fill-requires : goal.fill-requires
unfolding memory_need
fill-requires c =
    let known = able c.in_ok-check.ensures in
    record { room = ((known.room, size-most c.args.c known.size), known.size, known.dimension); acceptable = acceptable c.in_ok-judge.ensures }

pub returns : goal.returns
returns c = load-accepted c.in_ok-check.ensures c.in_ok-judge.ensures c.fill.ensures
