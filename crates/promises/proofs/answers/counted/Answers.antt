-- `counted` meets its contract. Assumes nothing.
use Rattle.std.proofs.Common.{sym, ◌∙◌, ap}
use Rattle.promises.specs.Answers.{Verdict, number_of, counted}
use Rattle.promises.proofs.Laws.Answers.{reason-above, counted-refused}
use Rattle.promises.proofs.answers.counted.Goals as goal

pub returns-in-Ok : goal.returns-in-Ok
unfolding counted
returns-in-Ok c = sym (ap (λ (v : Verdict). counted (number_of v) c.args.n) c.in-Ok.is)

pub returns-in-Err : goal.returns-in-Err
returns-in-Err c =
    let is = ap (λ (v : Verdict). counted (number_of v) c.args.n) c.in-Err.is in
    sym (is ∙ counted-refused _ c.args.n (reason-above c.in-Err.field-0.reason))
