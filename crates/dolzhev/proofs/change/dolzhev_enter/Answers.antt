use Rattle.std.proofs.Common.{ap, subst, ◌∙◌}
use Rattle.planning.specs.Kind.{call_of}
use Rattle.calls.specs.Exported.{rows_of, ChangeExported}
use Rattle.calls.specs.Laws.Asked.{enter-asked}
use Rattle.dolzhev.proofs.change.dolzhev_enter.Goals as goal

pub returns : goal.returns
returns c =
    subst (λ x. ChangeExported x c.args.memory.now (rows_of c.args.rows.now) c.change.result c.change.new.memory (rows_of c.change.new.rows))
    (ap call_of c.asked_enter.ensures ∙ enter-asked c.args.given) c.change.ensures
