use Rattle.std.proofs.Common.{ap, subst, ◌∙◌}
use Rattle.planning.specs.Kind.{call_of}
use Rattle.calls.specs.Exported.{rows_of, PreviewExported}
use Rattle.calls.specs.Laws.Asked.{recost-asked}
use Rattle.dolzhev.proofs.preview.dolzhev_preview_recost.Goals as goal

pub returns : goal.returns
returns c =
    subst (λ x. PreviewExported x c.args.memory.now (rows_of c.args.rows.now) c.preview.result (rows_of c.preview.new.rows))
    (ap call_of c.asked_recost.ensures ∙ recost-asked c.args.given) c.preview.ensures
