-- `serving::loaded` meets its contract. Assumes nothing.
use Rattle.std.proofs.Common.{not, ap, ◌∙◌, arith}
use Rattle.promises.proofs.Laws.Answers.{ok-accepts, err-refuses}
use Rattle.framing.specs.Laws.Serving.{served-load, served-refusal}
use Rattle.framing.proofs.serving.loaded.Goals as goal

pub returns-then-is_ok : goal.returns-then-is_ok
returns-then-is_ok c =
    let made = c.load-verdict in
    served-load c.args.asked _ _ made.result made.ensures c.requires.lent.memory c.args.d _ _ _ c.put_loaded-answered.ensures
    (ok-accepts made.result (c.is_ok.ensures.negation ∙ ap not c.if-is_ok.true))

pub returns : goal.returns
returns c =
    let made = c.load-verdict in
    served-refusal c.args.asked _ _ made.result made.ensures c.requires.lent.memory c.args.d _ _ _ c.put_loaded-answered.ensures
    (λ z. omega (arith, z, err-refuses made.result (c.is_ok.ensures.negation ∙ ap not c.if-is_ok.false)))
