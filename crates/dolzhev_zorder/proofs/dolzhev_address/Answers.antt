-- `dolzhev_address` meets its contract. Assumes nothing.
use mathlib.Core.Path.{refl, ap, ◌∙◌}
use Rattle.zorder.specs.Promise.{number_of}
use Rattle.zorder.specs.Words.{words_of}
use Rattle.zorder.proofs.Checks.{told-zero, told-all}
use Rattle.dolzhev_zorder.proofs.dolzhev_address.Goals as goal

pub returns-in-Ok : goal.returns-in-Ok
unfolding number_of
returns-in-Ok c =
    let promise = c.in-Ok.ensures in
    record { refusal = promise.number; detail = refl; address = promise.address ∙ ap words_of (told-all _ promise.number _) }

pub returns-in-Err : goal.returns-in-Err
unfolding number_of words_of
returns-in-Err c =
    let number = c.in-Err.ensures.number in
    record { refusal = c.from.ensures ∙ number; detail = refl; address = ap words_of (told-zero c.in-Err.refusal _ number _) }
