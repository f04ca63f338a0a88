-- `dolzhev_costs_of` meets its contract. Assumes nothing.
use mathlib.Core.Path.{refl, ◌∙◌}
use Rattle.zorder.specs.Promise.{number_of}
use Rattle.zorder.proofs.Checks.{told-zeros, told-costs}
use Rattle.dolzhev_zorder.proofs.dolzhev_costs_of.Goals as goal

pub returns-in-Ok : goal.returns-in-Ok
unfolding number_of
returns-in-Ok c =
    let promise = c.in-Ok.ensures in
    record { refusal = promise.number; detail = refl; costs = promise.costs ∙ told-costs _ promise.number _ }

pub returns-in-Err : goal.returns-in-Err
unfolding number_of
returns-in-Err c =
    let number = c.in-Err.ensures.number in
    record { refusal = c.from.ensures ∙ number; detail = refl; costs = told-zeros c.in-Err.refusal _ number _ }
