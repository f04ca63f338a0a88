-- `dolzhev_region` meets its contract. Assumes nothing.
use mathlib.Core.Path.{refl, ◌∙◌}
use Rattle.zorder.specs.Promise.{number_of}
use Rattle.zorder.proofs.Checks.{told-zero, told-zeros, told-all, told-costs}
use Rattle.dolzhev_zorder.proofs.dolzhev_region.Goals as goal

pub returns-in-Ok : goal.returns-in-Ok
unfolding number_of
returns-in-Ok c =
    let promise = c.in-Ok.ensures in
    let square = promise.region in
    let number = promise.number in
    record {
      refusal = number;
      detail = refl;
      near = square.near ∙ told-costs _ number _;
      far = square.far ∙ told-costs _ number _;
      side = square.side ∙ told-all _ number _;
    }

pub returns-in-Err : goal.returns-in-Err
unfolding number_of
returns-in-Err c =
    let e = c.in-Err.refusal in
    let number = c.in-Err.ensures.number in
    record {
      refusal = c.from.ensures ∙ number;
      detail = refl;
      near = told-zeros e _ number _;
      far = told-zeros e _ number _;
      side = told-zero e _ number _;
    }
