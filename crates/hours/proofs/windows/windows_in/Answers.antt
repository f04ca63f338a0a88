-- `windows::windows_in` meets its contract. Assumes nothing.
use Prim.Native.Nat.{ℕ}
use native.Mathlib.Omega.{arith}
use mathlib.Core.Logic.{inl, inr}
use lib.ListN.{get_or}
use mathlib.Core.Path.{◌≡◌, ap, ◌∙◌}
use Rattle.std.proofs.lemmas.Bool.{cases_lt}
use Rattle.promises.specs.Layout.{tab}
use Rattle.promises.specs.Answers.{window_at}
use Rattle.hours.specs.Laws.Windows.{few-windows, all-windows}
use Rattle.hours.proofs.windows.windows_in.Goals as goal

pub returns : goal.returns
returns c =
    let entry = c.args.entry in
    let slots : ℕ → _ = tab (window_at entry) in (
      elim (cases_lt (get_or entry 0 0) 4) [
        | inl few ↦ few-windows entry few ∙ ap slots (omega (arith, few))
        | inr all ↦ all-windows entry all ∙ ap slots (omega (arith, all))
      ],
      omega arith,
    )
