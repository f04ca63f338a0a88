-- `frame::frame_on` meets its contract. Assumes nothing.
use Prim.Native.Nat.{ℕ, ◌+◌, ◌*◌}
use mathlib.Core.List.{List}
use mathlib.Core.Path.{sym, ap, ap₂, ◌∙◌}
use borrow.Author.Tests.{ne_eqb}
use Rattle.frame_lines.specs.Reading.{sized_frame, frame_on}
use Rattle.frame_lines.specs.declared.frame.Frame.TheVariants.{Enter, Withdraw, Recost}
use Rattle.frame_lines.proofs.frame.frame_on.Goals as goal

pub returns-in-32 : goal.returns-in-32
unfolding frame_on
returns-in-32 c =
    let a = c.args in
    c.sized.ensures
    ∙ ap₂ (λ (n : ℕ) (cs : List ℕ). sized_frame a.line.count (6 + 4 * a.d) (Enter n cs)) c.word_at-number.ensures c.costs_at-costs.ensures
    ∙ ap (λ (code : ℕ). frame_on a.d code a.line) (sym c.in-32.is)

pub returns-in-48 : goal.returns-in-48
unfolding frame_on
returns-in-48 c =
    let a = c.args in
    c.sized-in-48.ensures
    ∙ ap (λ (n : ℕ). sized_frame a.line.count 6 (Withdraw n)) c.word_at-number.ensures
    ∙ ap (λ (code : ℕ). frame_on a.d code a.line) (sym c.in-48.is)

pub returns-in-64 : goal.returns-in-64
unfolding frame_on
returns-in-64 c =
    let a = c.args in
    c.sized-in-64.ensures
    ∙ ap₂ (λ (n : ℕ) (cs : List ℕ). sized_frame a.line.count (6 + 4 * a.d) (Recost n cs)) c.word_at-number.ensures c.costs_at-costs.ensures
    ∙ ap (λ (code : ℕ). frame_on a.d code a.line) (sym c.in-64.is)

pub returns-in_default : goal.returns-in_default
unfolding frame_on
returns-in_default c =
    let other = c.in_default.in_default-own.rest in
    simp (ne_eqb _ _ other.0.0.1, ne_eqb _ _ other.0.1, ne_eqb _ _ other.1) c.sized-in_default.ensures
