-- `frame::frame_of` meets its contract. Assumes nothing.
use Prim.Native.Nat.{ℕ}
use mathlib.Core.Path.{◌≡◌, sym, ap, subst, ◌∙◌}
use borrow.Author.Tests.{not-true, not-false}
use Rattle.frame_lines.specs.Reading.{Framed, frame_by, line_frame}
use Rattle.frame_lines.specs.Laws.Frames.{framed-line}
use Rattle.frame_lines.specs.declared.frame.Frame.TheVariants.{Wrong}
use Rattle.frame_lines.proofs.frame.frame_of.Goals.{then-line-via-then-line, then-line-via-else-line+then-not-line}
use Rattle.frame_lines.proofs.frame.frame_of.Goals as goal

pub returns-then-line : goal.returns-then-line
unfolding line_frame
returns-then-line c =
    let a = c.args in
    let wrong : line_frame a.d a.line ≡ Wrong =
    elim c.then-line.branch [
      | then-line-via-then-line w ↦ simp w.if-line.true
      | then-line-via-else-line+then-not-line w ↦ simp (w.if-line.false, not-true _ w.if-not-line.true)
    ] in
    subst (Framed a.d a.line) wrong (framed-line a.d a.line c.requires)

pub returns : goal.returns
unfolding line_frame
returns c =
    let a = c.args in
    let first = ap (λ (code : ℕ). frame_by a.d code a.line) c.byte_at.ensures in
    let found : line_frame a.d a.line ≡ c.frame_by.result =
    simp (c.if-line.false, not-false _ c.if-not-line.false) (sym (c.frame_by.ensures ∙ first)) in
    subst (Framed a.d a.line) found (framed-line a.d a.line c.requires)
