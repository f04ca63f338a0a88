-- `frame::frame_by` meets its contract. Assumes nothing.
use borrow.Author.Tests.{eq-eqb, ne_eqb}
use Prim.Native.Nat.{ℕ}
use mathlib.Core.Bool.{Bool, false, cond}
use mathlib.Core.List.{[], ◌∷◌}
use mathlib.Core.Logic.{inl, inr}
use mathlib.Core.Path.{◌≡◌, refl, sym, ap, ◌∙◌}
use lib.Dec.{eqb}
use types.Run.{OneOf}
use Rattle.model.specs.Basics.{any, has}
use Rattle.frame_lines.specs.Frames.{call_codes}
use Rattle.frame_lines.specs.Reading.{sized_frame, frame_on, frame_by}
use Rattle.frame_lines.specs.declared.frame.Frame.TheVariants.{Load, Early}
use Rattle.frame_lines.specs.declared.reading.Line.{Line}
use Rattle.frame_lines.proofs.frame.frame_by.Goals as goal

module _ (d code : ℕ) (line : Line) where
  -- Of a call, at the number that its code is.
  at_code : (n : ℕ) → code ≡ n → cond (eqb d 0) Early (frame_on d n line) ≡ frame_by d n line → cond (eqb d 0) Early (frame_on d code line) ≡ frame_by d code line
  at_code n e same =
      ap (λ (x : ℕ). cond (eqb d 0) Early (frame_on d x line)) e ∙ same ∙ ap (λ (x : ℕ). frame_by d x line) (sym e)

  called : OneOf (0x20 ∷ 0x30 ∷ 0x40 ∷ 0x50 ∷ []) code → cond (eqb d 0) Early (frame_on d code line) ≡ frame_by d code line
  unfolding frame_by has any call_codes
  called (inl e) = at_code 0x20 e refl
  called (inr (inl e)) = at_code 0x30 e refl
  called (inr (inr (inl e))) = at_code 0x40 e refl
  called (inr (inr (inr e))) = at_code 0x50 e refl

other : (code : ℕ) → (OneOf (0x20 ∷ 0x30 ∷ 0x40 ∷ 0x50 ∷ []) code → ⊥) → has code call_codes ≡ false
unfolding has any call_codes
other code none =
    simp (
      ne_eqb code 0x20 (λ e. none (inl e)),
      ne_eqb code 0x30 (λ e. none (inr (inl e))),
      ne_eqb code 0x40 (λ e. none (inr (inr (inl e)))),
      ne_eqb code 0x50 (λ e. none (inr (inr (inr e)))),
    )

pub returns-in-16 : goal.returns-in-16
unfolding frame_by
returns-in-16 c =
    let a = c.args in
    c.sized.ensures
    ∙ ap (λ (n : ℕ). sized_frame a.line.count 4 (Load n)) c.byte_at-dimension.ensures
    ∙ ap (λ (code : ℕ). frame_by a.d code a.line) (sym c.in-16.is)

pub returns-in_default : goal.returns-in_default
unfolding frame_by
returns-in_default c = simp (ne_eqb _ _ c.in_default.in_default-own.rest.0.1, other c.args.code c.in_default.in_default-own.rest.1)

pub returns-then-d-eq0 : goal.returns-then-d-eq0
returns-then-d-eq0 c =
    let a = c.args in
    ap (λ (b : Bool). cond b Early (frame_on a.d a.code a.line)) (sym (eq-eqb a.d 0 c.if-d-eq0.true))
    ∙ called a.d a.code a.line c.in-32.is

pub returns : goal.returns
returns c =
    let a = c.args in
    c.frame_on.ensures
    ∙ ap (λ (b : Bool). cond b Early (frame_on a.d a.code a.line)) (sym (ne_eqb a.d 0 c.if-d-eq0.false))
    ∙ called a.d a.code a.line c.in-32.is
