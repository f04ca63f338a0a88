-- Bytes read of a line, and the lines of the input.
use Rattle.std.specs.Prelude.{ℕ, ◌+◌, ◌<◌, Bool, cond, not, ◌≡◌, refl, eqb, length, get_or, drop}
use mathlib.Core.List.{List, [], ◌∷◌, ◌++◌, append-nil, append_assoc}
use Rattle.std.proofs.Common.{sym, ◌∙◌, eq-eqb, ne_eqb, add-one, arith, take-suc, drop-cons}
use Rattle.std.proofs.Math.Path.{ap, subst}
use Rattle.std.proofs.Math.ListN.{take}
use Rattle.frame_lines.specs.Text.{line_end}
use Rattle.frame_lines.specs.Lines.{lines_from}
use Rattle.frame_lines.specs.Reading.{Judged, Stepped, ReadOn}
use Rattle.frame_lines.specs.declared.reading.Line.{Line}

-- ---- the lines of an input

lines-byte : (line : List ℕ) (b : ℕ) (bs : List ℕ) → lines_from line (b ∷ bs) ≡ cond (eqb b line_end) (line ∷ lines_from [] bs) (lines_from (line ++ b ∷ []) bs)
unfolding lines_from
lines-byte [] b bs = refl
lines-byte (a ∷ line) b bs = refl

pub lines_end : (line : List ℕ) (b : ℕ) (bs : List ℕ) → b ≡ line_end → lines_from line (b ∷ bs) ≡ line ∷ lines_from [] bs
lines_end line b bs e =
    lines-byte line b bs
    ∙ ap (λ (x : Bool). cond x (line ∷ lines_from [] bs) (lines_from (line ++ b ∷ []) bs)) (eq-eqb b line_end e)

lines_more : (line : List ℕ) (b : ℕ) (bs : List ℕ) → (b ≡ line_end → ⊥) → lines_from line (b ∷ bs) ≡ lines_from (line ++ b ∷ []) bs
lines_more line b bs other =
    lines-byte line b bs
    ∙ ap (λ (x : Bool). cond x (line ∷ lines_from [] bs) (lines_from (line ++ b ∷ []) bs)) (ne_eqb b line_end other)

-- ---- bytes added to a line

pub read_none : (l : Line) (bytes : List ℕ) → ReadOn l bytes 0 l
read_none l bytes =
    record {
      within = omega arith;
      line = λ line j. subst (λ (x : List ℕ). Judged x l) (sym (append-nil line)) j;
      lines = λ line more. ap (λ (x : List ℕ). lines_from x (bytes ++ more)) (sym (append-nil line));
    }

module _ (bytes : List ℕ) (i : ℕ) (here : i < length bytes) where
  -- One byte more of them.
  take_more : (line : List ℕ) → (line ++ take i bytes) ++ get_or bytes i 0 ∷ [] ≡ line ++ take (i + 1) bytes
  take_more line =
      append_assoc line (take i bytes) (get_or bytes i 0 ∷ [])
      ∙ ap (λ (x : List ℕ). line ++ x) (sym (take-suc bytes i 0 here) ∙ ap (λ (n : ℕ). take n bytes) (sym (add-one i)))

  pub drop_more : drop i bytes ≡ get_or bytes i 0 ∷ drop (i + 1) bytes
  drop_more = drop-cons bytes i 0 here ∙ ap (λ (n : ℕ). get_or bytes i 0 ∷ drop n bytes) (sym (add-one i))

  pub read_more : {l l' l'' : Line} → ReadOn l bytes i l' → (get_or bytes i 0 ≡ line_end → ⊥) → Stepped l' (get_or bytes i 0) l'' → ReadOn l bytes (i + 1) l''
  unfolding Stepped
  read_more {l} {l'} {l''} so other steps =
      record {
        within = omega arith;
        line = λ line j. subst (λ (x : List ℕ). Judged x l'') (take_more line) (steps (line ++ take i bytes) (so.line line j));
        lines = λ line more.
            so.lines line more
            ∙ ap (λ (x : List ℕ). lines_from (line ++ take i bytes) (x ++ more)) drop_more
            ∙ lines_more (line ++ take i bytes) (get_or bytes i 0) (drop (i + 1) bytes ++ more) other
            ∙ ap (λ (x : List ℕ). lines_from x (drop (i + 1) bytes ++ more)) (take_more line);
      }

-- ---- the end of the input

-- A line has a byte exactly if one was counted.
pub last_line : (line : List ℕ) (l : Line) → Judged line l → lines_from line [] ≡ cond (not (eqb l.count 0)) (line ∷ []) []
unfolding lines_from
last_line [] l j = ap (λ (b : Bool). cond (not b) ([] ∷ []) []) (sym (eq-eqb l.count 0 (omega (arith, j.count))))
last_line (b ∷ line) l j =
    ap (λ (x : Bool). cond (not x) ((b ∷ line) ∷ []) []) (sym (ne_eqb l.count 0 (λ z. omega (arith, j.count))))
