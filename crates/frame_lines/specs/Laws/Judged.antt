-- What is kept of a line, with one byte more.
use Rattle.std.specs.Prelude.{ℕ, suc, ◌+◌, ◌%◌, ◌<◌, ◌≤◌, min, Bool, true, false, cond, ◌&&◌, List, [], ◌∷◌, ◌++◌, ◌≡◌, refl, ltb, length, get_or, replicate}
use Rattle.std.proofs.Math.Bool.{not, and-true, and_comm}
use Rattle.std.proofs.Math.Path.{sym, ap, ap₂}
use Rattle.std.proofs.Common.{◌∙◌, eq-eqb, ne_eqb, eqb-true, ltb-true, ltb-false, arith, length-append}
use Rattle.std.proofs.lemmas.Bool.{eqb-false}
use Rattle.std.proofs.Math.Dec.{eqb}
use Rattle.std.proofs.lemmas.List.{get_or-replicate}
use Rattle.std.proofs.Math.ListN.{get_or-append, get_or-eq_default}
use Rattle.std.proofs.Math.Seq.{get_or-append_seam}
use Rattle.model.specs.Basics.{all}
use Rattle.model.proofs.Laws.Basics.{all_append}
use Rattle.model.proofs.Laws.Bool.{by_cases, test_cases}
use Rattle.frame_lines.specs.Digits.{is_digit}
use Rattle.frame_lines.specs.Reading.{most_digits, Judged, ByteKept}
use Rattle.frame_lines.specs.declared.reading.Line.{Line}

pub judged-none : Judged [] (record { first = replicate most_digits 0; count = 0; odd = false; spelled = true })
unfolding all
judged-none = record { first = λ i h. get_or-replicate most_digits i 0 0 h; count = refl; odd = refl; spelled = refl }

odd-next : (n : ℕ) → not (eqb (n % 2) 1) ≡ eqb ((n + 1) % 2) 1
odd-next n =
    test_cases (λ (b : Bool). not b ≡ eqb ((n + 1) % 2) 1) (eqb (n % 2) 1)
    (λ e. let odd : n % 2 ≡ 1 = eqb-true (n % 2) 1 e in sym (ne_eqb ((n + 1) % 2) 1 (λ z. omega arith)))
    (λ e. let even : n % 2 ≡ 1 → ⊥ = eqb-false (n % 2) 1 e in sym (eq-eqb ((n + 1) % 2) 1 (omega arith)))

-- A line reads 0 past its end, so one byte more changes the reading at its place alone.
module _ (line : List ℕ) (b : ℕ) where
  more-length : length (line ++ b ∷ []) ≡ length line + 1
  more-length = length-append line (b ∷ [])

  more-other : (i : ℕ) → (i ≡ length line → ⊥) → get_or line i 0 ≡ get_or (line ++ b ∷ []) i 0
  more-other i other =
      by_cases (ltb i (length line))
      (λ e. sym (get_or-append line (b ∷ []) 0 i (ltb-true i (length line) e)))
      (λ e.
      let past : length line ≤ i = ltb-false i (length line) e in
      get_or-eq_default line 0 {n = i} past
      ∙ sym (get_or-eq_default (line ++ b ∷ []) 0 {n = i} (omega (arith, more-length))))

-- A byte more: its place is kept if it is among the first, and the count goes up to one more than the longest frame has.
module _ (line : List ℕ) (b : ℕ) (l : Line) (j : Judged line l) where
  first_more : (i : ℕ) → i < most_digits → cond (eqb i l.count) b (get_or l.first i 0) ≡ get_or (line ++ b ∷ []) i 0
  first_more i h =
      test_cases (λ (x : Bool). cond x b (get_or l.first i 0) ≡ get_or (line ++ b ∷ []) i 0) (eqb i l.count)
      (λ e.
      let at : length line ≡ i = omega (arith, eqb-true i l.count e, j.count) in
      sym (get_or-append_seam line b [] 0) ∙ ap (λ (n : ℕ). get_or (line ++ b ∷ []) n 0) at)
      (λ e.
      let off : i ≡ l.count → ⊥ = eqb-false i l.count e in
      j.first i h ∙ more-other line b i (λ z. off (omega (arith, j.count))))

  pub stepped : {first : List ℕ} {count : ℕ} {spelled : Bool}
      → ByteKept l.first l.count b first
      → count ≡ min (l.count + 1) (suc most_digits)
      → spelled ≡ (is_digit b && l.spelled)
      → Judged (line ++ b ∷ []) (record { first = first; count = count; odd = not l.odd; spelled = spelled })
  unfolding ByteKept all
  stepped kept counts spells =
      record {
        first = λ i h. kept i h ∙ first_more i h;
        count = omega (arith, counts, j.count, more-length line b);
        odd =
            ap not j.odd
            ∙ odd-next (length line)
            ∙ ap (λ (n : ℕ). eqb (n % 2) 1) (sym (more-length line b));
        spelled =
            spells
            ∙ and_comm (is_digit b) l.spelled
            ∙ ap₂ (λ (x y : Bool). x && y) j.spelled (sym (and-true (is_digit b)))
            ∙ sym (all_append is_digit line (b ∷ []));
      }
