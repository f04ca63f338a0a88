-- The frame that the code finds is the line's.
use Rattle.zorder.specs.Address.{row_costs}
use Prim.Native.Nat.{ℕ, zero, suc, ◌+◌, ◌*◌, ◌/◌, ◌%◌, ◌<◌, ◌≤◌, min}
use Rattle.std.proofs.Math.Bool.{Bool, cond}
use Rattle.std.specs.Prelude.{true, false, not, ◌&&◌, ◌≡◌, ltb, drop}
use mathlib.Core.List.{List, [], ◌∷◌, map}
use Rattle.std.proofs.Math.Path.{refl, sym, ap, ap₂}
use Rattle.std.proofs.Common.{◌∙◌, get_or-drop}
use borrow.Author.Tests.{eq-eqb, ne_eqb, eqb-true, eqb-false}
use native.Mathlib.Omega.{arith}
use Rattle.std.proofs.Math.Dec.{eqb}
use Rattle.std.proofs.Math.ListN.{length, get_or, length-drop, get_or-map}
use Rattle.std.proofs.lemmas.List.{length-map}
use Rattle.model.specs.Basics.{all, any, has, within}
use Rattle.model.specs.Calls as calls
use Rattle.model.specs.Calls.{enter, withdraw, recost}
use Rattle.model.proofs.Laws.Bool.{test_cases, cond_cases, both_ways, same_test, cond_map}
use Rattle.frame_lines.specs.Digits.{is_digit, value_of, bytes_of, numbers_of}
use Rattle.frame_lines.specs.State.{State, unloaded, holds}
use Rattle.frame_lines.specs.Frames.{Frame, load, change, wrong, sized, frame_number, frame_costs, call_frame, board_frame, call_codes, frame_in, whole_bytes, frame_of}
use Rattle.frame_lines.specs.Reading.{most_digits, Judged, byte_at, word_spelled, cost_at, costs_at, sized_frame, frame_on, frame_by, line_frame, as_frame, calling, Timely, CostsHeld, Framed}
use Rattle.frame_lines.specs.Laws.Pairs.{joined_length, joined_at, tab-padded}
use Rattle.frame_lines.specs.declared.reading.Line.{Line}
use Rattle.frame_lines.specs.declared.frame.Frame as made
use Rattle.frame_lines.specs.declared.frame.Frame.TheVariants.{Load, Enter, Withdraw, Recost, List as ListAll, Early, Wrong}

-- ---- by the number of digits

-- What follows the first byte, how many digits there are in all, as far as they are counted, and what the code reads besides.
module _ (rest : List ℕ) (l : Line) (counts : l.count ≡ min (2 * suc (length rest)) (suc most_digits)) where
  sized-found : (m n : ℕ) (k : made.Frame) {f : Frame} → m ≡ 2 + 2 * n → n ≤ 2 + 2 * row_costs → (length rest ≡ n → as_frame k ≡ f) → as_frame (sized_frame l.count m k) ≡ sized n rest f
  unfolding sized_frame sized as_frame
  sized-found m n k {f} digits most same =
      let tests : eqb l.count m ≡ eqb (length rest) n =
      same_test (eqb l.count m) (eqb (length rest) n)
      (λ e. eq-eqb (length rest) n (omega (arith, eqb-true l.count m e)))
      (λ e. eq-eqb l.count m (omega (arith, eqb-true (length rest) n e))) in
      cond_map as_frame (eqb l.count m) k Wrong
      ∙ ap (λ (b : Bool). cond b (as_frame k) wrong) tests
      ∙ test_cases (λ (b : Bool). cond b (as_frame k) wrong ≡ cond b f wrong) (eqb (length rest) n)
      (λ e. same (eqb-true (length rest) n e))
      (λ e. refl)

  module _ (d : ℕ) (most : d ≤ row_costs)
      (loads : length rest ≡ 1 → byte_at l.first 1 ≡ get_or rest 0 0)
      (numbers : (n : ℕ) → length rest ≡ 2 * n → word_spelled l.first 1 ≡ frame_number rest)
      (row : length rest ≡ 2 + 2 * d → costs_at l.first d ≡ frame_costs d rest)
    where
      abbrev number : ℕ
      number = word_spelled l.first 1

      abbrev costs : List ℕ
      costs = costs_at l.first d

      with-costs : (f : ℕ → List ℕ → calls.Change) → length rest ≡ 2 + 2 * d → change (f number costs) ≡ change (f (frame_number rest) (frame_costs d rest))
      with-costs f e = ap₂ (λ (n : ℕ) (cs : List ℕ). change (f n cs)) (numbers (1 + d) (omega arith)) (row e)

      found-on : (code : ℕ) → as_frame (frame_on d code l) ≡ call_frame d code rest
      unfolding frame_on call_frame as_frame
      found-on code =
          cond_map as_frame (eqb code 0x20) (sized_frame l.count (6 + 4 * d) (Enter number costs)) _
          ∙ ap₂ (cond (eqb code 0x20)) (sized-found (6 + 4 * d) (2 + 2 * d) (Enter number costs) (omega arith) (omega arith) (with-costs (λ n cs. enter n 0 cs)))
          (cond_map as_frame (eqb code 0x30) (sized_frame l.count 6 (Withdraw number)) _
          ∙ ap₂ (cond (eqb code 0x30)) (sized-found 6 2 (Withdraw number) refl (omega arith) (λ e. ap (λ (n : ℕ). change (withdraw n)) (numbers 1 e)))
          (cond_map as_frame (eqb code 0x40) (sized_frame l.count (6 + 4 * d) (Recost number costs)) (sized_frame l.count 2 ListAll)
          ∙ ap₂ (cond (eqb code 0x40)) (sized-found (6 + 4 * d) (2 + 2 * d) (Recost number costs) (omega arith) (omega arith) (with-costs (λ n cs. recost n 0 cs)))
          (sized-found 2 0 ListAll refl (omega arith) (λ e. refl))))

      found-held : (s : State) → CostsHeld s d → (code : ℕ) → as_frame (cond (eqb d 0) Early (frame_on d code l)) ≡ board_frame s code rest
      unfolding CostsHeld board_frame as_frame
      found-held unloaded held code =
          ap (λ (b : Bool). as_frame (cond b Early (frame_on d code l))) (eq-eqb d 0 held)
      found-held (holds b t) held code =
          ap (λ (x : Bool). as_frame (cond x Early (frame_on d code l))) (ne_eqb d 0 (λ z. omega (arith, held.1)))
          ∙ found-on code
          ∙ ap (λ (n : ℕ). call_frame n code rest) (sym held.0)

      pub found_in : (s : State) → CostsHeld s d → (code : ℕ) → as_frame (frame_by d code l) ≡ frame_in s (code ∷ rest)
      unfolding frame_by frame_in as_frame
      found_in s held code =
          cond_map as_frame (eqb code 0x10) (sized_frame l.count 4 (Load (byte_at l.first 1))) _
          ∙ ap₂ (cond (eqb code 0x10)) (sized-found 4 1 (Load (byte_at l.first 1)) refl (omega arith) (λ e. ap load (loads e)))
          (cond_map as_frame (has code call_codes) (cond (eqb d 0) Early (frame_on d code l)) Wrong
          ∙ ap (λ (f : Frame). cond (has code call_codes) f wrong) (found-held s held code))

-- A blank line has no first byte, and reads 0.
found-blank : (s : State) (d : ℕ) (l : Line) → as_frame (frame_by d 0 l) ≡ frame_in s []
unfolding frame_by has any call_codes as_frame frame_in
found-blank s d l = refl

-- ---- by the bytes

-- The line's bytes, read off its first digits.
module _ (s : State) (d : ℕ) (costs : CostsHeld s d) (most : d ≤ row_costs) (l : Line) where
  abbrev first : List ℕ
  first = l.first

  Reads : List ℕ → Type 0
  Reads bytes = (i : ℕ) → i < 3 + 2 * row_costs → byte_at first i ≡ get_or bytes i 0

  -- A number at a place after the first byte.
  word_at : (code : ℕ) (rest : List ℕ) (n i : ℕ) → Reads (code ∷ rest) → length rest ≡ 2 * n → i < 1 + row_costs → word_spelled first (1 + 2 * i) ≡ get_or (numbers_of rest) i 0
  unfolding Reads word_spelled numbers_of
  word_at code rest n i reads even room =
      let high : 1 + 2 * i ≡ suc (2 * i) = omega arith in
      let low : 1 + 2 * i + 1 ≡ suc (2 * i + 1) = omega arith in
      ap₂ (λ (h l : ℕ). h * 256 + l)
      (reads (1 + 2 * i) (omega arith) ∙ ap (λ (k : ℕ). get_or (code ∷ rest) k 0) high)
      (reads (1 + 2 * i + 1) (omega arith) ∙ ap (λ (k : ℕ). get_or (code ∷ rest) k 0) low)
      ∙ sym (joined_at 256 rest n even i)

  row_at : (code : ℕ) (rest : List ℕ) → Reads (code ∷ rest) → length rest ≡ 2 + 2 * d → costs_at first d ≡ frame_costs d rest
  unfolding costs_at cost_at frame_costs numbers_of
  row_at code rest reads size =
      let even : length rest ≡ 2 * (1 + d) = omega arith in
      let numbers : List ℕ = numbers_of rest in
      let count : length (drop 1 numbers) ≡ d = omega (arith, length-drop 1 numbers, joined_length 256 rest (1 + d) even) in
      tab-padded (cost_at first d) d (drop 1 numbers) most count
      (λ j h.
      let place : 3 + 2 * j ≡ 1 + 2 * (1 + j) = omega arith in
      ap (λ (x : ℕ). cond (ltb j d) x 0)
      (ap (word_spelled first) place
      ∙ word_at code rest (1 + d) (1 + j) reads even (omega arith)
      ∙ sym (get_or-drop 1 numbers j 0)))

  found-bytes : (bytes : List ℕ) → l.count ≡ min (2 * length bytes) (suc most_digits) → Reads bytes → as_frame (frame_by d (byte_at l.first 0) l) ≡ frame_in s bytes
  unfolding Reads frame_number
  found-bytes [] counts reads =
      ap (λ (code : ℕ). as_frame (frame_by d code l)) (reads 0 (omega arith))
      ∙ found-blank s d l
  found-bytes (code ∷ rest) counts reads =
      ap (λ (c : ℕ). as_frame (frame_by d c l)) (reads 0 (omega arith))
      ∙ found_in rest l counts d most
      (λ e. reads 1 (omega arith))
      (λ n even. word_at code rest n 0 reads even (omega arith))
      (row_at code rest reads)
      s
      costs
      code

-- ---- by the line

even_odd : (n : ℕ) → eqb (n % 2) 0 ≡ not (eqb (n % 2) 1)
even_odd n =
    test_cases (λ (b : Bool). eqb (n % 2) 0 ≡ not b) (eqb (n % 2) 1)
    (λ e. let odd : n % 2 ≡ 1 = eqb-true (n % 2) 1 e in ne_eqb (n % 2) 0 (λ z. omega arith))
    (λ e. let even : n % 2 ≡ 1 → ⊥ = eqb-false (n % 2) 1 e in eq-eqb (n % 2) 0 (omega arith))

whole-or-wrong : (odd spelled : Bool) {x f : Frame} → (odd ≡ false → x ≡ f) → cond odd wrong (cond spelled x wrong) ≡ cond (spelled && not odd) f wrong
whole-or-wrong true true same = refl
whole-or-wrong true false same = refl
whole-or-wrong false true same = same refl
whole-or-wrong false false same = refl

module _ (line : List ℕ) (l : Line) (j : Judged line l) where
  bytes-at : (n : ℕ) → length line ≡ 2 * n → (i : ℕ) → i < 3 + 2 * row_costs → byte_at l.first i ≡ get_or (bytes_of line) i 0
  unfolding byte_at bytes_of value_of within
  bytes-at n even i room =
      ap₂ (λ (h k : ℕ). h * 16 + k)
      (ap value_of (j.first (2 * i) (omega arith)) ∙ sym (get_or-map value_of line (2 * i) 0))
      (ap value_of (j.first (2 * i + 1) (omega arith)) ∙ sym (get_or-map value_of line (2 * i + 1) 0))
      ∙ sym (joined_at 16 (map value_of line) n (length-map line value_of ∙ even) i)

  pub found-line : (s : State) (d : ℕ) → CostsHeld s d → d ≤ row_costs → as_frame (line_frame d l) ≡ frame_of s line
  unfolding line_frame frame_of whole_bytes as_frame bytes_of Reads
  found-line s d costs most =
      let found : made.Frame = frame_by d (byte_at l.first 0) l in
      let odd : Bool = eqb (length line % 2) 1 in
      cond_map as_frame l.odd Wrong (cond l.spelled found Wrong)
      ∙ ap (cond l.odd wrong) (cond_map as_frame l.spelled found Wrong)
      ∙ ap₂ (λ (o s : Bool). cond o wrong (cond s (as_frame found) wrong)) j.odd j.spelled
      ∙ whole-or-wrong odd (all is_digit line)
      (λ e.
      let not-odd : length line % 2 ≡ 1 → ⊥ = eqb-false (length line % 2) 1 e in
      let even : length line ≡ 2 * (length line / 2) = omega arith in
      let bytes : length (bytes_of line) ≡ length line / 2 =
      joined_length 16 (map value_of line) (length line / 2) (length-map line value_of ∙ even) in
      found-bytes s d costs most l (bytes_of line) (omega (arith, j.count)) (bytes-at (length line / 2) even))
      ∙ ap (λ (b : Bool). cond (all is_digit line && b) (frame_in s (bytes_of line)) wrong) (sym (even_odd (length line)))

-- Before an accepted 10 no call is found.
calm : (code : ℕ) (l : Line) → calling (frame_by 0 code l) ≡ false
unfolding frame_by sized_frame calling
calm code l =
    cond_cases (λ (f : made.Frame). calling f ≡ false) (eqb code 0x10)
    (λ e. cond_cases (λ (f : made.Frame). calling f ≡ false) (eqb l.count 4) (λ f. refl) (λ f. refl))
    (λ e. cond_cases (λ (f : made.Frame). calling f ≡ false) (has code call_codes) (λ f. refl) (λ f. refl))

pub timely-line : (d : ℕ) (l : Line) → Timely d (line_frame d l)
unfolding Timely line_frame calling
timely-line zero l calls =
    both_ways calls
    (cond_cases (λ (f : made.Frame). calling f ≡ false) l.odd (λ e. refl)
    (λ e. cond_cases (λ (f : made.Frame). calling f ≡ false) l.spelled (λ f. calm (byte_at l.first 0) l) (λ f. refl)))
timely-line (suc d) l calls = omega arith

pub framed-line : (d : ℕ) (l : Line) → d ≤ row_costs → Framed d l (line_frame d l)
framed-line d l most =
    record {
      frame = λ s line costs j. found-line line l j s d costs most;
      timely = timely-line d l;
    }
