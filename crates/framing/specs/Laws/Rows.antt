-- The text of rows: how long it is, and row by row.
use Rattle.zorder.specs.Address.{row_costs}
use Rattle.std.specs.Prelude.{ℕ, suc, ◌+◌, ◌*◌, ◌≤◌, ◌<◌, ◌≡◌, length, get_or, drop}
use mathlib.Core.List.{List, [], ◌∷◌, ◌++◌, flat_map, append-nil, append_assoc}
use Rattle.std.proofs.Math.Path.{refl, sym, ap}
use Rattle.std.proofs.Common.{◌∙◌, add-one, arith, length-append, length-take, length-drop, take-suc, drop-cons, get_or-drop, length-take-le}
use Rattle.std.proofs.Math.Nat.{min-le_left}
use Rattle.std.proofs.Math.ListN.{take}
use Rattle.model.specs.Moves.{Row}
use Rattle.promises.specs.Answers.{result_row}
use Rattle.frame_lines.specs.Text.{byte_text, word_text, row_text, rows_text}
use Rattle.frame_lines.specs.Reading.{most_digits}
use Rattle.frame_lines.specs.Laws.Texts.{byte_text-length, word_text-length}

module _ {A : Type 0} (f : A → List ℕ) where
  pub flat_map-append : (l k : List A) → flat_map f (l ++ k) ≡ flat_map f l ++ flat_map f k
  unfolding flat_map
  flat_map-append [] k = refl
  flat_map-append (y ∷ l) k = ap (λ (r : List ℕ). f y ++ r) (flat_map-append l k) ∙ sym (append_assoc (f y) (flat_map f l) (flat_map f k))

  -- The text of one entry more.
  pub flat_map-more : (l : List A) (i : ℕ) (z : A) → i < length l → flat_map f (take i l) ++ f (get_or l i z) ≡ flat_map f (take (i + 1) l)
  unfolding flat_map
  flat_map-more l i z more =
      sym (flat_map-append (take i l) (get_or l i z ∷ []) ∙ ap (λ (r : List ℕ). flat_map f (take i l) ++ r) (append-nil (f (get_or l i z))))
      ∙ ap (flat_map f) (sym (take-suc l i z more) ∙ ap (λ (n : ℕ). take n l) (sym (add-one i)))

pub words-length : (ns : List ℕ) → length (flat_map word_text ns) ≡ 4 * length ns
unfolding flat_map
words-length [] = refl
words-length (n ∷ ns) =
    omega (arith, length-append (word_text n) (flat_map word_text ns), word_text-length n, words-length ns)

pub row_text-most : (d : ℕ) (r : Row) → length (row_text d r) ≤ 6 + 4 * d
unfolding row_text
row_text-most d r =
    let ns : List ℕ = r.number ∷ take d r.costs in
    omega (
      arith,
      length-append (byte_text r.mark) (flat_map word_text ns),
      byte_text-length r.mark,
      words-length ns,
      length-take d r.costs,
      min-le_left d (length r.costs),
    )

pub rows_text-most : (d : ℕ) → d ≤ row_costs → (rows : List Row) → length (rows_text d rows) ≤ most_digits * length rows
unfolding rows_text flat_map
rows_text-most d h [] = omega arith
rows_text-most d h (r ∷ rows) =
    omega (arith, length-append (row_text d r) (rows_text d rows), row_text-most d r, rows_text-most d h rows)

-- The numbers of a row after its mark, as far as they are put: the number, then costs.
module _ (row : List ℕ) (whole : length row ≡ 2 + row_costs) where
  pub numbers_more : (j : ℕ) → j < 1 + row_costs → flat_map word_text (take j (drop 1 row)) ++ word_text (get_or row (j + 1) 0) ≡ flat_map word_text (take (j + 1) (drop 1 row))
  numbers_more j more =
      let after : 1 + j ≡ j + 1 = omega arith in
      ap (λ (n : ℕ). flat_map word_text (take j (drop 1 row)) ++ word_text n)
      (ap (λ (i : ℕ). get_or row i 0) (sym after) ∙ sym (get_or-drop 1 row j 0))
      ∙ flat_map-more word_text (drop 1 row) j 0 (omega (arith, length-drop 1 row))

  pub numbers-length : (j : ℕ) → j ≤ 1 + row_costs → length (flat_map word_text (take j (drop 1 row))) ≡ 4 * j
  numbers-length j most =
      words-length (take j (drop 1 row))
      ∙ ap (λ (n : ℕ). 4 * n) (length-take-le j (drop 1 row) (omega (arith, length-drop 1 row)))

  pub numbers-all : (d : ℕ) → byte_text (get_or row 0 0) ++ flat_map word_text (take (d + 1) (drop 1 row)) ≡ row_text d (result_row row)
  unfolding row_text result_row
  numbers-all d =
      ap (λ (ns : List ℕ). byte_text (get_or row 0 0) ++ flat_map word_text ns)
      (ap (λ (n : ℕ). take n (drop 1 row)) (add-one d) ∙ ap (take (suc d)) (drop-cons row 1 0 (omega arith)))
