-- The rows of a telling, got one after the other, are its rows.
use Rattle.zorder.specs.Address.{row_costs}
use Rattle.std.specs.Prelude.{ℕ, zero, suc, ◌+◌, ◌*◌, ◌<◌, ◌≤◌, min, ◌≡◌, refl, length, get_or, take, replicate}
use mathlib.Core.List.{List, ◌++◌, map, flat_map}
use Rattle.std.proofs.Math.Path.{sym, ap}
use Rattle.std.proofs.Common.{subst, ◌∙◌, add-one, arith, length-take}
use Rattle.std.proofs.lemmas.List.{length-map}
use Rattle.std.proofs.Math.ListN.{get_or-map}
use Rattle.std.proofs.Math.Seq.{take-length}
use Rattle.model.specs.Moves.{Row}
use Rattle.promises.specs.Answers.{result_row}
use Rattle.rows.specs.Telling.{told_rows, next_row, next_at, position}
use Rattle.rows.specs.Laws.Telling.{told-row}
use Rattle.rows.specs.declared.telling.Telling.{Telling}
use Rattle.frame_lines.specs.Text.{row_text, rows_text}
use Rattle.frame_lines.specs.Reading.{most_digits}
use Rattle.framing.specs.Writing.{telling_rows, TextRoom}
use Rattle.framing.specs.Laws.Rows.{flat_map-more, rows_text-most}

module _ (t : Telling) (m : List ℕ) where
  pub position-more : (k : ℕ) {i j : ℕ} → i ≡ position t.told t.numbers m k → j ≡ next_at t.told t.numbers m i → j ≡ position t.told t.numbers m (k + 1)
  unfolding position
  position-more k at next = next ∙ ap (next_at t.told t.numbers m) at ∙ ap (position t.told t.numbers m) (sym (add-one k))

  module _ {d at : ℕ} {out : List ℕ} (room : TextRoom d at t m out) where
    abbrev told : List (List ℕ)
    told = told_rows t.told t.numbers m

    all_told : 0 < t.count → telling_rows t m ≡ map result_row told
    all_told some = ap (map result_row) (ap (λ (n : ℕ). take n told) (sym (room.rows some)) ∙ take-length told)

    pub telling-count : length (telling_rows t m) ≡ t.count
    telling-count = length-map (take t.count told) result_row ∙ length-take t.count told ∙ by t.count refl
      where
        by : (n : ℕ) → t.count ≡ n → min t.count (length told) ≡ t.count
        by zero e = omega (arith, e)
        by (suc n) e = omega (arith, room.rows (omega (arith, e)))

    pub telling-most : length (rows_text d (telling_rows t m)) ≤ most_digits * t.count
    telling-most = omega (arith, rows_text-most d room.dimension (telling_rows t m), telling-count)

    -- The same from an earlier place on, and for a telling that is the same.
    pub room_at : {at' : ℕ} {t' : Telling} {out' : List ℕ} → t' ≡ t → at' ≤ at → length out' ≡ length out → TextRoom d at' t' m out'
    room_at {at'} {t'} {out'} same before long =
        subst (λ (u : Telling). TextRoom d at' u m out') (sym same)
        (record { dimension = room.dimension; rows = room.rows; asked = room.asked; room = omega (arith, room.room) })

    -- The text of one row more.
    pub told_more : (k : ℕ) {i : ℕ} {row : List ℕ} → k < t.count → i ≡ position t.told t.numbers m k → row ≡ next_row t.told t.numbers m i
        → flat_map (row_text d) (take k (telling_rows t m)) ++ row_text d (result_row row) ≡ flat_map (row_text d) (take (k + 1) (telling_rows t m))
    told_more k before at next =
        let some : 0 < t.count = omega arith in
        let none : List ℕ = replicate (2 + row_costs) 0 in
        let texts : List Row → ℕ → List ℕ = λ rows n. flat_map (row_text d) (take n rows) in
        ap (λ (r : List ℕ). texts (telling_rows t m) k ++ row_text d (result_row r))
        (next ∙ ap (next_row t.told t.numbers m) at ∙ told-row t.told t.numbers m (room.asked some) k)
        ∙ ap (λ (rows : List Row). texts rows k ++ row_text d (result_row (get_or told k none))) (all_told some)
        ∙ ap (λ (r : Row). texts (map result_row told) k ++ row_text d r) (sym (get_or-map result_row told k none))
        ∙ flat_map-more (row_text d) (map result_row told) k (result_row none) (omega (arith, length-map told result_row, room.rows some))
        ∙ ap (λ (rows : List Row). texts rows (k + 1)) (sym (all_told some))

    pub told-end : {k : ℕ} → k ≡ t.count → flat_map (row_text d) (take k (telling_rows t m)) ≡ rows_text d (telling_rows t m)
    unfolding rows_text
    told-end end =
        ap (λ (n : ℕ). flat_map (row_text d) (take n (telling_rows t m))) (end ∙ sym telling-count)
        ∙ ap (flat_map (row_text d)) (take-length (telling_rows t m))
