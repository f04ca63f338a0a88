-- The rows that a list tells are those of the moves found.
use Rattle.std.specs.Prelude.{ℕ, ◌-◌, Bool, ◌≡◌, length}
use Rattle.std.proofs.Math.Bool.{and-true}
use mathlib.Core.List.{List, map, map-map}
use Rattle.std.proofs.Math.Path.{refl, sym, ap}
use Rattle.std.proofs.Common.{◌∙◌}
use native.Mathlib.Omega.{arith}
use Rattle.std.proofs.lemmas.List.{length-map}
use Rattle.model.specs.Basics.{select, numbers_from}
use Rattle.model.specs.Moves.{listed, row_of}
use Rattle.model.specs.Lists.{listed_rows}
use Rattle.model.proofs.Laws.Basics.{select-ext}
use Rattle.model.proofs.Laws.Range.{each-place}
use Rattle.promises.specs.Layout.{number_in, move_in}
use Rattle.promises.specs.Answers.{result_row}
use Rattle.memory.specs.Held.{SoundAt}
use Rattle.search.specs.Search.{looks, looks_at}
use Rattle.memory.specs.Laws.Held.{held-readable}
use Rattle.memory.specs.declared.head.Head.{Head}
use Rattle.numbers.specs.Set.{in_set}
use Rattle.upkeep.specs.Change.{places_in}
use Rattle.upkeep.specs.Found.{Finds, found_moves}
use Rattle.upkeep.specs.Laws.Found.{found-places, found_number}
use Rattle.upkeep.specs.declared.found.Found.{Found}
use Rattle.rows.specs.Rows.{move_numbers}
use Rattle.rows.specs.Telling.{TellingAsked, tells_place, rows_at, coming_rows, told_rows, listed_by}

row-results : (c d : ℕ) (m is : List ℕ) → map result_row (rows_at c d listed is m) ≡ listed_rows (map (move_in c d m) is)
unfolding rows_at result_row move_numbers listed_rows row_of
row-results c d m is =
    map-map result_row (λ i. move_numbers listed (move_in c d m i)) is ∙ sym (map-map (row_of listed) (move_in c d m) is)

module _ (h : Head) (test : ℕ → Bool) (m : List ℕ) (r : Found) (f : Finds h test m r) where
  abbrev c : ℕ
  c = h.size

  abbrev d : ℕ
  d = h.dimension

  abbrev n : ℕ
  n = h.count

  found-told : (i : ℕ) → in_set r.numbers (number_in c m i) ≡ test (number_in c m i) → tells_place (listed_by h) r.numbers m i ≡ test (number_in c m i)
  unfolding tells_place looks_at looks
  found-told i e = and-true (in_set r.numbers (number_in c m i)) ∙ e

  told-places : told_rows (listed_by h) r.numbers m ≡ rows_at c d listed (places_in 0 n (tells_place (listed_by h) r.numbers m)) m
  unfolding told_rows coming_rows rows_at places_in select numbers_from
  told-places = refl

  pub found_rows : map result_row (told_rows (listed_by h) r.numbers m) ≡ listed_rows (found_moves c d n test m)
  unfolding places_in
  found_rows =
      let all : n - 0 ≡ n = omega arith in
      ap (map result_row) told-places
      ∙ row-results c d m (places_in 0 n (tells_place (listed_by h) r.numbers m))
      ∙ ap (λ (k : ℕ). listed_rows (map (move_in c d m) (select (tells_place (listed_by h) r.numbers m) (numbers_from 0 k)))) all
      ∙ ap (λ (is : List ℕ). listed_rows (map (move_in c d m) is))
      (select-ext (tells_place (listed_by h) r.numbers m) (λ i. test (number_in c m i)) (numbers_from 0 n)
      (each-place (λ i. tells_place (listed_by h) r.numbers m i ≡ test (number_in c m i)) n (λ i l. found-told i (f.numbers i l))))
      ∙ ap listed_rows (sym (found-places h test m r f))

  pub found-count : r.count ≡ length (listed_rows (found_moves c d n test m))
  unfolding listed_rows
  found-count = found_number h test m r f ∙ sym (length-map (found_moves c d n test m) (row_of listed))

pub listed-asked : {h : Head} {m : List ℕ} → SoundAt h m → TellingAsked (listed_by h) m
listed-asked s = record { readable = held-readable s; place = omega arith }
