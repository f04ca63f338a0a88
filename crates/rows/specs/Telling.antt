-- What is told of one memory: the moves of a set of numbers, in Z-order, under one mark, and the coming move of a notice before
-- the move at its place. First all rows of a telling, then the same one by one.
use Rattle.zorder.specs.Address.{row_costs}
use Rattle.std.specs.Prelude.{ℕ, zero, suc, ◌+◌, ◌-◌, ◌≤◌, Bool, Option, None, Some, cond, ◌&&◌, List, [], ◌∷◌, ◌++◌, map, eqb, ltb, set, replicate}
use Rattle.std.specs.Option.{is_some}
use Rattle.model.specs.Basics.{select, numbers_from, first_or}
use Rattle.model.specs.Moves.{listed}
use Rattle.promises.specs.Layout.{number_in, move_in}
use Rattle.dominance.specs.Move.{as_move}
use Rattle.memory.specs.Room.{Readable}
use Rattle.search.specs.Search.{looks_at}
use Rattle.search.specs.declared.search.Among.TheVariants.{All}
use Rattle.memory.specs.declared.head.Head.{Head}
use Rattle.numbers.specs.Set.{in_set}
use Rattle.upkeep.specs.Change.{places_in}
use Rattle.rows.specs.Rows.{move_numbers}
use Rattle.rows.specs.declared.telling.Coming.{Coming}
use Rattle.dominance.specs.declared.Move.{Move}
use Rattle.rows.specs.declared.telling.View.{View}
use Rattle.rows.specs.declared.telling.Telling.{Telling}

pub record TellingAsked (t : View) (m : List ℕ) : Type 0 where
  pub readable : Readable t.head m
  pub place : t.coming.place ≤ t.head.count

-- Whether the move at place i is told.
unfoldable pub tells_place : View → List ℕ → List ℕ → ℕ → Bool
tells_place t numbers m i = in_set numbers (number_in t.head.size m i) && looks_at t.among t.head.size m i

-- The rows of some places under a mark.
unfoldable pub rows_at : ℕ → ℕ → ℕ → List ℕ → List ℕ → List (List ℕ)
rows_at c d mark places m = map (λ i. move_numbers mark (move_in c d m i)) places

-- The coming move's row.
unfoldable pub coming_rows : ℕ → Option Move → List (List ℕ)
coming_rows mark None = []
coming_rows mark (Some x) = move_numbers mark (as_move x) ∷ []

-- All rows, the coming move's at its place.
unfoldable pub told_rows : View → List ℕ → List ℕ → List (List ℕ)
told_rows t numbers m =
    let h = t.head in
    let p = t.coming.place in
    rows_at h.size h.dimension t.mark (places_in 0 p (tells_place t numbers m)) m
    ++ (coming_rows t.mark t.coming.entrant
    ++ rows_at h.size h.dimension t.mark (places_in p h.count (tells_place t numbers m)) m)

-- No move comes; and what a list tells: all moves of a set of numbers, as listed.
abbrev pub nobody : Coming
nobody = record { place = 0; entrant = None }

abbrev pub listed_by : Head → View
listed_by h = record { head = h; mark = listed; among = All; coming = nobody }

abbrev pub listing : Head → List ℕ → ℕ → Telling
listing h numbers count = record { told = listed_by h; numbers = numbers; count = count }

-- ---- one by one

-- Positions are the places of the board, with the coming move before its own: so there is one more.
abbrev pub positions : View → ℕ
positions t = t.head.count + 1

-- The place shown at a position, the coming move standing before place p; the coming move has none.
unfoldable pub place_of : ℕ → ℕ → ℕ
place_of p i = cond (ltb i p) i (i - 1)

unfoldable pub told_at : View → List ℕ → List ℕ → ℕ → Bool
told_at t numbers m i = cond (eqb i t.coming.place) (is_some t.coming.entrant) (tells_place t numbers m (place_of t.coming.place i))

unfoldable pub row_at : View → List ℕ → ℕ → List ℕ
row_at t m i =
    cond (eqb i t.coming.place) (first_or (replicate (2 + row_costs) 0) (coming_rows t.mark t.coming.entrant))
    (move_numbers t.mark (move_in t.head.size t.head.dimension m (place_of t.coming.place i)))

abbrev pub told_row : View → List ℕ → List ℕ → ℕ → Option (List ℕ)
told_row t numbers m i = cond (told_at t numbers m i) (Some (row_at t m i)) None

-- The told positions from one on.
unfoldable pub told_from : View → List ℕ → List ℕ → ℕ → List ℕ
told_from t numbers m i = select (told_at t numbers m) (numbers_from i (positions t - i))

-- The row at the first of them, and the position after it.
unfoldable pub next_row : View → List ℕ → List ℕ → ℕ → List ℕ
next_row t numbers m i = first_or (replicate (2 + row_costs) 0) (map (row_at t m) (told_from t numbers m i))

unfoldable pub next_at : View → List ℕ → List ℕ → ℕ → ℕ
next_at t numbers m i = first_or (positions t) (map suc (told_from t numbers m i))

-- Where the row k is looked for.
unfoldable pub position : View → List ℕ → List ℕ → ℕ → ℕ
position t numbers m zero = 0
position t numbers m (suc k) = next_at t numbers m (position t numbers m k)

-- Rows after the first k told ones were put into them, one by one, from a row on.
unfoldable pub filled_rows : View → List ℕ → List ℕ → ℕ → ℕ → List (List ℕ) → List (List ℕ)
filled_rows t numbers m from zero rows = rows
filled_rows t numbers m from (suc k) rows = set (filled_rows t numbers m from k rows) (from + k) (next_row t numbers m (position t numbers m k))
