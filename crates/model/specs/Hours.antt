-- Yard block hours (document 02, Card 8).
use Rattle.std.specs.Prelude.{ℕ, Bool, cond, not, ◌&&◌, ◌||◌, List, [], ltb, leb, eqb, take, get_or}
use Rattle.model.specs.Basics.{select, any, within}
use Rattle.model.specs.Moves.{Move}

pub record Window : Type 0 where
  pub start : ℕ
  pub end : ℕ

-- "for each of 64 blocks up to four windows": how many, and four slots; those past the count are not looked at.
pub record Hours : Type 0 where
  pub count : ℕ
  pub windows : List Window

abbrev pub block_count : ℕ
block_count = 64

unfoldable pub windows_of : Hours → List Window
windows_of h = take h.count h.windows

-- "a minute of the week, 0 to 10,079"
unfoldable pub minute_bad : ℕ → Bool
minute_bad t = not (within 0 10079 t)

-- "a fifth window, a start equal to its end, or either above 10,079"
unfoldable pub window_bad : Window → Bool
window_bad w = minute_bad w.start || minute_bad w.end || eqb w.start w.end

unfoldable pub hours_bad : Hours → Bool
hours_bad h = ltb 4 h.count || any window_bad (windows_of h)

-- "start included, end not; an end below the start runs over the week's end"
unfoldable pub open_in : ℕ → Window → Bool
open_in t w = cond (ltb w.end w.start) (leb w.start t || ltb t w.end) (leb w.start t && ltb t w.end)

-- "A block without windows is shut", and so is one past the lent entries.
abbrev pub no_hours : Hours
no_hours = record { count = 0; windows = [] }

unfoldable pub block_open : ℕ → List Hours → ℕ → Bool
block_open t hours block = any (open_in t) (windows_of (get_or hours block no_hours))

-- "the moves in open blocks"
unfoldable pub open_moves : ℕ → List Hours → (ℕ → ℕ) → List Move → List Move
open_moves t hours blocks ms = select (λ m. block_open t hours (blocks m.number)) ms
