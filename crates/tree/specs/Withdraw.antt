-- What withdrawing a move leaves.
use Rattle.std.specs.Prelude.{ℕ, suc, ◌+◌, ◌-◌, ◌<◌, ◌≤◌, true, not, ◌≡◌, List, ◌++◌, map, eqb, take, drop, get_or, Option, unwrap_or, IfSome}
use Rattle.model.specs.Basics.{select, distinct}
use Rattle.model.specs.Moves.{Move}
use Rattle.model.specs.Tree.{Tree}
use Rattle.model.specs.Withdrawing.{enter_all, withdraw_tree}
use Rattle.line.specs.Places.{height_at}
use Rattle.line.specs.Withdraw as line
use Rattle.promises.specs.Layout.{number_in, height_in, costs_in, work_in, heights_from, line_from, tab}
use Rattle.memory.specs.Room.{Room}
use Rattle.memory.specs.Frame.{RowsOnly, WorkOnly}
use Rattle.tree.specs.Hold.{RowsHold, RowsTree, Enterable}

pub record RowsAsked (c n : ℕ) (m : List ℕ) : Type 0 where
  pub room : Room c m
  pub rows : n ≤ c

pub record PlaceOf (c n number : ℕ) (m : List ℕ) (r : ℕ) : Type 0 where
  pub is : (d : ℕ) → r ≡ line.place_of number (line_from c d n m)
  pub within : r ≤ n
  pub found : r < n → number_in c m r ≡ number

-- The same of a place or none: n stands for none.
pub record PlaceFound (c n number : ℕ) (m : List ℕ) (r : Option ℕ) : Type 0 where
  pub place : PlaceOf c n number m (unwrap_or r n)
  pub below : IfSome r (λ p. p < n)

pub record RangeAsked (c n p : ℕ) (m : List ℕ) : Type 0 where
  pub room : Room c m
  pub rows : n ≤ c
  pub place : p < n

pub record Widened (c n p from to : ℕ) (m : List ℕ) : Type 0 where
  pub is : record { from = from; to = to } ≡ line.widened_among (height_in c m 0) 0 (record { from = p; to = suc p }) (heights_from c n m)
  pub order : from < to
  pub within : to ≤ n

pub record SaveAsked (c from to : ℕ) (m : List ℕ) : Type 0 where
  pub room : Room c m
  pub order : from ≤ to
  pub rows : to ≤ c

-- The numbers of the rows from one place up to another, but for one.
unfoldable pub others : ℕ → ℕ → ℕ → ℕ → List ℕ → List ℕ
others c from to number m = select (λ n. not (eqb n number)) (tab (λ i. number_in c m (from + i)) (to - from))

pub record Saved (c from to number : ℕ) (m m' : List ℕ) (r : ℕ) : Type 0 where
  pub few : r ≤ to - from
  pub numbers : tab (work_in c m') r ≡ others c from to number m
  pub frame : WorkOnly c m m'

pub record GapAsked (c n from to : ℕ) (m : List ℕ) : Type 0 where
  pub room : Room c m
  pub rows : n ≤ c
  pub order : from < to
  pub within : to ≤ n

pub record Closed (c n from to : ℕ) (m m' : List ℕ) : Type 0 where
  pub line : (d : ℕ) → line_from c d (n - (to - from)) m' ≡ take from (line_from c d n m) ++ drop to (line_from c d n m)
  pub frame : RowsOnly c m m'

pub record CutOut (c n from to : ℕ) (m m' : List ℕ) : Type 0 where
  pub line :
      (d : ℕ)
      → line_from c d (n - (to - from)) m' ≡ line.cut_out (record { from = from; to = to }) (line_from c d n m)
  pub frame : RowsOnly c m m'

pub record Lowered (c n : ℕ) (m m' : List ℕ) : Type 0 where
  pub line : (d : ℕ) → line_from c d n m' ≡ line.lowered (height_at (line_from c d n m) 0) (line_from c d n m)
  pub frame : RowsOnly c m m'

-- The moves of the work area.
unfoldable pub saved_moves : ℕ → ℕ → ℕ → List ℕ → List Move
saved_moves c d k m =
    tab (λ j. record { number = work_in c m j; costs = costs_in c d m (work_in c m j) }) k

pub record SavedAsked (c d n k : ℕ) (m : List ℕ) : Type 0 where
  pub tree : RowsTree c d n m
  pub space : n + k ≤ c
  pub enterable : (t : Tree) → RowsHold c d n m t → (j : ℕ) → j < k → Enterable c d (get_or (saved_moves c d k m) j Rattle.model.specs.Moves.no_move) m t
  pub once : distinct (map (λ x. x.number) (saved_moves c d k m)) ≡ true

pub record SavedEntered (c d n k : ℕ) (m m' : List ℕ) : Type 0 where
  pub holds : (t : Tree) → RowsHold c d n m t → RowsHold c d (n + k) m' (enter_all d (saved_moves c d k m) t)
  pub frame : RowsOnly c m m'

pub record WithdrawAsked (c d n p : ℕ) (m : List ℕ) : Type 0 where
  pub tree : RowsTree c d n m
  pub place : p < n

-- Rows and work area differ, and nothing else.
pub record Withdrawn (c d n p : ℕ) (m m' : List ℕ) : Type 0 where
  pub holds : (t : Tree) → RowsHold c d n m t → RowsHold c d (n - 1) m' (withdraw_tree d (number_in c m p) t)
  pub saved : List ℕ
  pub work : WorkOnly c m saved
  pub rows : RowsOnly c saved m'
