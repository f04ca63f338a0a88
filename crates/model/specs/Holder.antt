-- The holder of a list (document 01; demand 3), with Card 2's previews.
use Rattle.std.specs.Prelude.{ℕ, Bool, cond, not, List, [], ◌∷◌, ◌≡◌, eqb}
use Rattle.model.specs.Basics.{select, any, insert_by}
use Rattle.model.specs.Moves.{Row, same_row, row_before, listed, left, entered}
use Rattle.model.specs.Lists.{listed_rows}
use Rattle.model.specs.Calls.{Answer, Board, Change, changed, change_answer, change_notice, list_of, query_answer, list}

-- A call of a run: a change, the preview of one, a list call, or any other that leaves the board's memory as it was (a refused
-- load among them).
pub data Call : Type 0 where
  change : Change → Call
  preview : Change → Call
  list_call : Call
  other : Call

-- What is seen of a call: the number of rows lent, the answer, and the rows that it tells.
pub record Event : Type 0 where
  pub call : Call
  pub lent : ℕ
  pub answer : Answer
  pub rows : List Row

unfoldable pub is_accepted : Answer → Bool
is_accepted a = eqb a.number 0

-- "The plain board knows the arguments of the load and of the calls, the number of rows lent among them, and nothing
-- else": what it says, and what an accepted change makes of it. "A refused change and every other call leave it as it was."
unfoldable pub plain_next : Board → Call → ℕ → Board
plain_next b (change c) lent = cond (is_accepted (change_answer b c lent)) (changed b c) b
plain_next b (preview c) lent = b
plain_next b list_call lent = b
plain_next b other lent = b

-- "Each enter, withdraw, re-cost and list call gets the plain board's refusal, or 0. An accepted change's notice equals, row
-- for row, the one that the plain board's lists before and after it give"; a refused one's has no rows. A preview answers and tells
-- what its change would.
unfoldable pub ChangeAnswered : Board → Event → Change → Type 0
ChangeAnswered b e c =
    (e.answer ≡ change_answer b c e.lent) × (e.rows ≡ cond (is_accepted e.answer) (change_notice b c) [])

unfoldable pub Answered : Board → Event → Call → Type 0
Answered b e (change c) = ChangeAnswered b e c
Answered b e (preview c) = ChangeAnswered b e c
Answered b e list_call = e.answer ≡ query_answer b list e.lent
Answered b e other = Unit {0}

-- "he takes out the rows marked left and puts in those marked entered, each at its place in Z-order", by his rows, the notice
-- and d only.
unfoldable pub marked : ℕ → List Row → List Row
marked m rs = select (λ r. eqb r.mark m) rs

unfoldable pub put_in : ℕ → List Row → List Row → List Row
put_in d [] held = held
put_in d (r ∷ rs) held =
    put_in d rs
    (insert_by (row_before d) (record { mark = listed; number = r.number; costs = r.costs }) held)

unfoldable pub take_out : List Row → List Row → List Row
take_out rs held = select (λ h. not (any (same_row h) rs)) held

unfoldable pub followed : ℕ → List Row → List Row → List Row
followed d notice held = put_in d (marked entered notice) (take_out (marked left notice) held)

-- "A call without a notice alters nothing." Nor does a preview: "holders of a list pass it by" (Card 2).
unfoldable pub held_after : ℕ → List Row → Event → Call → List Row
held_after d held e (change c) = followed d e.rows held
held_after d held e (preview c) = held
held_after d held e list_call = held
held_after d held e other = held

-- "After that list call and after every later call of the run, his rows equal Definition 2's list of the plain board, in
-- order", with Card 4's rule.
unfoldable pub HoldsList : Board → List Row → List Event → Type 0
HoldsList b held [] = held ≡ listed_rows (list_of b)
HoldsList b held (e ∷ es) =
    (held ≡ listed_rows (list_of b))
    × HoldsList (plain_next b e.call e.lent) (held_after b.dimension held e e.call) es

-- "The holder starts with the rows of any one accepted list call in the run."
unfoldable pub Starts : Board → Event → Call → List Event → Type 0
Starts b e (change c) es = Unit {0}
Starts b e (preview c) es = Unit {0}
Starts b e list_call es = is_accepted e.answer ≡ Bool.true → HoldsList b e.rows es
Starts b e other es = Unit {0}

-- The claim of demand 3 about a whole run, from the plain board of the accepted load on.
unfoldable pub Demand3 : Board → List Event → Type 0
Demand3 b [] = Unit {0}
Demand3 b (e ∷ es) =
    Answered b e e.call
    × Starts b e e.call es
    × Demand3 (plain_next b e.call e.lent) es

-- "Demand 3 does not count it among the notices" (Card 2): a run without its previews.
unfoldable pub is_preview : Call → Bool
is_preview (change c) = Bool.false
is_preview (preview c) = Bool.true
is_preview list_call = Bool.false
is_preview other = Bool.false

unfoldable pub without_previews : List Event → List Event
without_previews es = select (λ e. not (is_preview e.call)) es
