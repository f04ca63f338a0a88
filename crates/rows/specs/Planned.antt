-- What a call will say and tell, found without writing.
use Rattle.std.specs.Prelude.{ℕ, ◌+◌, ◌≤◌, ◌<◌, Bool, ◌≡◌, List, ◌++◌, map, length, take, drop}
use Rattle.model.specs.Moves.{Row}
use Rattle.model.specs.Lists.{listed_rows}
use Rattle.model.specs.Tree.{Tree}
use Rattle.model.specs.Calls as calls
use Rattle.model.specs.Calls.{accepted, or_else, rows_answer, Query, query_refusal, query_rows}
use Rattle.model.specs.Opening.{query_opens}
use Rattle.promises.specs.Layout.{dimension_in, board_in}
use Rattle.promises.specs.Sound.{Stands, Sound}
use Rattle.promises.specs.Answers.{Verdict, answer_of, number_of, counted, result_row, refused_by}
use Rattle.promises.specs.declared.Reason.TheVariants.{Unsound}
use Rattle.promises.specs.declared.CallResult.{CallResult}
use Rattle.memory.specs.Held.{SoundAt}
use Rattle.memory.specs.declared.head.Head.{Head}
use Rattle.upkeep.specs.Found.{Finds, found_moves}
use Rattle.upkeep.specs.declared.found.Found.{Found}
use Rattle.rows.specs.Telling.{TellingAsked, told_rows}
use Rattle.rows.specs.declared.plan.Plan.{Plan}
use Rattle.rows.specs.declared.telling.Telling.{Telling}

-- The answer of a call that is refused so, 3 and 8 apart, and has these rows.
abbrev pub answer_by : calls.Answer → List Row → ℕ → calls.Answer
answer_by refusal rows lent = or_else refusal (rows_answer (length rows) lent)

-- What is foreseen of such a call: the verdict, 3 of memory that is not sound; and where 8 is judged, so where nothing before it
-- turns the call down, the rows needed and the nodes opened.
pub record Foreseen (refusal : calls.Answer) (rows : List Row) (nodes : Tree → ℕ) (m : List ℕ) (lent : ℕ) (v : Verdict) (need opened : ℕ) : Type 0 where
  pub sound : Sound m → answer_of v ≡ answer_by refusal rows lent
  pub unsound : (Sound m → ⊥) → v ≡ refused_by Unsound 0
  pub needs : Sound m → refusal.number ≡ 0 → need ≡ length rows
  pub opens : (s : Sound m) → refusal.number ≡ 0 → opened ≡ nodes s.tree

-- A telling has these rows, if the call is accepted; refused, it tells none, and then the memory may be any.
pub record Tells (v : Verdict) (new : List Row) (m : List ℕ) (t : Telling) : Type 0 where
  pub rows : 0 < t.count → map result_row (told_rows t.told t.numbers m) ≡ new
  pub count : number_of v ≡ 0 → t.count ≡ length new
  pub none : 0 < number_of v → t.count ≡ 0
  pub asked : 0 < t.count → TellingAsked t.told m

-- The plan of a list.
pub record Plans (refusal : calls.Answer) (rows : List Row) (nodes : Tree → ℕ) (m : List ℕ) (lent : ℕ) (p : Plan) : Type 0 where
  pub foreseen : Foreseen refusal rows nodes m lent p.verdict p.need p.opened
  pub tells : Tells p.verdict rows m p.telling
  pub enough : p.telling.count ≤ lent

abbrev pub QueryPlanned : Query → List ℕ → ℕ → Plan → Type 0
QueryPlanned q m lent = Plans (query_refusal (board_in m) q) (query_rows (board_in m) q) (query_opens (dimension_in m) q) m lent

-- A plan that tells nothing: a check before 8 refused.
pub record Refuses (v : Verdict) (p : Plan) : Type 0 where
  pub verdict : p.verdict ≡ v
  pub count : p.telling.count ≡ 0

-- The plan of each call that is not turned down and whose rows are the moves found.
pub record PlansFound (h : Head) (found : Found) (opened lent : ℕ) (p : Plan) : Type 0 where
  pub plans :
      {m : List ℕ} {test : ℕ → Bool}
      → SoundAt h m
      → Finds h test m found
      → (refusal : calls.Answer)
      → refusal ≡ accepted
      → (rows : List Row)
      → listed_rows (found_moves h.size h.dimension h.count test m) ≡ rows
      → (nodes : Tree → ℕ)
      → ((t : Tree) → Stands m t → opened ≡ nodes t)
      → Plans refusal rows nodes m lent p

-- Rows put into others, from a row on.
unfoldable pub put : ℕ → List Row → List Row → List Row
put from new rows = take from rows ++ (new ++ drop (from + length new) rows)

-- What the call answers: of a refused one the counts are zero.
abbrev pub answered : Verdict → ℕ → ℕ → CallResult
answered v need opened = record { verdict = v; count = counted (number_of v) need; opened = counted (number_of v) opened }
