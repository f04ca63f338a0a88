-- Plans told: what that asks, and what it leaves in the lent rows and answers.
use Rattle.std.specs.Prelude.{ℕ, ◌+◌, ◌<◌, ◌≤◌, List, map, ◌≡◌, length}
use Rattle.promises.specs.Answers.{Verdict}
use Rattle.rows.specs.Rows.{row_numbers}
use Rattle.rows.specs.Telling.{TellingAsked, filled_rows}
use Rattle.rows.specs.declared.plan.Plan.{Plan}
use Rattle.rows.specs.declared.row.Row.{Row}
use Rattle.planning.specs.Plan.{left_of, entered_of, rows_filled}
use Rattle.planning.specs.declared.plan.ChangePlan.{ChangePlan}
use Rattle.calls.specs.Exported.{Answered}
use Rattle.calls.specs.declared.answer.Answer.{Answer}

-- The lent rows have these numbers, and what is foreseen is handed on.
pub record Told (new : List (List ℕ)) (v : Verdict) (need opened : ℕ) (lent' : List Row) (r : Answer) : Type 0 where
  pub rows : map row_numbers lent' ≡ new
  pub handed : Answered v need opened r

-- ---- a list

pub record ListAsked (p : Plan) (m : List ℕ) (lent : List Row) : Type 0 where
  pub readable : 0 < p.telling.count → TellingAsked p.telling.told m
  pub enough : p.telling.count ≤ length lent

abbrev pub ListTold : Plan → List ℕ → List Row → Answer → List Row → Type 0
ListTold p m lent r lent' =
    Told (filled_rows p.telling.told p.telling.numbers m 0 p.telling.count (map row_numbers lent)) p.verdict p.need p.opened lent' r

-- ---- the notice of a change

pub record NoticeAsked (p : ChangePlan) (m : List ℕ) (lent : List Row) : Type 0 where
  pub left : 0 < (left_of p).count → TellingAsked (left_of p).told m
  pub entered : 0 < (entered_of p).count → TellingAsked (entered_of p).told m
  pub within : p.upkeep.left ≤ p.need
  pub enough : (left_of p).count + (entered_of p).count ≤ length lent

abbrev pub NoticeTold : ChangePlan → List ℕ → List Row → Answer → List Row → Type 0
NoticeTold p m lent r lent' = Told (rows_filled p m (map row_numbers lent)) p.verdict p.need p.opened lent' r
