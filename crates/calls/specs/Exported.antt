-- The exported calls keep the promises of `promises`, with rows as structs and the verdict by number and detail.
use Rattle.std.specs.Prelude.{ℕ, List, map, ◌≡◌}
use Rattle.model.specs.Moves as model
use Rattle.model.specs.Calls as calls
use Rattle.promises.specs.Answers.{Verdict, number_of, detail_of, counted, result_row}
use Rattle.promises.specs.Promise.{LoadPromise, ChangePromise, PreviewPromise, QueryPromise}
use Rattle.promises.specs.declared.CallResult as said
use Rattle.rows.specs.Rows.{row_numbers}
use Rattle.rows.specs.declared.row.Row.{Row}
use Rattle.calls.specs.declared.answer.Answer.{Answer}
use Rattle.calls.specs.declared.answer.Move.{Move}

-- A verdict handed on: its number and detail, and the counts of rows told and of nodes opened.
pub record Handed (v : Verdict) (told nodes : ℕ) (r : Answer) : Type 0 where
  pub refusal : r.refusal ≡ number_of v
  pub detail : r.detail ≡ detail_of v
  pub count : r.count ≡ told
  pub opened : r.opened ≡ nodes

-- What is foreseen handed on: of a refused call the counts are zero.
abbrev pub Answered : Verdict → ℕ → ℕ → Answer → Type 0
Answered v need opened = Handed v (counted (number_of v) need) (counted (number_of v) opened)

-- Lent rows as the definitions speak of them.
unfoldable pub rows_of : List Row → List model.Row
rows_of rows = map result_row (map row_numbers rows)

-- The changes of the definitions, from the move that a call is given.
abbrev pub entering : Move → calls.Change
entering given = calls.enter given.number given.block given.costs

abbrev pub recosting : Move → calls.Change
recosting given = calls.recost given.number given.block given.costs

-- ---- what is promised

pub record LoadExported (c d : ℕ) (rows : List model.InputRow) (m : List ℕ) (r : Answer) (m' : List ℕ) : Type 0 where
  pub verdict : Verdict
  pub handed : Handed verdict 0 0 r
  pub promise : LoadPromise c d rows m verdict m'

-- An answer handed on, of which this is promised.
pub record AnswerExported (Promised : said.CallResult → Type 0) (r : Answer) : Type 0 where
  pub answer : said.CallResult
  pub handed : Handed answer.verdict answer.count answer.opened r
  pub promise : Promised answer

abbrev pub ChangeExported : calls.Change → List ℕ → List model.Row → Answer → List ℕ → List model.Row → Type 0
ChangeExported x m lent r m' lent' = AnswerExported (λ a. ChangePromise x m lent a m' lent') r

abbrev pub PreviewExported : calls.Change → List ℕ → List model.Row → Answer → List model.Row → Type 0
PreviewExported x m lent r lent' = AnswerExported (λ a. PreviewPromise x m lent a lent') r

abbrev pub QueryExported : calls.Query → List ℕ → List model.Row → Answer → List model.Row → Type 0
QueryExported q m lent r lent' = AnswerExported (λ a. QueryPromise q m lent a lent') r
