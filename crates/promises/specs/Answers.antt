-- Document 01's number of each refusal, and what lent rows hold.
use Rattle.std.specs.Prelude.{ℕ, zero, suc, ◌+◌, ◌*◌, List, [], ◌∷◌, ◌++◌, length, get_or, drop, Result, Ok, Err, ⊤}
use Rattle.model.specs.Moves.{InputRow, Row}
use Rattle.model.specs.Hours.{Window, Hours}
use Rattle.model.specs.Calls as calls
use Rattle.promises.specs.declared.Refusal.{Refusal}
use Rattle.promises.specs.declared.Reason.{Reason}
use Rattle.promises.specs.declared.Reason.TheVariants.{ShortMemory, OutOfRange, Unsound, NumberTooLarge, NumberTwice, NumberAbsent, BadArgument, FewRows, BlockTooLarge, BadHours}

abbrev pub reason_number : Reason → ℕ
reason_number ShortMemory = 1
reason_number OutOfRange = 2
reason_number Unsound = 3
reason_number NumberTooLarge = 4
reason_number NumberTwice = 5
reason_number NumberAbsent = 6
reason_number BadArgument = 7
reason_number FewRows = 8
reason_number BlockTooLarge = 11
reason_number BadHours = 12

-- The number of what a check says, 0 if it passes.
abbrev pub check_number : Result ⊤ Reason → ℕ
check_number (Ok _) = 0
check_number (Err r) = reason_number r

-- What a call says: accepted, or refused for a reason with a detail.
abbrev pub Verdict : Type 0
Verdict = Result ⊤ Refusal

abbrev pub number_of : Verdict → ℕ
number_of (Ok _) = 0
number_of (Err r) = reason_number r.reason

abbrev pub detail_of : Verdict → ℕ
detail_of (Ok _) = 0
detail_of (Err r) = r.detail

abbrev pub answer_of : Verdict → calls.Answer
answer_of v = record { number = number_of v; detail = detail_of v }

-- The verdicts: accepted, and refused by their reason and detail.
abbrev pub accepted_verdict : Verdict
accepted_verdict = Ok tt

abbrev pub refused_by : Reason → ℕ → Verdict
refused_by reason detail = Err (record { reason = reason; detail = detail })

-- A row in memory as numbers: for load the number, the block and the costs, for a result a mark, the number and the costs.
unfoldable pub input_row : List ℕ → InputRow
input_row ns = record { number = get_or ns 0 0; block = get_or ns 1 0; costs = drop 2 ns }

unfoldable pub result_row : List ℕ → Row
result_row ns = record { mark = get_or ns 0 0; number = get_or ns 1 0; costs = drop 2 ns }

-- A block's hours as numbers: the count, then start and end of each of four windows.
unfoldable pub window_at : List ℕ → ℕ → Window
window_at ns i = record { start = get_or ns (1 + 2 * i) 0; end = get_or ns (2 + 2 * i) 0 }

unfoldable pub block_hours : List ℕ → Hours
block_hours ns =
    record { count = get_or ns 0 0; windows = window_at ns 0 ∷ window_at ns 1 ∷ window_at ns 2 ∷ window_at ns 3 ∷ [] }

-- What a call that answers with this number tells: "A refused call's counts .. are zero."
unfoldable pub counted : ℕ → ℕ → ℕ
counted zero n = n
counted (suc k) n = 0

-- The lent rows afterwards: those told first, then those that were there; refused, all as they were.
unfoldable pub rows_after : ℕ → List Row → List Row → List Row
rows_after zero new old = new ++ drop (length new) old
rows_after (suc k) new old = old
