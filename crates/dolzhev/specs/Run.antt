-- Runs of the exported calls on one memory (document 01, "The holder of a list"): each call with the very record that its
-- `ensures` cites. Nothing else is known of them.
use Rattle.std.specs.Prelude.{ℕ, List, [], ◌∷◌, ◌≡◌, length, take}
use Rattle.model.specs.Moves.{InputRow, Row}
use Rattle.model.specs.Calls as calls
use Rattle.model.specs.Calls.{Change, Query, list, loaded}
use Rattle.model.specs.Holder.{change, preview, list_call, other, Event, Demand3}
use Rattle.promises.specs.Run.{Bytes}
use Rattle.calls.specs.Exported.{LoadExported, ChangeExported, PreviewExported, QueryExported}
use Rattle.calls.specs.declared.answer.Answer.{Answer}

-- One call, from the memory before it to the memory after it. Previews and lists are lent the memory for reading only: it stays.
pub data ExportedStep : List ℕ → List ℕ → Type 0 where
  changes : (x : Change) (lent lent' : List Row) (r : Answer) {m m' : List ℕ} → Bytes m' → ChangeExported x m lent r m' lent' → ExportedStep m m'
  previews : (x : Change) (lent lent' : List Row) (r : Answer) {m : List ℕ} → PreviewExported x m lent r lent' → ExportedStep m m
  lists : (lent lent' : List Row) (r : Answer) {m : List ℕ} → QueryExported list m lent r lent' → ExportedStep m m
  queries : (q : Query) (lent lent' : List Row) (r : Answer) {m : List ℕ} → QueryExported q m lent r lent' → ExportedStep m m
  load_refused : (c d : ℕ) (rows : List InputRow) (r : Answer) {m m' : List ℕ} → LoadExported c d rows m r m' → (r.refusal ≡ 0 → ⊥) → ExportedStep m m'

unfoldable pub answered : Answer → calls.Answer
answered r = record { number = r.refusal; detail = r.detail }

-- What is seen of a call: the rows that it tells are the first of the lent ones, as many as it says. A list other than
-- the list call's is a call that leaves the memory, and no list call of demand 3.
unfoldable pub exported_event : {m m' : List ℕ} → ExportedStep m m' → Event
exported_event (changes x lent lent' r bytes p) =
    record { call = change x; lent = length lent; answer = answered r; rows = take r.count lent' }
exported_event (previews x lent lent' r p) =
    record { call = preview x; lent = length lent; answer = answered r; rows = take r.count lent' }
exported_event (lists lent lent' r p) =
    record { call = list_call; lent = length lent; answer = answered r; rows = take r.count lent' }
exported_event (queries q lent lent' r p) = record { call = other; lent = 0; answer = answered r; rows = [] }
exported_event (load_refused c d rows r p refused) = record { call = other; lent = 0; answer = answered r; rows = [] }

-- Any calls on one memory, whatever it holds at first.
pub data ExportedHistory : List ℕ → List ℕ → Type 0 where
  end : {m : List ℕ} → ExportedHistory m m
  call : {m m' m'' : List ℕ} → ExportedStep m m' → ExportedHistory m' m'' → ExportedHistory m m''
  load : (c d : ℕ) (rows : List InputRow) (r : Answer) {m m' m'' : List ℕ} → LoadExported c d rows m r m' → r.refusal ≡ 0 → Bytes m' → ExportedHistory m' m'' → ExportedHistory m m''

-- What is seen of its calls up to the next accepted load.
unfoldable pub exported_run : {m m' : List ℕ} → ExportedHistory m m' → List Event
exported_run end = []
exported_run (call s h) = exported_event s ∷ exported_run h
exported_run (load c d rows r p accepted bytes h) = []

-- Each of its accepted loads starts a run of which demand 3 holds.
unfoldable pub EachExported : {m m' : List ℕ} → ExportedHistory m m' → Type 0
EachExported end = Unit {0}
EachExported (call s h) = EachExported h
EachExported (load c d rows r p accepted bytes h) = Demand3 (loaded c d rows) (exported_run h) × EachExported h
