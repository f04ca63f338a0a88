-- A run (document 01, "The holder of a list"): an accepted load, then calls on the same memory, each with the very promise that
-- its `ensures` cites. Nothing else is known of them.
use Rattle.std.specs.Prelude.{ℕ, ◌<◌, List, [], ◌∷◌, ◌≡◌, length, take, get_or}
use Rattle.model.specs.Moves.{InputRow, Row}
use Rattle.model.specs.Calls as calls
use Rattle.model.specs.Calls.{Change, list, loaded}
use Rattle.model.specs.Holder.{change, preview, list_call, other, Event, Demand3}
use Rattle.promises.specs.Answers.{Verdict, answer_of, number_of}
use Rattle.promises.specs.Promise.{LoadPromise, QueryPromise, ChangePromise, PreviewPromise}
use Rattle.promises.specs.declared.CallResult.{CallResult}

-- The lent memory is a list of bytes, as its type in the code says.
unfoldable pub Bytes : List ℕ → Type 0
Bytes m = (i : ℕ) → get_or m i 0 < 256

-- One call, from the memory before it to the memory after it. Rows are lent anew to each call, any number of them. Last, any
-- call that leaves the memory, whatever it answers.
pub data Step : List ℕ → List ℕ → Type 0 where
  changes : (x : Change) (lent lent' : List Row) (r : CallResult) {m m' : List ℕ} → Bytes m' → ChangePromise x m lent r m' lent' → Step m m'
  previews : (x : Change) (lent lent' : List Row) (r : CallResult) {m : List ℕ} → PreviewPromise x m lent r lent' → Step m m
  lists : (lent lent' : List Row) (r : CallResult) {m : List ℕ} → QueryPromise list m lent r lent' → Step m m
  load_refused : (c d : ℕ) (rows : List InputRow) (v : Verdict) {m m' : List ℕ} → LoadPromise c d rows m v m' → (number_of v ≡ 0 → ⊥) → Step m m'
  leaves : (answer : calls.Answer) {m : List ℕ} → Step m m

-- "Each call gets the whole memory as the last one left it."
pub data Steps : List ℕ → List ℕ → Type 0 where
  done : {m : List ℕ} → Steps m m
  then : {m m' m'' : List ℕ} → Step m m' → Steps m' m'' → Steps m m''

-- What is seen of a call: the rows that it tells are the first of the lent ones, as many as it says.
unfoldable pub event_of : {m m' : List ℕ} → Step m m' → Event
event_of (changes x lent lent' r bytes p) =
    record { call = change x; lent = length lent; answer = answer_of r.verdict; rows = take r.count lent' }
event_of (previews x lent lent' r p) =
    record { call = preview x; lent = length lent; answer = answer_of r.verdict; rows = take r.count lent' }
event_of (lists lent lent' r p) =
    record { call = list_call; lent = length lent; answer = answer_of r.verdict; rows = take r.count lent' }
event_of (load_refused c d rows v p refused) = record { call = other; lent = 0; answer = answer_of v; rows = [] }
event_of (leaves answer) = record { call = other; lent = 0; answer = answer; rows = [] }

unfoldable pub events_of : {m m' : List ℕ} → Steps m m' → List Event
events_of done = []
events_of (then s ss) = event_of s ∷ events_of ss

-- Any calls on one memory, whatever it holds at first: those above, and loads that are accepted.
pub data History : List ℕ → List ℕ → Type 0 where
  end : {m : List ℕ} → History m m
  call : {m m' m'' : List ℕ} → Step m m' → History m' m'' → History m m''
  load : (c d : ℕ) (rows : List InputRow) (v : Verdict) {m m' m'' : List ℕ} → LoadPromise c d rows m v m' → number_of v ≡ 0 → Bytes m' → History m' m'' → History m m''

-- What is seen of its calls up to the next accepted load: "The next accepted load starts another run."
unfoldable pub run_of : {m m' : List ℕ} → History m m' → List Event
run_of end = []
run_of (call s h) = event_of s ∷ run_of h
run_of (load c d rows v p accepted bytes h) = []

-- Each of its accepted loads starts a run of which demand 3 holds.
unfoldable pub EachRun : {m m' : List ℕ} → History m m' → Type 0
EachRun end = Unit {0}
EachRun (call s h) = EachRun h
EachRun (load c d rows v p accepted bytes h) = Demand3 (loaded c d rows) (run_of h) × EachRun h
