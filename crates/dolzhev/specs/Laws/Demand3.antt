-- Demand 3, of every history of exported calls: one step from `each-run`, since what is seen of an exported call is what is seen
-- of the call whose promise it hands on.
use Rattle.std.specs.Prelude.{ℕ, List, [], ◌∷◌, ◌≡◌, refl, length, take}
use Rattle.std.proofs.Common.{sym, ap, ap₂, ◌∙◌, subst}
use Rattle.model.specs.Calls as calls
use Rattle.model.specs.Calls.{loaded}
use Rattle.model.specs.Holder.{change, preview, list_call, other, Demand3}
use Rattle.promises.specs.Answers.{Verdict, answer_of}
use Rattle.promises.specs.Run as run
use Rattle.promises.specs.Run.{Step, History, event_of, run_of, EachRun}
use Rattle.promises.proofs.Demand3.{each-run}
use Rattle.calls.specs.Exported.{Handed}
use Rattle.dolzhev.specs.Run.{ExportedStep, changes, previews, lists, queries, load_refused, answered, exported_event, ExportedHistory, end, call, load, exported_run, EachExported}
use Rattle.calls.specs.declared.answer.Answer.{Answer}

step_of : {m m' : List ℕ} → ExportedStep m m' → Step m m'
step_of (changes x lent lent' r bytes p) = run.changes x lent lent' p.answer bytes p.promise
step_of (previews x lent lent' r p) = run.previews x lent lent' p.answer p.promise
step_of (lists lent lent' r p) = run.lists lent lent' p.answer p.promise
step_of (queries q lent lent' r p) = run.leaves (answered r)
step_of (load_refused c d rows r p refused) = run.load_refused c d rows p.verdict p.promise (λ e. refused (p.handed.refusal ∙ e))

history_of : {m m' : List ℕ} → ExportedHistory m m' → History m m'
history_of end = run.end
history_of (call s h) = run.call (step_of s) (history_of h)
history_of (load c d rows r p accepted bytes h) =
    run.load c d rows p.verdict p.promise (sym p.handed.refusal ∙ accepted) bytes (history_of h)

handed-answer : {v : Verdict} {count nodes : ℕ} {r : Answer} → Handed v count nodes r → answered r ≡ answer_of v
unfolding answered
handed-answer h = λ i. record { number = h.refusal i; detail = h.detail i }

event-same : {m m' : List ℕ} (s : ExportedStep m m') → exported_event s ≡ event_of (step_of s)
unfolding exported_event event_of step_of
event-same (changes x lent lent' r bytes p) =
    λ i. record { call = change x; lent = length lent; answer = handed-answer p.handed i; rows = take (p.handed.count i) lent' }
event-same (previews x lent lent' r p) =
    λ i. record { call = preview x; lent = length lent; answer = handed-answer p.handed i; rows = take (p.handed.count i) lent' }
event-same (lists lent lent' r p) =
    λ i. record { call = list_call; lent = length lent; answer = handed-answer p.handed i; rows = take (p.handed.count i) lent' }
event-same (queries q lent lent' r p) = refl
event-same (load_refused c d rows r p refused) =
    ap (λ (a : calls.Answer). record { call = other; lent = 0; answer = a; rows = [] }) (handed-answer p.handed)

run-same : {m m' : List ℕ} (h : ExportedHistory m m') → exported_run h ≡ run_of (history_of h)
unfolding exported_run run_of history_of
run-same end = refl
run-same (call s h) = ap₂ ◌∷◌ (event-same s) (run-same h)
run-same (load c d rows r p accepted bytes h) = refl

each_same : {m m' : List ℕ} (h : ExportedHistory m m') → EachRun (history_of h) → EachExported h
unfolding EachExported EachRun history_of
each_same end e = tt
each_same (call s h) e = each_same h e
each_same (load c d rows r p accepted bytes h) e = (subst (Demand3 (loaded c d rows)) (sym (run-same h)) e.0, each_same h e.1)

-- Whatever calls are made on one memory, each accepted load starts a run of which demand 3 holds.
pub exported-demand3 : {m m' : List ℕ} (h : ExportedHistory m m') → EachExported h
exported-demand3 h = each_same h (each-run (history_of h))
