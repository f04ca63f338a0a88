-- Card 2: wherever previews stand in a run, accepted or refused, the rows held are those of the run without them, and the claim of
-- demand 3 is that of the run without them and that each preview answers and tells what its change would.
use Rattle.std.specs.Prelude.{ℕ, true, List, [], ◌∷◌, ◌≡◌, refl}
use Rattle.model.specs.Basics.{select}
use Rattle.model.specs.Moves.{Row}
use Rattle.model.specs.Lists.{listed_rows}
use Rattle.model.specs.Calls.{Answer, Board, list_of}
use Rattle.model.specs.Holder.{Call, change, preview, list_call, other, Event, plain_next, Answered, held_after, HoldsList, Starts, Demand3, is_preview, without_previews}

abbrev event : Call → ℕ → Answer → List Row → Event
event c lent answer rows = record { call = c; lent = lent; answer = answer; rows = rows }

-- ---- the holder

abbrev Without : List Event → Type 0
Without es = (b : Board) (held : List Row) → HoldsList b held es → HoldsList b held (without_previews es)

without-call : (c : Call) (lent : ℕ) (answer : Answer) (rows : List Row) (es : List Event) → Without es → Without (event c lent answer rows ∷ es)
unfolding HoldsList without_previews select is_preview plain_next held_after
without-call (change x) lent answer rows es next b held h = (h.0, next _ _ h.1)
without-call (preview x) lent answer rows es next b held h = next b held h.1
without-call list_call lent answer rows es next b held h = (h.0, next _ _ h.1)
without-call other lent answer rows es next b held h = (h.0, next _ _ h.1)

pub holds-without : (es : List Event) (b : Board) (held : List Row) → HoldsList b held es → HoldsList b held (without_previews es)
unfolding without_previews select
holds-without [] b held h = h
holds-without (e ∷ es) b held h = without-call e.call e.lent e.answer e.rows es (holds-without es) b held h

holds-now : (es : List Event) (b : Board) (held : List Row) → HoldsList b held es → held ≡ listed_rows (list_of b)
unfolding HoldsList
holds-now [] b held h = h
holds-now (e ∷ es) b held h = h.0

abbrev Within : List Event → Type 0
Within es = (b : Board) (held : List Row) → HoldsList b held (without_previews es) → HoldsList b held es

within-call : (c : Call) (lent : ℕ) (answer : Answer) (rows : List Row) (es : List Event) → Within es → Within (event c lent answer rows ∷ es)
unfolding HoldsList without_previews select is_preview plain_next held_after
within-call (change x) lent answer rows es next b held h = (h.0, next _ _ h.1)
within-call (preview x) lent answer rows es next b held h = (holds-now (without_previews es) b held h, next b held h)
within-call list_call lent answer rows es next b held h = (h.0, next _ _ h.1)
within-call other lent answer rows es next b held h = (h.0, next _ _ h.1)

pub holds-with : (es : List Event) (b : Board) (held : List Row) → HoldsList b held (without_previews es) → HoldsList b held es
unfolding without_previews select
holds-with [] b held h = h
holds-with (e ∷ es) b held h = within-call e.call e.lent e.answer e.rows es (holds-with es) b held h

-- ---- demand 3

claim-without : (c : Call) (lent : ℕ) (answer : Answer) (rows : List Row) (es : List Event) → ((b : Board) → Demand3 b es → Demand3 b (without_previews es))
    → (b : Board) → Demand3 b (event c lent answer rows ∷ es) → Demand3 b (without_previews (event c lent answer rows ∷ es))
unfolding Demand3 Starts without_previews select is_preview plain_next
claim-without (change x) lent answer rows es next b d = (d.0, d.1, next _ d.2)
claim-without (preview x) lent answer rows es next b d = next b d.2
claim-without list_call lent answer rows es next b d = (d.0, (λ a. holds-without es b rows (d.1 a)), next b d.2)
claim-without other lent answer rows es next b d = (d.0, d.1, next b d.2)

pub demand3-without : (es : List Event) (b : Board) → Demand3 b es → Demand3 b (without_previews es)
unfolding without_previews select
demand3-without [] b d = d
demand3-without (e ∷ es) b d = claim-without e.call e.lent e.answer e.rows es (demand3-without es) b d

-- Each preview of a run, on the plain board where it stands.
abbrev pub EachPreview : Board → List Event → Type 0
EachPreview b [] = Unit {0}
EachPreview b (e ∷ es) =
    (is_preview e.call ≡ true → Answered b e e.call) × EachPreview (plain_next b e.call e.lent) es

claim-with : (c : Call) (lent : ℕ) (answer : Answer) (rows : List Row) (es : List Event) → ((b : Board) → EachPreview b es → Demand3 b (without_previews es) → Demand3 b es)
    → (b : Board) → EachPreview b (event c lent answer rows ∷ es) → Demand3 b (without_previews (event c lent answer rows ∷ es)) → Demand3 b (event c lent answer rows ∷ es)
unfolding Demand3 Starts without_previews select is_preview plain_next
claim-with (change x) lent answer rows es next b a d = (d.0, d.1, next _ a.1 d.2)
claim-with (preview x) lent answer rows es next b a d = (a.0 refl, tt, next b a.1 d)
claim-with list_call lent answer rows es next b a d = (d.0, (λ k. holds-with es b rows (d.1 k)), next b a.1 d.2)
claim-with other lent answer rows es next b a d = (d.0, d.1, next b a.1 d.2)

pub demand3-with : (es : List Event) (b : Board) → EachPreview b es → Demand3 b (without_previews es) → Demand3 b es
unfolding without_previews select
demand3-with [] b a d = d
demand3-with (e ∷ es) b a d = claim-with e.call e.lent e.answer e.rows es (demand3-with es) b a d
