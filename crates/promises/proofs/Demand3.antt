-- Demand 3, of whole runs of calls that keep their promises.
use Prim.Native.Nat.{ℕ, zero, suc}
use Rattle.std.specs.Prelude.{Bool, List, [], map, ◌≡◌, refl, eqb, length, take, drop}
use Rattle.std.proofs.Math.Bool.{cond}
use Rattle.std.proofs.Common.{sym, ap₂, ◌∙◌, arith}
use Rattle.std.proofs.Math.Path.{ap, subst}
use Rattle.std.proofs.Math.Dec.{eqb-suc-zero}
use Rattle.std.proofs.Math.Seq.{take-append_seam}
use Rattle.model.specs.Moves.{InputRow, Row, move_of}
use Rattle.model.specs.Tree.{Tree}
use Rattle.model.specs.Loading.{load_tree}
use Rattle.model.specs.Lists.{listed_rows}
use Rattle.model.specs.Notice.{notice_of}
use Rattle.model.specs.Calls as calls
use Rattle.model.specs.Calls.{Board, loaded, Change, changed, change_notice, list_of, list, query_rows}
use Rattle.model.specs.Changing.{change_tree}
use Rattle.model.specs.Opening.{query_opens, change_opens}
use Rattle.model.specs.Sound.{SoundBoard}
use Rattle.model.specs.Holder.{change, is_accepted, ChangeAnswered, plain_next, Answered, followed, held_after, Demand3}
use Rattle.model.proofs.Laws.Holder.{SameShape, change-shape, lists-held, Reads, Keeps, EachKeeps, keeps-demand3}
use Rattle.promises.specs.Layout.{size_in, dimension_in}
use Rattle.promises.specs.Written.{change_writes, load_writes}
use Rattle.promises.specs.Sound.{Holding}
use Rattle.promises.specs.Answers.{Verdict, answer_of, number_of, counted, rows_after}
use Rattle.promises.specs.Promise.{MemoryAfter, LoadPromise, Said, QueryPromise, QuerySaidOn, ChangeSaidOn, ChangeSaid, ChangePromise}
use Rattle.promises.specs.Run.{Bytes, Step, changes, previews, lists, load_refused, leaves, Steps, done, then, event_of, events_of, History, end, call, load, run_of, EachRun}
use Rattle.promises.proofs.Laws.Stands.{holding-sound, holding-board}
use Rattle.promises.specs.declared.CallResult.{CallResult}

-- ---- what a call says

-- The rows that a call tells are the first of the lent ones; refused, it tells none.
told-rows : (n : ℕ) (rows lent : List Row) → take (counted n (length rows)) (rows_after n rows lent) ≡ cond (eqb n 0) rows []
unfolding counted rows_after
told-rows zero rows lent = take-append_seam rows (drop (length rows) lent)
told-rows (suc k) rows lent = ap (λ (b : Bool). cond b rows []) (sym (eqb-suc-zero k))

pub said-rows : (a : calls.Answer) (rows : List Row) (nodes : ℕ) (lent : List Row) (r : CallResult) (lent' : List Row) → Said a rows nodes lent r lent'
    → take r.count lent' ≡ cond (is_accepted (answer_of r.verdict)) rows []
unfolding is_accepted
said-rows a rows nodes lent r lent' s =
    ap₂ (λ (k : ℕ) (rs : List Row). take k rs) s.counts s.tells ∙ told-rows (number_of r.verdict) rows lent

-- ---- between two calls of a run

record At (m : List ℕ) (b : Board) : Type 0 where
  pub tree : Tree
  pub holding : Holding m b tree
  pub bytes : Bytes m

at-board : {m : List ℕ} {b : Board} → At m b → SoundBoard b
at-board {m} {b} a = holding-board m b a.tree a.holding a.bytes

-- What is left by a call that answered with this number.
module _ (writes : ℕ → Bool) (m m' : List ℕ) (b' : Board) (t : Tree) where
  left-accepted : (n : ℕ) → n ≡ 0 → MemoryAfter writes n m m' b' t → Bytes m' → At m' b'
  unfolding MemoryAfter
  left-accepted n e l k = record { tree = t; holding = (subst (λ (n : ℕ). MemoryAfter writes n m m' b' t) e l).holding; bytes = k }

  left-refused : (n : ℕ) → ¬ (n ≡ 0) → MemoryAfter writes n m m' b' t → m' ≡ m
  unfolding MemoryAfter
  left-refused zero f l = absurd (f refl)
  left-refused (suc n) f l = l

  left_at : (n : ℕ) {b : Board} → MemoryAfter writes n m m' b' t → Bytes m' → At m b → At m' (cond (eqb n 0) b' b)
  left_at zero l k a = left-accepted 0 refl l k
  left_at (suc n) {b} l k a =
      subst (λ (c : Bool). At m' (cond c b' b)) (sym (eqb-suc-zero n))
      (subst (λ (m : List ℕ). At m b) (sym (left-refused (suc n) (λ e. omega arith) l)) a)

-- What is said of a change, made or previewed.
module _ (x : Change) (m : List ℕ) (lent lent' : List Row) (r : CallResult) (p : ChangeSaid x m lent r lent') (b : Board) (a : At m b) where
  said_here : ChangeSaidOn x b (change_opens (dimension_in m) x a.tree) lent r lent'
  said_here =
      subst (λ (b : Board). ChangeSaidOn x b (change_opens (dimension_in m) x a.tree) lent r lent') a.holding.board
      (p.sound (holding-sound a.holding))

  rows-here : take r.count lent' ≡ cond (is_accepted (answer_of r.verdict)) (change_notice b x) []
  rows-here = said-rows _ _ _ _ _ _ said_here

-- A call that answers so, tells the difference of the lists of this board and the next, and leaves the next if it is accepted.
module _ (answer : calls.Answer) (nodes : ℕ) (writes : ℕ → Bool) (next : Board) (t : Tree) (m m' : List ℕ) (lent lent' : List Row) (r : CallResult) (b : Board) (a : At m b)
    (said : Said answer (notice_of (list_of b) (list_of next)) nodes lent r lent') (left : MemoryAfter writes (number_of r.verdict) m m' next t) where
  -- the answer is the plain board's, so what becomes of it is known
  plain-after : cond (is_accepted answer) next b ≡ cond (is_accepted (answer_of r.verdict)) next b
  plain-after = ap (λ (a : calls.Answer). cond (is_accepted a) next b) (sym said.answers)

  after-at : Bytes m' → At m' (cond (is_accepted answer) next b)
  unfolding is_accepted
  after-at k = subst (At m') (sym plain-after) (left_at writes m m' next t (number_of r.verdict) left k a)

  rows_told : take r.count lent' ≡ cond (is_accepted (answer_of r.verdict)) (notice_of (list_of b) (list_of next)) []
  rows_told = said-rows _ _ _ _ _ _ said

  after-held : SameShape b next → Bytes m'
      → followed b.dimension (take r.count lent') (listed_rows (list_of b)) ≡ listed_rows (list_of (cond (is_accepted answer) next b))
  after-held same k =
      ap (λ (rs : List Row). followed b.dimension rs (listed_rows (list_of b))) rows_told
      ∙ lists-held b next same (at-board a) (is_accepted (answer_of r.verdict)) (at-board (subst (At m') plain-after (after-at k)))
      ∙ ap (λ (b : Board). listed_rows (list_of b)) (sym plain-after)

module _ (x : Change) (m m' : List ℕ) (lent lent' : List Row) (r : CallResult) (p : ChangePromise x m lent r m' lent') (b : Board) (a : At m b) where
  change-left : MemoryAfter (change_writes (size_in m) x) (number_of r.verdict) m m' (changed b x) (change_tree (dimension_in m) x a.tree)
  change-left =
      subst (λ (b : Board). MemoryAfter (change_writes (size_in m) x) (number_of r.verdict) m m' (changed b x) (change_tree (dimension_in m) x a.tree)) a.holding.board
      (p.left (holding-sound a.holding))

  change-at : Bytes m' → At m' (plain_next b (change x) (length lent))
  unfolding plain_next change_notice
  change-at = after-at _ _ _ (changed b x) _ m m' lent lent' r b a (said_here x m lent lent' r p.said b a) change-left

  change-keeps : (k : Bytes m') → Keeps b (event_of (changes x lent lent' r k p))
  unfolding event_of ChangeAnswered Answered Reads held_after plain_next change_notice
  change-keeps k =
      let said = said_here x m lent lent' r p.said b a in
      record {
        answered = (said.answers, rows-here x m lent lent' r p.said b a);
        reads = tt;
        held = after-held _ _ _ (changed b x) _ m m' lent lent' r b a said change-left (change-shape b x) k;
      }

module _ (m : List ℕ) (lent lent' : List Row) (r : CallResult) (p : QueryPromise list m lent r lent') (b : Board) (a : At m b) where
  list-said : QuerySaidOn list b (query_opens (dimension_in m) list a.tree) lent r lent'
  list-said =
      subst (λ (b : Board). QuerySaidOn list b (query_opens (dimension_in m) list a.tree) lent r lent') a.holding.board
      (p.sound (holding-sound a.holding))

  list-keeps : Keeps b (event_of (lists lent lent' r p))
  unfolding event_of Answered Reads held_after plain_next query_rows
  list-keeps =
      record {
        answered = list-said.answers;
        reads = λ h. said-rows _ _ _ _ _ _ list-said ∙ ap (λ (c : Bool). cond c (query_rows b list) []) h;
        held = refl;
      }

-- ---- each call of a run

step_keeps : {m m' : List ℕ} (s : Step m m') (b : Board) → At m b → Keeps b (event_of s)
unfolding event_of ChangeAnswered Answered Reads held_after plain_next
step_keeps {m} {m'} (changes x lent lent' r k p) b a = change-keeps x m m' lent lent' r p b a k
step_keeps {m} (previews x lent lent' r p) b a =
    record { answered = ((said_here x m lent lent' r p b a).answers, rows-here x m lent lent' r p b a); reads = tt; held = refl }
step_keeps {m} (lists lent lent' r p) b a = list-keeps m lent lent' r p b a
step_keeps (load_refused c d rows v p f) b a = record { answered = tt; reads = tt; held = refl }
step_keeps (leaves answer) b a = record { answered = tt; reads = tt; held = refl }

step-at : {m m' : List ℕ} (s : Step m m') (b : Board) → At m b → At m' (plain_next b (event_of s).call (event_of s).lent)
unfolding event_of plain_next
step-at {m} {m'} (changes x lent lent' r k p) b a = change-at x m m' lent lent' r p b a k
step-at (previews x lent lent' r p) b a = a
step-at (lists lent lent' r p) b a = a
step-at {m} {m'} (load_refused c d rows v p f) b a =
    subst (λ (m : List ℕ). At m b) (sym (left-refused (load_writes c) m m' (loaded c d rows) (load_tree d (map move_of rows)) (number_of v) f p.left)) a
step-at (leaves answer) b a = a

load_at : (c d : ℕ) (rows : List InputRow) (v : Verdict) {m m' : List ℕ} → LoadPromise c d rows m v m' → number_of v ≡ 0 → Bytes m' → At m' (loaded c d rows)
load_at c d rows v {m} {m'} p e k = left-accepted (load_writes c) m m' (loaded c d rows) (load_tree d (map move_of rows)) (number_of v) e p.left k

-- ---- the run

steps-keep : {m m' : List ℕ} (ss : Steps m m') (b : Board) → At m b → EachKeeps b (events_of ss)
unfolding events_of
steps-keep done b a = tt
steps-keep (then s ss) b a = (step_keeps s b a, steps-keep ss (plain_next b (event_of s).call (event_of s).lent) (step-at s b a))

pub demand3 : (c d : ℕ) (rows : List InputRow) (v : Verdict) {m₀ m₁ m : List ℕ} → LoadPromise c d rows m₀ v m₁ → number_of v ≡ 0 → Bytes m₁
    → (ss : Steps m₁ m) → Demand3 (loaded c d rows) (events_of ss)
demand3 c d rows v p e k ss =
    keeps-demand3 (loaded c d rows) (events_of ss) (steps-keep ss (loaded c d rows) (load_at c d rows v p e k))

-- ---- every run of a history

run-keeps : {m m' : List ℕ} (h : History m m') (b : Board) → At m b → EachKeeps b (run_of h)
unfolding run_of
run-keeps end b a = tt
run-keeps (call s h) b a = (step_keeps s b a, run-keeps h (plain_next b (event_of s).call (event_of s).lent) (step-at s b a))
run-keeps (load c d rows v p e k h) b a = tt

pub each-run : {m m' : List ℕ} (h : History m m') → EachRun h
unfolding EachRun
each-run end = tt
each-run (call s h) = each-run h
each-run (load c d rows v p e k h) =
    (keeps-demand3 (loaded c d rows) (run_of h) (run-keeps h (loaded c d rows) (load_at c d rows v p e k)), each-run h)
