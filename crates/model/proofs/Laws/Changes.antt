-- A change that is not refused: its number, the moves on the board after it, and how many rows its notice has.
use Rattle.std.specs.Prelude.{ℕ, ◌+◌, ◌≤◌, ◌<◌, Bool, true, false, cond, not, ◌≡◌, leb, eqb, length}
use mathlib.Core.List.Memᴰ
use mathlib.Core.List.{List, [], ◌∷◌, map, Memᴰ}
use Rattle.std.proofs.Common.{⊎_elim, ap, ◌∙◌, arith, leb-false, le-ltb, eqb-true}
use Rattle.std.proofs.lemmas.Bool.{lt-leb, eqb-false, not-true}
use Rattle.zorder.specs.Refusal.{Check, refusal, cost_past_bad}
use Rattle.zorder.proofs.Laws.Refusal.{first_passes, rest-passes}
use Rattle.model.specs.Basics.{Each, any, has, distinct}
use Rattle.model.specs.Moves.{Move, move_before, insert}
use Rattle.model.specs.Lists.{hidden, skyline}
use Rattle.model.specs.Notice.{notice_of}
use Rattle.model.specs.Withdrawing.{without, unchanged}
use Rattle.model.specs.Calls.{Answer, accepted, refused_with, or_else, rows_answer, Board, Change, enter, withdraw, recost, block_bad, on_board, change_refusal, changed_moves, changed, keeps_moves, changes_nothing, list_of, change_notice, change_answer}
use Rattle.model.specs.Sound.{Fit, SoundBoard}
use Rattle.model.proofs.Laws.Bool.{by_cases, cond_cases, not-flip, and_left, or-false-left}
use Rattle.model.proofs.Laws.Basics.{each-mem, mem-each, each-mono, select-mem, mem-select, any_none}
use Rattle.model.proofs.Laws.Sorting.{insert-mem}
use Rattle.model.proofs.Laws.Order.{has-numbers, distinct-insert, distinct-select, mem-number}
use Rattle.model.proofs.Laws.Numbers.{distinct-length, two-lists}
use Rattle.model.proofs.Laws.Notice.{among, gone, gone_mem, notice-length}

unfoldable pub change_number : Change → ℕ
change_number (enter n block costs) = n
change_number (withdraw n) = n
change_number (recost n block costs) = n

pub change-number : (b : Board) (x : Change) → change_refusal b x ≡ 0 → change_number x < b.size
unfolding change_number change_refusal
change-number b (enter n block costs) h = leb-false b.size n (first_passes (leb b.size n) 3 _ h)
change-number b (withdraw n) h = leb-false b.size n (first_passes (leb b.size n) 3 _ h)
change-number b (recost n block costs) h = leb-false b.size n (first_passes (leb b.size n) 3 _ h)

-- ---- the moves after it

pub without-number : {m : Move} (n : ℕ) (ms : List Move) → Memᴰ m (without n ms) → Memᴰ m ms × (eqb m.number n ≡ false)
unfolding without
without-number {m} n ms k =
    let r = select-mem (λ m. not (eqb m.number n)) ms k in
    (r.0, not-true (eqb m.number n) r.1)

pub mem-without : {m : Move} (n : ℕ) {ms : List Move} → Memᴰ m ms → eqb m.number n ≡ false → Memᴰ m (without n ms)
unfolding without
mem-without {m} n k e = mem-select (λ m. not (eqb m.number n)) k (not-flip (eqb m.number n) e)

pub off-without : (n : ℕ) (ms : List Move) → on_board n (without n ms) ≡ false
unfolding on_board
off-without n ms =
    any_none (λ m. eqb m.number n) (without n ms)
    (mem-each (λ m. eqb m.number n ≡ false) (without n ms) (λ m k. (without-number n ms k).1))

pub distinct_without : (n : ℕ) (ms : List Move) → distinct (map (λ m. m.number) ms) ≡ true → distinct (map (λ m. m.number) (without n ms)) ≡ true
unfolding without
distinct_without n ms = distinct-select (λ m. m.number) (λ m. not (eqb m.number n)) ms

distinct-put : (d n : ℕ) (costs : List ℕ) (ms : List Move) → on_board n ms ≡ false → distinct (map (λ m. m.number) ms) ≡ true
    → distinct (map (λ m. m.number) (insert d (record { number = n; costs = costs }) ms)) ≡ true
unfolding insert
distinct-put d n costs ms o =
    distinct-insert (λ m. m.number) (move_before d) (record { number = n; costs = costs }) ms (has-numbers n ms ∙ o)

-- The number of a move that may enter is free.
pub enter-off : (b : Board) (n block : ℕ) (costs : List ℕ) → change_refusal b (enter n block costs) ≡ 0 → on_board n b.moves ≡ false
unfolding change_refusal
enter-off b n block costs h =
    first_passes (on_board n b.moves) 4 []
    (rest-passes (cost_past_bad b.dimension costs) 6 _ (rest-passes (block_bad block) 10 _ (rest-passes (leb b.size n) 3 _ h)))

pub changed-distinct : (b : Board) (x : Change) → distinct (map (λ m. m.number) b.moves) ≡ true → change_refusal b x ≡ 0
    → distinct (map (λ m. m.number) (changed b x).moves) ≡ true
unfolding changed changed_moves
changed-distinct b (enter n block costs) s h = distinct-put b.dimension n costs b.moves (enter-off b n block costs h) s
changed-distinct b (withdraw n) s h = distinct_without n b.moves s
changed-distinct b (recost n block costs) s h =
    distinct-put b.dimension n costs (without n b.moves) (off-without n b.moves) (distinct_without n b.moves s)

put-mem : {m : Move} (d n : ℕ) (costs : List ℕ) (ms : List Move) → Memᴰ m (insert d (record { number = n; costs = costs }) ms)
    → (¬ (m.number ≡ n)) → Memᴰ m ms
unfolding insert
put-mem d n costs ms k f =
    ⊎_elim (λ e. absurd (f (ap (λ (m : Move). m.number) e))) (λ j. j)
    (insert-mem (move_before d) (record { number = n; costs = costs }) ms k)

-- a move of another number was there before
pub changed-mem : {m : Move} (b : Board) (x : Change) → Memᴰ m (changed b x).moves → (¬ (m.number ≡ change_number x)) → Memᴰ m b.moves
unfolding changed changed_moves change_number
changed-mem b (enter n block costs) k f = put-mem b.dimension n costs b.moves k f
changed-mem b (withdraw n) k f = (without-number n b.moves k).0
changed-mem b (recost n block costs) k f =
    (without-number n b.moves (put-mem b.dimension n costs (without n b.moves) k f)).0

-- ---- how many rows its notice has

list-mem : {m : Move} (b : Board) → Memᴰ m (list_of b) → Memᴰ m b.moves
unfolding list_of skyline
list-mem b k = (select-mem (λ m. not (hidden b.dimension b.moves m)) b.moves k).0

distinct-list : (b : Board) → distinct (map (λ m. m.number) b.moves) ≡ true → distinct (map (λ m. m.number) (list_of b)) ≡ true
unfolding list_of skyline
distinct-list b = distinct-select (λ m. m.number) (λ m. not (hidden b.dimension b.moves m)) b.moves

distinct-gone : (ms ns : List Move) → distinct (map (λ m. m.number) ms) ≡ true → distinct (map (λ m. m.number) (gone ms ns)) ≡ true
unfolding gone
distinct-gone ms ns = distinct-select (λ m. m.number) (λ m. not (among m ns)) ms

gone-below : (c : ℕ) (b b' : Board) → Each (λ m. m.number < c) b.moves → Each (λ m. m.number < c) (gone (list_of b) (list_of b'))
gone-below c b b' es =
    mem-each (λ m. m.number < c) (gone (list_of b) (list_of b'))
    (λ m k. each-mem (λ m. m.number < c) es (list-mem b (gone_mem (list_of b) (list_of b') k).0))

-- Two boards with numbers below c, each at most once.
abbrev number : Move → ℕ
number m = m.number

module _ (c : ℕ) (old new : Board) (d : distinct (map number old.moves) ≡ true) (e : distinct (map number new.moves) ≡ true)
    (es : Each (λ m. m.number < c) old.moves) (fs : Each (λ m. m.number < c) new.moves) where
  abbrev outs : List Move
  outs = gone (list_of old) (list_of new)

  abbrev ins : List Move
  ins = gone (list_of new) (list_of old)

  outs-distinct : distinct (map number outs) ≡ true
  outs-distinct = distinct-gone (list_of old) (list_of new) (distinct-list old d)

  ins-distinct : distinct (map number ins) ≡ true
  ins-distinct = distinct-gone (list_of new) (list_of old) (distinct-list new e)

  outs-below : Each (λ m. m.number < c) outs
  outs-below = gone-below c old new es

  ins-below : Each (λ m. m.number < c) ins
  ins-below = gone-below c new old fs

  -- No number leaves twice or enters twice.
  pub notice-double : length (notice_of (list_of old) (list_of new)) ≤ c + c
  notice-double =
      omega (
        arith,
        notice-length (list_of old) (list_of new),
        distinct-length number c outs outs-distinct outs-below,
        distinct-length number c ins ins-distinct ins-below,
      )

  -- If they differ in the moves of some numbers only, a number that leaves and enters is one of these.
  module _ (ns : List ℕ) (stays : (m : Move) → Memᴰ m new.moves → has m.number ns ≡ false → Memᴰ m old.moves) where
    told-twice : (x y : Move) → Memᴰ x outs → Memᴰ y ins → x.number ≡ y.number → has y.number ns ≡ true
    told-twice x y j k same =
        let g = gone_mem (list_of old) (list_of new) j in
        let i = gone_mem (list_of new) (list_of old) k in
        by_cases (has y.number ns) (λ t. t)
        (λ t. absurd (g.1 (Memᴰ.cast (mem-number number old.moves d (list-mem old g.0) (stays y (list-mem new i.0) t) same) i.0)))

    pub notice-few : length (notice_of (list_of old) (list_of new)) ≤ c + length ns
    notice-few =
        omega (
          arith,
          notice-length (list_of old) (list_of new),
          two-lists number c ns outs ins outs-distinct ins-distinct outs-below ins-below told-twice,
        )

pub numbers-below : (b : Board) → SoundBoard b → Each (λ m. m.number < b.size) b.moves
numbers-below b s = each-mono (Fit b.size b.dimension) (λ m. m.number < b.size) b.moves (λ m f. f.number) s.fit

pub changed-below : (b : Board) (x : Change) → change_refusal b x ≡ 0 → Each (λ m. m.number < b.size) b.moves → Each (λ m. m.number < b.size) (changed b x).moves
changed-below b x h es =
    mem-each (λ m. m.number < b.size) (changed b x).moves
    (λ m k. by_cases (eqb m.number (change_number x))
    (λ e. omega (arith, eqb-true m.number (change_number x) e, change-number b x h))
    (λ e. each-mem (λ m. m.number < b.size) es (changed-mem b x k (eqb-false m.number (change_number x) e))))

not-one : (k n : ℕ) → has k (n ∷ []) ≡ false → ¬ (k ≡ n)
unfolding has any
not-one k n h = eqb-false k n (or-false-left (eqb k n) false h)

-- "For these three C + 1 rows always suffice."
pub notice-short : (b : Board) (x : Change) → SoundBoard b → change_refusal b x ≡ 0 → length (change_notice b x) ≤ b.size + 1
unfolding change_notice
notice-short b x s h =
    notice-few b.size b (changed b x) s.once (changed-distinct b x s.once h) (numbers-below b s) (changed-below b x h (numbers-below b s))
    (change_number x ∷ []) (λ m k f. changed-mem b x k (not-one m.number (change_number x) f))

-- ---- answers

refusal-other : (n : ℕ) (cs : List Check) → ¬ (0 ≡ n) → Each (λ c. ¬ (c.1 ≡ n)) cs → ¬ (refusal cs ≡ n)
unfolding refusal
refusal-other n [] z es = z
refusal-other n (c ∷ cs) z es = cond_cases (λ (k : ℕ). ¬ (k ≡ n)) c.0 (λ _. es.0) (λ _. refusal-other n cs z es.1)

change-refusal-other : (b : Board) (x : Change) → ¬ (change_refusal b x ≡ 8)
unfolding change_refusal
change-refusal-other b (enter n block costs) =
    refusal-other 8 _ (λ e. omega arith) (λ e. omega arith, (λ e. omega arith, (λ e. omega arith, (λ e. omega arith, tt))))
change-refusal-other b (withdraw n) = refusal-other 8 _ (λ e. omega arith) (λ e. omega arith, (λ e. omega arith, tt))
change-refusal-other b (recost n block costs) =
    refusal-other 8 _ (λ e. omega arith) (λ e. omega arith, (λ e. omega arith, (λ e. omega arith, (λ e. omega arith, tt))))

-- enough rows lent: the answer is what the checks say
enough-rows : (b : Board) (x : Change) (lent : ℕ) → length (change_notice b x) ≤ lent → rows_answer (length (change_notice b x)) lent ≡ accepted
unfolding rows_answer
enough-rows b x lent l =
    ap (λ (t : Bool). cond t (record { number = 8; detail = length (change_notice b x) }) accepted) (le-ltb lent (length (change_notice b x)) l)

pub changes-accepted : (b : Board) (x : Change) (lent : ℕ) → change_refusal b x ≡ 0 → length (change_notice b x) ≤ lent → change_answer b x lent ≡ accepted
unfolding change_answer or_else refused_with
changes-accepted b x lent h l =
    ap (λ (k : ℕ). cond (eqb k 0) (rows_answer (length (change_notice b x)) lent) (record { number = k; detail = 0 })) h
    ∙ enough-rows b x lent l

-- what changes nothing changes no move
pub nothing-keeps : (b : Board) (x : Change) → changes_nothing b x ≡ true → keeps_moves b x ≡ true
unfolding changes_nothing keeps_moves
nothing-keeps b (enter n block costs) e = e
nothing-keeps b (withdraw n) e = e
nothing-keeps b (recost n block costs) e = and_left (unchanged n costs b.moves) (eqb block (b.blocks n)) e

-- an accepted change passed every check
pub accepted-passes : (b : Board) (x : Change) (lent : ℕ) → (change_answer b x lent).number ≡ 0 → change_refusal b x ≡ 0
unfolding change_answer or_else refused_with
accepted-passes b x lent =
    cond_cases (λ (a : Answer). a.number ≡ 0 → change_refusal b x ≡ 0) (eqb (change_refusal b x) 0) (λ h _. eqb-true (change_refusal b x) 0 h) (λ _ e. e)

-- "8 is given exactly if more rows are needed than lent", and C + 1 suffice.
pub never-eight : (b : Board) (x : Change) (lent : ℕ) → SoundBoard b → b.size + 1 ≤ lent → ¬ ((change_answer b x lent).number ≡ 8)
unfolding change_answer or_else refused_with accepted
never-eight b x lent s l =
    cond_cases (λ (a : Answer). ¬ (a.number ≡ 8)) (eqb (change_refusal b x) 0)
    (λ h e. let z = ap (λ (a : Answer). a.number) (enough-rows b x lent (omega (arith, notice-short b x s (eqb-true (change_refusal b x) 0 h)))) in omega arith)
    (λ _. change-refusal-other b x)

-- "A board with a free number always takes one more move, given costs past d of zero" and a block of 0 to 63 (Card 8): no check
-- turns it down.
pub enter-passes : (b : Board) (n block : ℕ) (costs : List ℕ) → n < b.size → block_bad block ≡ false → cost_past_bad b.dimension costs ≡ false → on_board n b.moves ≡ false
    → change_refusal b (enter n block costs) ≡ 0
unfolding change_refusal refusal
enter-passes b n block costs l k p o = rw (lt-leb b.size n l, k, p, o)
