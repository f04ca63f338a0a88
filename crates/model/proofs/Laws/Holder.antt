-- The holder of a list: he who follows the notice of a change holds the list after it, and so through a run.
use Rattle.std.specs.Prelude.{ℕ, ◌≤◌, Bool, true, false, cond, ◌⊎◌, ◌≡◌, refl, eqb}
use Rattle.std.proofs.Math.Bool.{not}
use mathlib.Core.List.Memᴰ
use mathlib.Core.List.{List, [], ◌∷◌, ◌++◌, map, append-nil, Memᴰ}
use Rattle.std.proofs.Math.Logic.{inl, inr, ⊎_elim}
use Rattle.std.proofs.Common.{sym, ◌∙◌, subst, eq-eqb}
use Rattle.std.proofs.Math.Path.{ap, ap₂}
use Rattle.zorder.specs.Between.{row_costs}
use Rattle.model.specs.Basics.{Each, select, any, insert_by, rising}
use Rattle.model.specs.Moves.{Move, Row, row_of, same_row, move_before, row_before, ordered, listed, left, entered}
use Rattle.model.specs.Lists.{hidden, skyline, listed_rows}
use Rattle.model.specs.Notice.{missing, notice_of}
use Rattle.model.specs.Calls.{Board, Change, changed, list_of}
use Rattle.model.specs.Sound.{Fit, SoundBoard}
use Rattle.model.specs.Holder.{Call, change, preview, list_call, other, Event, is_accepted, plain_next, Answered, marked, put_in, take_out, followed, held_after, HoldsList, Starts, Demand3}
use Rattle.model.proofs.Laws.Bool.{cond_map}
use Rattle.model.proofs.Laws.Basics.{Once, mem-each, each-select, each_map, select-append, select-all, select-none}
use Rattle.model.proofs.Laws.Sorting.{insert-mem, mem-insert-new, mem-insert-old, each-insert, rising-insert, rising-select, rising-once, rising-ext}
use Rattle.model.proofs.Laws.Order.{move-order, dimension-most}
use Rattle.model.proofs.Laws.Notice.{gone, among, mem-or-not, gone_mem, mem-gone, missing-rows, notice-rows}

-- ---- the rows of a mark

marked_all : (k : ℕ) (ms : List Move) → marked k (map (row_of k) ms) ≡ map (row_of k) ms
unfolding marked row_of
marked_all k ms =
    select-all (λ r. eqb r.mark k) (map (row_of k) ms)
    (each_map (λ r. eqb r.mark k ≡ true) (row_of k) ms (mem-each (λ m. eqb k k ≡ true) ms (λ m _. eq-eqb k k refl)))

marked-none : (j k : ℕ) (ms : List Move) → eqb j k ≡ false → marked k (map (row_of j) ms) ≡ []
unfolding marked row_of
marked-none j k ms h =
    select-none (λ r. eqb r.mark k) (map (row_of j) ms)
    (each_map (λ r. eqb r.mark k ≡ false) (row_of j) ms (mem-each (λ m. eqb j k ≡ false) ms (λ m _. h)))

marked_append : (k : ℕ) (rs ss : List Row) → marked k (rs ++ ss) ≡ marked k rs ++ marked k ss
unfolding marked
marked_append k rs ss = select-append (λ r. eqb r.mark k) rs ss

module _ (ms ns : List Move) where
  marked-left : marked left (map (row_of left) ms ++ map (row_of entered) ns) ≡ map (row_of left) ms
  marked-left =
      marked_append left (map (row_of left) ms) (map (row_of entered) ns)
      ∙ ap₂ ◌++◌ (marked_all left ms) (marked-none entered left ns refl)
      ∙ append-nil (map (row_of left) ms)

  marked-entered : marked entered (map (row_of left) ms ++ map (row_of entered) ns) ≡ map (row_of entered) ns
  marked-entered =
      marked_append entered (map (row_of left) ms) (map (row_of entered) ns)
      ∙ ap₂ ◌++◌ (marked-none left entered ms refl) (marked_all entered ns)

-- ---- rows taken out and put in, by their moves

taken-rows : (held ms : List Move) → take_out (map (row_of left) ms) (listed_rows held) ≡ listed_rows (gone held ms)
unfolding take_out listed_rows missing
taken-rows held ms = missing-rows listed left held ms

put_all : ℕ → List Move → List Move → List Move
put_all d [] held = held
put_all d (m ∷ ms) held = put_all d ms (insert_by (move_before d) m held)

insert-row : (d : ℕ) (m : Move) (held : List Move) → insert_by (row_before d) (row_of listed m) (listed_rows held) ≡ listed_rows (insert_by (move_before d) m held)
unfolding insert_by listed_rows row_before move_before row_of
insert-row d m [] = refl
insert-row d m (n ∷ ns) =
    ap (λ (rs : List Row). cond (move_before d m n) (listed_rows (m ∷ n ∷ ns)) (row_of listed n ∷ rs)) (insert-row d m ns)
    ∙ sym (cond_map listed_rows (move_before d m n) (m ∷ n ∷ ns) (n ∷ insert_by (move_before d) m ns))

put-rows : (d : ℕ) (ms held : List Move) → put_in d (map (row_of entered) ms) (listed_rows held) ≡ listed_rows (put_all d ms held)
unfolding put_in put_all row_of
put-rows d [] held = refl
put-rows d (m ∷ ms) held =
    ap (put_in d (map (row_of entered) ms)) (insert-row d m held) ∙ put-rows d ms (insert_by (move_before d) m held)

-- ---- moves put in

module _ (d : ℕ) where
  put-mem : {n : Move} (ms held : List Move) → Memᴰ n (put_all d ms held) → Memᴰ n ms ⊎ Memᴰ n held
  unfolding put_all
  put-mem [] held k = inr k
  put-mem (m ∷ ms) held k =
      ⊎_elim (λ j. inl (Memᴰ.tail j)) (λ j. ⊎_elim (λ e. inl (Memᴰ.head e)) inr (insert-mem (move_before d) m held j))
      (put-mem ms (insert_by (move_before d) m held) k)

  mem-put-old : {n : Move} (ms : List Move) {held : List Move} → Memᴰ n held → Memᴰ n (put_all d ms held)
  unfolding put_all
  mem-put-old [] k = k
  mem-put-old (m ∷ ms) k = mem-put-old ms (mem-insert-old (move_before d) m k)

  mem-put-new : {n : Move} {ms : List Move} (held : List Move) → Memᴰ n ms → Memᴰ n (put_all d ms held)
  unfolding put_all
  mem-put-new {ms = []} held m = elim m [ ]
  mem-put-new {ms = m ∷ ms} held (Memᴰ.head e) = mem-put-old ms (Memᴰ.cast e (mem-insert-new (move_before d) m held))
  mem-put-new {ms = m ∷ ms} held (Memᴰ.tail k) = mem-put-new (insert_by (move_before d) m held) k

module _ (c d : ℕ) (l : d ≤ row_costs) where
  abbrev Rising : List Move → Type 0
  Rising ms = rising (move_before d) ms ≡ true

  each-put : (ms held : List Move) → Each (Fit c d) ms → Each (Fit c d) held → Each (Fit c d) (put_all d ms held)
  unfolding put_all
  each-put [] held es fs = fs
  each-put (m ∷ ms) held es fs = each-put ms (insert_by (move_before d) m held) es.1 (each-insert (move_before d) (Fit c d) m held es.0 fs)

  rising-put : (ms held : List Move) → Each (Fit c d) ms → Each (Fit c d) held → Once ms → ((n : Move) → Memᴰ n ms → ¬ Memᴰ n held)
      → Rising held → Rising (put_all d ms held)
  unfolding put_all
  rising-put [] held es fs o f r = r
  rising-put (m ∷ ms) held es fs o f r =
      rising-put ms (insert_by (move_before d) m held) es.1 (each-insert (move_before d) (Fit c d) m held es.0 fs) o.1
      (λ n k j. ⊎_elim (λ e. o.0 (Memᴰ.cast (sym e) k)) (f n (Memᴰ.tail k)) (insert-mem (move_before d) m held j))
      (rising-insert (Fit c d) (move_before d) (move-order d c l) m held es.0 fs r (f m (Memᴰ.head refl)))

  -- ---- the law of the notice

  module _ (old new : List Move) (es : Each (Fit c d) old) (fs : Each (Fit c d) new) (r : Rising old) (s : Rising new) where
    stay : List Move
    stay = gone old (gone old new)

    each-gone : (ms ns : List Move) → Each (Fit c d) ms → Each (Fit c d) (gone ms ns)
    unfolding gone
    each-gone ms ns = each-select (λ m. not (among m ns)) (Fit c d) ms

    rising-gone : (ms ns : List Move) → Each (Fit c d) ms → Rising ms → Rising (gone ms ns)
    unfolding gone
    rising-gone ms ns = rising-select (Fit c d) (move_before d) (move-order d c l) (λ m. not (among m ns)) ms

    stay-mem : {m : Move} → Memᴰ m stay → Memᴰ m new
    unfolding stay
    stay-mem {m} k =
        let g = gone_mem old (gone old new) k in
        ⊎_elim (λ j. j) (λ j. absurd (g.1 (mem-gone new g.0 j))) (mem-or-not m new)

    mem-stay : {m : Move} → Memᴰ m old → Memᴰ m new → Memᴰ m stay
    unfolding stay
    mem-stay k j = mem-gone (gone old new) k (λ i. (gone_mem old new i).1 j)

    moves-followed : put_all d (gone new old) (gone old (gone old new)) ≡ new
    unfolding stay
    moves-followed =
        let gs = each-gone new old fs in
        let hs = each-gone old (gone old new) es in
        rising-ext (Fit c d) (move_before d) (move-order d c l) (put_all d (gone new old) stay) new (each-put (gone new old) stay gs hs) fs
        (rising-put (gone new old) stay gs hs
        (rising-once (Fit c d) (move_before d) (move-order d c l) (gone new old) gs (rising-gone new old fs s))
        (λ m k j. (gone_mem new old k).1 (gone_mem old (gone old new) j).0)
        (rising-gone old (gone old new) es r))
        s
        (λ m k. ⊎_elim (λ j. (gone_mem new old j).0) stay-mem (put-mem d (gone new old) stay k))
        (λ m k. ⊎_elim (λ j. mem-put-old d (gone new old) (mem-stay j k)) (λ j. mem-put-new d stay (mem-gone old k j)) (mem-or-not m old))

    pub notice-followed : followed d (notice_of old new) (listed_rows old) ≡ listed_rows new
    unfolding followed
    notice-followed =
        ap₂ (λ (ins outs : List Row). put_in d ins (take_out outs (listed_rows old)))
        (ap (marked entered) (notice-rows old new) ∙ marked-entered (gone old new) (gone new old))
        (ap (marked left) (notice-rows old new) ∙ marked-left (gone old new) (gone new old))
        ∙ ap (put_in d (map (row_of entered) (gone new old))) (taken-rows old (gone old new))
        ∙ put-rows d (gone new old) (gone old (gone old new))
        ∙ ap listed_rows moves-followed

-- ---- from one board to another

each-list : (b : Board) → SoundBoard b → Each (Fit b.size b.dimension) (list_of b)
unfolding list_of skyline
each-list b s = each-select (λ m. not (hidden b.dimension b.moves m)) (Fit b.size b.dimension) b.moves s.fit

rising-list : (b : Board) → SoundBoard b → rising (move_before b.dimension) (list_of b) ≡ true
unfolding list_of skyline ordered
rising-list b s =
    rising-select (Fit b.size b.dimension) (move_before b.dimension) (move-order b.dimension b.size (dimension-most b.dimension s.dimension))
    (λ m. not (hidden b.dimension b.moves m)) b.moves s.fit s.order

nothing-followed : (d : ℕ) (held : List Row) → followed d [] held ≡ held
unfolding followed marked take_out put_in select any
nothing-followed d held =
    select-all (λ h. not (any (same_row h) [])) held (mem-each (λ h. not (any (same_row h) []) ≡ true) held (λ h _. refl))

-- Of the same size and number of costs, as a change leaves them.
pub record SameShape (b next : Board) : Type 0 where
  pub size : next.size ≡ b.size
  pub dimension : next.dimension ≡ b.dimension

pub change-shape : (b : Board) (x : Change) → SameShape b (changed b x)
unfolding changed
change-shape b x = record { size = refl; dimension = refl }

module _ (b next : Board) (same : SameShape b next) (s : SoundBoard b) where
  each_next : SoundBoard next → Each (Fit b.size b.dimension) (list_of next)
  each_next r =
      subst (λ (c : ℕ). Each (Fit c b.dimension) (list_of next)) same.size
      (subst (λ (d : ℕ). Each (Fit next.size d) (list_of next)) same.dimension (each-list next r))

  rising-next : SoundBoard next → rising (move_before b.dimension) (list_of next) ≡ true
  rising-next r = subst (λ (d : ℕ). rising (move_before d) (list_of next) ≡ true) same.dimension (rising-list next r)

  lists-followed : SoundBoard next → followed b.dimension (notice_of (list_of b) (list_of next)) (listed_rows (list_of b)) ≡ listed_rows (list_of next)
  lists-followed r =
      notice-followed b.size b.dimension (dimension-most b.dimension s.dimension) (list_of b) (list_of next) (each-list b s) (each_next r)
      (rising-list b s) (rising-next r)

  -- accepted or refused
  pub lists-held : (c : Bool) → SoundBoard (cond c next b)
      → followed b.dimension (cond c (notice_of (list_of b) (list_of next)) []) (listed_rows (list_of b)) ≡ listed_rows (list_of (cond c next b))
  lists-held true r = lists-followed r
  lists-held false r = nothing-followed b.dimension (listed_rows (list_of b))

-- ---- a run

-- An accepted list call tells the list.
unfoldable pub Reads : Board → Event → Call → Type 0
Reads b e (change x) = Unit {0}
Reads b e (preview x) = Unit {0}
Reads b e list_call = is_accepted e.answer ≡ true → e.rows ≡ listed_rows (list_of b)
Reads b e other = Unit {0}

-- A call by which he who held the list before it holds the list after it.
pub record Keeps (b : Board) (e : Event) : Type 0 where
  pub answered : Answered b e e.call
  pub reads : Reads b e e.call
  pub held : held_after b.dimension (listed_rows (list_of b)) e e.call ≡ listed_rows (list_of (plain_next b e.call e.lent))

abbrev pub EachKeeps : Board → List Event → Type 0
EachKeeps b [] = Unit {0}
EachKeeps b (e ∷ es) = Keeps b e × EachKeeps (plain_next b e.call e.lent) es

keeps-holds : (b : Board) (es : List Event) → EachKeeps b es → HoldsList b (listed_rows (list_of b)) es
unfolding HoldsList
keeps-holds b [] k = refl
keeps-holds b (e ∷ es) k =
    let next = plain_next b e.call e.lent in
    (refl, subst (λ (held : List Row). HoldsList next held es) (sym k.0.held) (keeps-holds next es k.1))

keeps-starts : (b : Board) (e : Event) (c : Call) (es : List Event) → Reads b e c → EachKeeps (plain_next b c e.lent) es → Starts b e c es
unfolding Starts Reads plain_next
keeps-starts b e (change x) es r k = tt
keeps-starts b e (preview x) es r k = tt
keeps-starts b e list_call es r k = λ a. subst (λ (held : List Row). HoldsList b held es) (sym (r a)) (keeps-holds b es k)
keeps-starts b e other es r k = tt

pub keeps-demand3 : (b : Board) (es : List Event) → EachKeeps b es → Demand3 b es
unfolding Demand3
keeps-demand3 b [] k = tt
keeps-demand3 b (e ∷ es) k =
    (k.0.answered, keeps-starts b e e.call es k.0.reads k.1, keeps-demand3 (plain_next b e.call e.lent) es k.1)
