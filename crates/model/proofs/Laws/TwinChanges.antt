-- What a notice tells where twins stand (Card 4): a listed move that is withdrawn brings up its next twin and no other move,
-- and one that a twin of a lower number joins leaves.
use Rattle.std.specs.Prelude.{ℕ, ◌≤◌, ◌<◌, true, false, ◌&&◌, ◌⊎◌, ◌≡◌, refl, ltb, eqb}
use Rattle.std.proofs.lemmas.Bool.{false≢true}
use mathlib.Core.List.Memᴰ
use mathlib.Core.List.{List, [], ◌∷◌, map, Memᴰ}
use Rattle.std.proofs.Common.{inl, inr, sym, ap, ◌∙◌, arith, ltb-true, ltb-false, eqb-true, ne_eqb}
use Rattle.std.proofs.Math.Logic.{⊎_elim}
use Rattle.model.specs.Basics.{any, distinct}
use Rattle.model.specs.Moves.{Move, row_of, move_before, insert, left, entered}
use Rattle.model.specs.Dominance.{equal_costs, lower_twin, hides}
use Rattle.model.specs.Lists.{hidden, skyline}
use Rattle.model.specs.Withdrawing.{without}
use Rattle.model.specs.Calls.{Board, Change, enter, withdraw, change_refusal, changed, changed_moves, list_of, change_notice}
use Rattle.model.specs.Sound.{SoundBoard}
use Rattle.model.proofs.Laws.Bool.{by_cases, and_left, and_right, and-drop-left, or_cases, both_ways}
use Rattle.model.proofs.Laws.Basics.{Once, any-mem, any-witness}
use Rattle.model.proofs.Laws.Sorting.{insert-mem, mem-insert-new, mem-insert-old}
use Rattle.model.proofs.Laws.Order.{distinct-once, mem-number, off-board}
use Rattle.model.proofs.Laws.Hiding.{equal-sym, equal-trans, equal-dominates, dominates-hides, lower-twin, twin-costs, twin-number, hides-cases, hides-irrefl}
use Rattle.model.proofs.Laws.Skyline.{skyline-mem, mem-skyline, skyline-once}
use Rattle.model.proofs.Laws.Twins.{listed-unhidden, higher-twin-unlisted, listed-once, twin-hider}
use Rattle.model.proofs.Laws.Notice.{OnlyIn, two-rows, notice-left}
use Rattle.model.proofs.Laws.Withdrawing.{without_gone}
use Rattle.model.proofs.Laws.Changes.{without-number, mem-without, distinct_without, enter-off, changed-distinct}

-- ---- the next twin

-- Of the twins of x with a greater number, w has the least.
pub record NextTwin (d : ℕ) (ms : List Move) (x w : Move) : Type 0 where
  pub there : Memᴰ w ms
  pub twin : lower_twin d x w ≡ true
  pub next : (v : Move) → Memᴰ v ms → lower_twin d x v ≡ true → w.number ≤ v.number

next-first : (d : ℕ) (ms : List Move) (x m : Move) → any (lower_twin d x) ms ≡ false → lower_twin d x m ≡ true → NextTwin d (m ∷ ms) x m
next-first d ms x m none t =
    record {
      there = Memᴰ.head refl;
      twin = t;
      next = λ v k g.
          ⊎_elim
          (λ e. omega (arith, ap (λ (n : Move). n.number) e))
          (λ j. both_ways (any-mem (lower_twin d x) j g) none)
          (Memᴰ.cases_cons k);
    }

-- one move more: it is the next twin, or the other stays
next_more : (d : ℕ) (ms : List Move) (x m w : Move) → NextTwin d ms x w → (u : Move) × NextTwin d (m ∷ ms) x u
next_more d ms x m w h =
    by_cases (lower_twin d x m && ltb m.number w.number)
    (λ e.
    let lower = ltb-true m.number w.number (and_right (lower_twin d x m) (ltb m.number w.number) e) in (
      m,
      record {
        there = Memᴰ.head refl;
        twin = and_left (lower_twin d x m) (ltb m.number w.number) e;
        next = λ v k g.
            ⊎_elim
            (λ s. omega (arith, ap (λ (n : Move). n.number) s))
            (λ j. omega (arith, h.next v j g, lower))
            (Memᴰ.cases_cons k);
      },
    ))
    (λ e. (
      w,
      record {
        there = Memᴰ.tail h.there;
        twin = h.twin;
        next = λ v k g.
            ⊎_elim
            (λ s.
            let not_lower = and-drop-left (lower_twin d x m) (ltb m.number w.number) (ap (lower_twin d x) (sym s) ∙ g) e in
            omega (arith, ap (λ (n : Move). n.number) s, ltb-false m.number w.number not_lower))
            (λ j. h.next v j g)
            (Memᴰ.cases_cons k);
      },
    ))

-- Where there is a twin of a greater number there is a next one.
pub next-found : (d : ℕ) (ms : List Move) (x : Move) → any (lower_twin d x) ms ≡ true → (w : Move) × NextTwin d ms x w
unfolding any
next-found d [] x e = absurd (false≢true e)
next-found d (m ∷ ms) x e =
    by_cases (any (lower_twin d x) ms)
    (λ h. let f = next-found d ms x h in next_more d ms x m f.0 f.1)
    (λ h. (m, next-first d ms x m h (or_cases (lower_twin d x m) (any (lower_twin d x) ms) e (λ t. t) (λ t. both_ways t h))))

-- ---- a list of moves and the same with y

record OneMore (ms more : List Move) (y : Move) : Type 0 where
  new : Memᴰ y more
  off : ¬ Memᴰ y ms
  old : (m : Move) → Memᴰ m ms → Memᴰ m more
  either : (m : Move) → Memᴰ m more → (m ≡ y) ⊎ Memᴰ m ms

module _ (d : ℕ) (ms more : List Move) (y : Move) (o : OneMore ms more y) where
  unhidden-more : (m : Move) → hidden d ms m ≡ false → hides d y m ≡ false → hidden d more m ≡ false
  unfolding hidden
  unhidden-more m e f =
      by_cases (hidden d more m)
      (λ g.
      let v = any-witness (λ p. hides d p m) more g in
      ⊎_elim
      (λ s. both_ways (ap (λ (p : Move). hides d p m) (sym s) ∙ v.2) f)
      (λ k. both_ways (any-mem (λ p. hides d p m) k v.2) e)
      (o.either v.0 v.1))
      (λ g. g)

  unhidden-less : (m : Move) → hidden d more m ≡ false → hidden d ms m ≡ false
  unfolding hidden
  unhidden-less m e =
      by_cases (hidden d ms m)
      (λ g. let v = any-witness (λ p. hides d p m) ms g in both_ways (any-mem (λ p. hides d p m) (o.old v.0 v.1) v.2) e)
      (λ g. g)

  -- y is a twin of w, listed without y, and has a lower number: with it, y is listed in the place of w.
  module _ (same_number : (m n : Move) → Memᴰ m ms → Memᴰ n ms → m.number ≡ n.number → m ≡ n)
      (w : Move) (listed : Memᴰ w (skyline d ms)) (twin : lower_twin d y w ≡ true) where
    twins : equal_costs d y.costs w.costs ≡ true
    twins = twin-costs d y w twin

    on-board : Memᴰ w ms
    on-board = (skyline-mem d ms listed).0

    -- nothing else hides y
    y-unhidden : hidden d ms y ≡ false
    unfolding hidden
    y-unhidden =
        by_cases (hidden d ms y)
        (λ e.
        let v = any-witness (λ p. hides d p y) ms e in
        let t = twin-hider d ms listed v.0 y v.1 (equal-sym d y.costs w.costs twins) v.2 in
        absurd (omega (arith, t.1, t.2, twin-number d y w twin)))
        (λ e. e)

    -- of the listed moves y hides w alone
    hidden-only : (m : Move) → Memᴰ m (skyline d ms) → hides d y m ≡ true → m ≡ w
    hidden-only m k e =
        ⊎_elim
        (λ g. absurd (listed-unhidden d ms w k on-board
        (dominates-hides d w m (sym (equal-dominates d m.costs y.costs w.costs twins) ∙ g))))
        (λ t.
        let same = equal-trans d m.costs y.costs w.costs (equal-sym d y.costs m.costs (twin-costs d y m t)) twins in
        same_number m w (skyline-mem d ms k).0 on-board (listed-once d ms k listed same))
        (hides-cases d y m e)

    w-leaves : OnlyIn (skyline d ms) (skyline d more) w
    w-leaves =
        record {
          there = listed;
          absent = higher-twin-unlisted d more y w o.new twin;
          only = λ m k f.
              let u = skyline-mem d ms k in
              by_cases (hides d y m) (hidden-only m k)
              (λ e. absurd (f (mem-skyline d (o.old m u.0) (unhidden-more m u.1 e))));
        }

    y-enters : OnlyIn (skyline d more) (skyline d ms) y
    y-enters =
        record {
          there = mem-skyline d o.new (unhidden-more y y-unhidden (hides-irrefl d y));
          absent = λ k. o.off (skyline-mem d ms k).0;
          only = λ m k f.
              let u = skyline-mem d more k in
              ⊎_elim (λ e. e) (λ i. absurd (f (mem-skyline d i (unhidden-less m u.1)))) (o.either m u.0);
        }

-- ---- changes of a board

list-once : (d : ℕ) (ms : List Move) → distinct (map (λ m. m.number) ms) ≡ true → Once (skyline d ms)
list-once d ms h = skyline-once d ms (distinct-once (λ m. m.number) ms h)

-- A change by which a twin of a lower number is on the board: the listed move leaves.
pub twin-leaves : (b : Board) (c : Change) (p x : Move) → Memᴰ x (list_of b) → Memᴰ p (changed b c).moves
    → lower_twin b.dimension p x ≡ true → Memᴰ (row_of left x) (change_notice b c)
unfolding change_notice list_of changed
twin-leaves b c p x k i t =
    (notice-left (list_of b) (list_of (changed b c)) x).1 (k, higher-twin-unlisted b.dimension (changed b c).moves p x i t)

module _ (b : Board) (s : SoundBoard b) (x : Move) (listed : Memᴰ x (list_of b)) where
  abbrev d : ℕ
  d = b.dimension

  abbrev ms : List Move
  ms = b.moves

  same_number : (m n : Move) → Memᴰ m ms → Memᴰ n ms → m.number ≡ n.number → m ≡ n
  same_number m n = mem-number (λ m. m.number) ms s.once

  -- A twin of a lower number that enters takes the place of the listed one, and no other row changes.
  module _ (n block : ℕ) (costs : List ℕ) (passes : change_refusal b (enter n block costs) ≡ 0)
      (twin : lower_twin d (record { number = n; costs = costs }) x ≡ true) where
    abbrev y : Move
    y = record { number = n; costs = costs }

    with-y : OneMore ms (insert d y ms) y
    unfolding insert
    with-y =
        record {
          new = mem-insert-new (move_before d) y ms;
          off = off-board y ms (enter-off b n block costs passes);
          old = λ m. mem-insert-old (move_before d) y;
          either = λ m. insert-mem (move_before d) y ms;
        }

    pub lower-twin-enters : change_notice b (enter n block costs) ≡ row_of left x ∷ row_of entered y ∷ []
    unfolding change_notice changed changed_moves list_of
    lower-twin-enters =
        two-rows (skyline d ms) (skyline d (insert d y ms)) x y
        (list-once d ms s.once) (list-once d (insert d y ms) (changed-distinct b (enter n block costs) s.once passes))
        (w-leaves d ms (insert d y ms) y with-y same_number x listed twin)
        (y-enters d ms (insert d y ms) y with-y same_number x listed twin)

  -- A listed move that is withdrawn brings up its next twin, and no other move.
  module _ (w : Move) (h : NextTwin d ms x w) where
    abbrev rest : List Move
    rest = without x.number ms

    on-it : Memᴰ x ms
    unfolding list_of
    on-it = (skyline-mem d ms listed).0

    rest-mem : (m : Move) → Memᴰ m rest → Memᴰ m ms
    rest-mem m k = (without-number x.number ms k).0

    with-x : OneMore rest ms x
    with-x =
        record {
          new = on-it;
          off = without_gone x ms;
          old = rest-mem;
          either = λ m k.
              by_cases (eqb m.number x.number)
              (λ e. inl (same_number m x k on-it (eqb-true m.number x.number e)))
              (λ e. inr (mem-without x.number k e));
        }

    -- another twin of x has no lower number than w
    not-below : (v : Move) → Memᴰ v rest → equal_costs d v.costs x.costs ≡ true → x.number ≤ v.number → v.number < w.number → ⊥
    not-below v k e l u =
        by_cases (ltb x.number v.number)
        (λ g.
        let twin = lower-twin d x v (equal-sym d v.costs x.costs e) (ltb-true x.number v.number g) in
        omega (arith, h.next v (rest-mem v k) twin, u))
        (λ g.
        let same : v.number ≡ x.number = omega (arith, ltb-false x.number v.number g, l) in
        without_gone x ms (Memᴰ.cast (sym (same_number v x (rest-mem v k) on-it same)) k))

    next-listed : Memᴰ w (skyline d rest)
    unfolding hidden list_of
    next-listed =
        mem-skyline d (mem-without x.number h.there (ne_eqb w.number x.number (λ e. omega (arith, twin-number d x w h.twin))))
        (by_cases (hidden d rest w)
        (λ g.
        let v = any-witness (λ p. hides d p w) rest g in
        let t = twin-hider d ms listed v.0 w (rest-mem v.0 v.1) (twin-costs d x w h.twin) v.2 in
        absurd (not-below v.0 v.1 t.0 t.1 t.2))
        (λ g. g))

    rest-number : (m n : Move) → Memᴰ m rest → Memᴰ n rest → m.number ≡ n.number → m ≡ n
    rest-number m n j k = same_number m n (rest-mem m j) (rest-mem n k)

    pub next-twin : change_notice b (withdraw x.number) ≡ row_of left x ∷ row_of entered w ∷ []
    unfolding change_notice changed changed_moves list_of
    next-twin =
        two-rows (skyline d ms) (skyline d rest) x w
        (list-once d ms s.once) (list-once d rest (distinct_without x.number ms s.once))
        (y-enters d rest ms x with-x rest-number w next-listed h.twin)
        (w-leaves d rest ms x with-x rest-number w next-listed h.twin)
