-- Who is told to leave and to enter is the difference of the lists before and after the change.
use Rattle.std.specs.Prelude.{ℕ, ◌+◌, ◌-◌, ◌<◌, ◌≤◌, Bool, ◌&&◌, ◌≡◌, Option, Some, None, get_or}
use Rattle.std.proofs.Math.Bool.{true, false, not, cond}
use Rattle.std.specs.Bool.{beq}
use Rattle.std.specs.Option.{ForSome, option_map_or}
use mathlib.Core.List.Memᴰ
use mathlib.Core.List.{List, [], ◌∷◌, ◌++◌, map, map-append, Memᴰ}
use Rattle.std.proofs.Math.Logic.{⊎_elim}
use Rattle.std.proofs.Math.Path.{refl, sym, ap, ap₂}
use Rattle.std.proofs.Common.{◌∙◌, subst, zero-add, add-sub_of_le}
use Rattle.std.proofs.Math.Nat.{sub-zero}
use native.Mathlib.Omega.{arith}
use borrow.Author.Tests.{eqb-true, eqb-false}
use Rattle.std.proofs.Math.Dec.{eqb}
use Rattle.std.proofs.Math.ListN.{length, length-append, length-map}
use Rattle.model.specs.Basics.{Each, cons_if, select, count, rising, insert_by, numbers_from}
use Rattle.model.specs.Moves.{Move, Row, row_of, move_before, insert, ordered, left, entered}
use Rattle.model.specs.Lists.{hidden, skyline}
use Rattle.model.specs.Sound.{Fit}
use Rattle.model.proofs.Laws.Bool.{by_cases, test_cases, and_left, and_right, not_back, not-flip}
use Rattle.model.proofs.Laws.Basics.{mem-each, each-mem, select-mem, mem-select, select-ext, select-append}
use Rattle.model.proofs.Laws.Range.{each-numbers, numbers-append}
use Rattle.model.proofs.Laws.Order.{move-order, off-board}
use Rattle.model.proofs.Laws.Sorting.{StrictOrder, insert-mem, mem-insert-old, asym, connex, rising-cons, rising-tail, rising-head}
use Rattle.model.proofs.Laws.Skyline.{skyline-mem}
use Rattle.model.proofs.Laws.Notice.{among, gone, among-mem}
use Rattle.line.specs.Line.{Placed, none, moves_in}
use Rattle.line.specs.Enter.{place_for}
use Rattle.promises.specs.Layout.{move_in, placed_in, line_from}
use Rattle.promises.specs.Answers.{result_row}
use Rattle.promises.specs.Run.{Bytes}
use Rattle.dominance.specs.Move.{as_move}
use Rattle.dominance.specs.declared.Move as dominance
use Rattle.memory.specs.Held.{SoundRows}
use Rattle.search.specs.Search.{looks, looks_at}
use Rattle.memory.specs.Tests.{is_listed}
use Rattle.memory.specs.declared.head.Head.{Head}
use Rattle.memory.specs.Laws.Lines.{get_or-line, length-line}
use Rattle.memory.specs.Laws.Held.{held-dimension, held-order, held-listed, held-fit, held-fit-at, held-once}
use Rattle.upkeep.specs.Change.{drop_at, moves_after, stays, places_in, AskedRows, UpkeptRows}
use Rattle.rows.specs.Rows.{move_numbers}
use Rattle.rows.specs.Telling.{tells_place, rows_at, coming_rows, told_rows}
use Rattle.rows.specs.declared.telling.View.{View}
use Rattle.upkeep.specs.Laws.Places.{place-below, below-place}
use Rattle.upkeep.specs.Laws.Change.{line-places, rest-places}
use Rattle.upkeep.specs.Laws.Place.{place-low, place-high}
use Rattle.upkeep.specs.Laws.Notified.{Places, stay, left-places, entered-after, entered-rest, entered-coming}
use Rattle.upkeep.specs.declared.exchange.Exchange.{Exchange}
use Rattle.upkeep.specs.declared.exchange.Upkeep.{Upkeep}
use Rattle.planning.specs.Plan.{leaving_by, entering_by, coming_if}

left-test : (listed stays : Bool) → (not (beq listed stays) && listed) ≡ (listed && not stays)
left-test true true = refl
left-test true false = refl
left-test false true = refl
left-test false false = refl

entered-test : (listed stays : Bool) → (not (beq listed stays) && not listed) ≡ (not listed && stays)
entered-test true true = refl
entered-test true false = refl
entered-test false true = refl
entered-test false false = refl

rising-nil : (lt : Move → Move → Bool) → rising lt [] ≡ true
unfolding rising
rising-nil lt = refl

-- Some of the places of a list in order are in order.
rising-places : (P : Move → Type 0) (lt : Move → Move → Bool) (o : StrictOrder P lt) (f : ℕ → Move) (t : ℕ → Bool) (is : List ℕ)
    → Each P (map f is) → rising lt (map f is) ≡ true → rising lt (map f (select t is)) ≡ true
unfolding select
rising-places P lt o f t [] es r = rising-nil lt
rising-places P lt o f t (i ∷ is) es r =
    let next = rising-places P lt o f t is es.1 (rising-tail lt (f i) (map f is) r) in
    test_cases (λ (b : Bool). rising lt (map f (cons_if b i (select t is))) ≡ true) (t i)
    (λ _. rising-cons lt (f i) (map f (select t is))
    (mem-each (λ y. lt (f i) y ≡ true) (map f (select t is)) (λ y g.
    let w = Memᴰ.of_map f (select t is) g in
    subst (λ (z : Move). lt (f i) z ≡ true) w.2
    (each-mem (λ y. lt (f i) y ≡ true) (rising-head P lt o (f i) (map f is) es.0 es.1 r) (Memᴰ.map f (select-mem t is w.1).0))))
    next)
    (λ _. next)

module _ (c d n : ℕ) (k : Exchange) (m : List ℕ) (s : SoundRows c d n m) (b : Bytes m) (a : AskedRows c d n k m)
    (other : ForSome k.coming (λ x. k.goes < n → move_in c d m k.goes ≡ as_move x → ⊥)) where
  abbrev before : List Move
  before = moves_in (line_from c d n m)

  abbrev rest : List Move
  rest = drop_at k.goes before

  abbrev after : List Move
  after = moves_after d k before

  not-rest : (i : ℕ) → i < n → eqb i k.goes ≡ true → ¬ Memᴰ (move_in c d m i) rest
  unfolding move_in
  not-rest i h e g =
      let w = Memᴰ.of_map (move_in c d m) (select (λ j. not (eqb j k.goes)) (numbers_from 0 n)) (subst (Memᴰ (move_in c d m i)) (rest-places c d n m k.goes) g) in
      let q = select-mem (λ j. not (eqb j k.goes)) (numbers_from 0 n) w.1 in
      eqb-false w.0 k.goes (not_back (eqb w.0 k.goes) q.1)
      (held-once c d n m s b w.0 i (place-below n q.0) h (ap (λ (y : Move). y.number) w.2) ∙ eqb-true i k.goes e)

  in_rest : (i : ℕ) → Memᴰ i (numbers_from 0 n) → eqb i k.goes ≡ false → Memᴰ (move_in c d m i) rest
  in_rest i h e =
      subst (Memᴰ (move_in c d m i)) (sym (rest-places c d n m k.goes))
      (Memᴰ.map (move_in c d m) (mem-select (λ j. not (eqb j k.goes)) h (not-flip (eqb i k.goes) e)))

  there-by : (o : Option dominance.Move) {z : Move} → Memᴰ z rest → Memᴰ z (option_map_or (λ y. insert_by (move_before d) (as_move y) rest) o rest)
  there-by None g = g
  there-by (Some y) g = mem-insert-old (move_before d) (as_move y) g

  away-by : (i : ℕ) → Memᴰ i (numbers_from 0 n) → eqb i k.goes ≡ true → (o : Option dominance.Move) → k.coming ≡ o
      → ¬ Memᴰ (move_in c d m i) (option_map_or (λ y. insert_by (move_before d) (as_move y) rest) o rest)
  away-by i h e None q g = not-rest i (place-below n h) e g
  away-by i h e (Some y) q g =
      ⊎_elim
      (λ z. other y q (subst (λ (j : ℕ). j < n) (eqb-true i k.goes e) (place-below n h)) (ap (move_in c d m) (sym (eqb-true i k.goes e)) ∙ z))
      (not-rest i (place-below n h) e) (insert-mem (move_before d) (as_move y) rest g)

  pub places : Places d (move_in c d m) (numbers_from 0 n) k.goes after (is_listed c m)
  unfolding moves_after insert
  places =
      record {
        flags = λ i h. held-listed c d n m s i (place-below n h) ∙ ap (λ (ms : List Move). not (hidden d ms (move_in c d m i))) (line-places c d n m);
        there = λ i h e. there-by k.coming (in_rest i h e);
        away = λ i h e. away-by i h e k.coming refl;
      }

  abbrev stay_at : ℕ → Bool
  stay_at = stay d (move_in c d m) k.goes after

  abbrev enters : ℕ → Bool
  enters i = not (is_listed c m i) && stay_at i

  order : StrictOrder (Fit c d) (move_before d)
  order = move-order d c (held-dimension c d n m s)

  fits : Each (Fit c d) (map (move_in c d m) (numbers_from 0 n))
  fits = subst (Each (Fit c d)) (line-places c d n m) (held-fit c d n m s b)

  rest-fits : Each (Fit c d) rest
  rest-fits =
      subst (Each (Fit c d)) (sym (rest-places c d n m k.goes))
      (mem-each (Fit c d) (map (move_in c d m) (select (λ j. not (eqb j k.goes)) (numbers_from 0 n))) (λ y g.
      let w = Memᴰ.of_map (move_in c d m) (select (λ j. not (eqb j k.goes)) (numbers_from 0 n)) g in
      subst (Fit c d) w.2 (held-fit-at c d n m s b w.0 (place-below n (select-mem (λ j. not (eqb j k.goes)) (numbers_from 0 n) w.1).0))))

  rest-rising : rising (move_before d) rest ≡ true
  unfolding ordered
  rest-rising =
      ap (rising (move_before d)) (rest-places c d n m k.goes)
      ∙ rising-places (Fit c d) (move_before d) order (move_in c d m) (λ j. not (eqb j k.goes)) (numbers_from 0 n) fits
      (subst (λ (ms : List Move). rising (move_before d) ms ≡ true) (line-places c d n m) (held-order c d n m s))

  whole : (p : ℕ) → p ≤ n → numbers_from 0 n ≡ numbers_from 0 p ++ numbers_from p (n - p)
  whole p h =
      ap (numbers_from 0) (sym (add-sub_of_le h)) ∙ numbers-append 0 p (n - p)
      ∙ ap (λ (q : ℕ). numbers_from 0 p ++ numbers_from q (n - p)) (zero-add p)

  -- ---- the coming move

  at_place : (i : ℕ) → i < n → (get_or (line_from c d n m) i none).move ≡ move_in c d m i
  unfolding placed_in
  at_place i h = ap (λ (r : Placed). r.move) (get_or-line c d n m i h)

  module _ (y : dominance.Move) (e : k.coming ≡ Some y) where
    abbrev x : Move
    x = as_move y

    not-here : ¬ Memᴰ x rest
    not-here = off-board x rest (a.new y e)

    absent : among x (skyline d (map (move_in c d m) (numbers_from 0 n))) ≡ false
    absent = by_cases (among x list) (λ h. absurd (gone-on h)) (λ h. h)
      where
        list : List Move
        list = skyline d (map (move_in c d m) (numbers_from 0 n))

        gone-on : among x list ≡ true → ⊥
        gone-on h =
            let w = Memᴰ.of_map (move_in c d m) (numbers_from 0 n) (skyline-mem d (map (move_in c d m) (numbers_from 0 n)) (among-mem x list h)).0 in
            by_cases (eqb w.0 k.goes)
            (λ q. let j = eqb-true w.0 k.goes q in
            other y e (subst (λ (i : ℕ). i < n) j (place-below n w.1)) (ap (move_in c d m) (sym j) ∙ w.2))
            (λ q. not-here (subst (λ (y : Move). Memᴰ y rest) w.2 (in_rest w.0 w.1 q)))

    module _ (p : ℕ) (f : p ≤ n) (at : p ≡ place_for d x (line_from c d n m)) where
      lower : (i : ℕ) → Memᴰ i (numbers_from 0 p) → move_before d x (move_in c d m i) ≡ false
      lower i g =
          let h : i < p = place-below p g in
          let l : i < n = omega arith in
          asym (Fit c d) (move_before d) order (move_in c d m i) x (held-fit-at c d n m s b i l) (a.fit y e)
          (subst (λ (y : Move). move_before d y x ≡ true) (at_place i l) (place-low d x (line_from c d n m) i (subst (λ (q : ℕ). i < q) at h)))

      upper : (i : ℕ) → Memᴰ i (numbers_from p (n - p)) → enters i ≡ true → move_before d x (move_in c d m i) ≡ true
      unfolding stay ordered
      upper i g t =
          let q = each-mem (λ i. (p ≤ i) × (i < n)) (each-numbers (λ i. (p ≤ i) × (i < n)) p (n - p) (λ i u v. (u, omega arith))) g in
          let away : eqb i k.goes ≡ false = not_back (eqb i k.goes) (and_left (not (eqb i k.goes)) (not (hidden d after (move_in c d m i))) (and_right (not (is_listed c m i)) (stay_at i) t)) in
          connex (Fit c d) (move_before d) order (move_in c d m i) x (held-fit-at c d n m s b i q.1) (a.fit y e)
          (subst (λ (y : Move). move_before d y x ≡ false) (at_place i q.1)
          (place-high d x (Fit c d) order (a.fit y e) (line_from c d n m) (held-fit c d n m s b) (held-order c d n m s) i
          (subst (λ (r : ℕ). r ≤ i) at q.0) (subst (λ (r : ℕ). i < r) (sym (length-line c d n m)) q.1)))
          (λ z. not-here (subst (λ (y : Move). Memᴰ y rest) z (in_rest i (inside i q.1) away)))
        where
          inside : (i : ℕ) → i < n → Memᴰ i (numbers_from 0 n)
          inside i h = below-place n i h

  -- ---- both parts of the notice

  left-part : gone (skyline d before) (skyline d after) ≡ map (move_in c d m) (select (λ i. is_listed c m i && not (stay_at i)) (numbers_from 0 n))
  left-part =
      ap (λ (ms : List Move). gone (skyline d ms) (skyline d after)) (line-places c d n m)
      ∙ left-places d (move_in c d m) (numbers_from 0 n) k.goes after (is_listed c m) places

  module _ (p : ℕ) (f : p ≤ n) (at : ForSome k.coming (λ x. p ≡ place_for d (as_move x) (line_from c d n m))) where
    abbrev first : List Move
    first = map (move_in c d m) (select enters (numbers_from 0 p))

    abbrev last : List Move
    last = map (move_in c d m) (select enters (numbers_from p (n - p)))

    -- The coming move, if it is listed afterwards.
    abbrev listed_of : Option dominance.Move → List Move
    listed_of o = option_map_or (λ x. cond (not (hidden d after (as_move x))) (as_move x ∷ []) []) o []

    coming-part : (y : dominance.Move) → k.coming ≡ Some y
        → gone (skyline d after) (skyline d (map (move_in c d m) (numbers_from 0 n))) ≡ first ++ (listed_of k.coming ++ last)
    unfolding moves_after insert
    coming-part y e =
        entered-coming d (move_in c d m) (numbers_from 0 n) k.goes after (is_listed c m) places (Fit c d) order (as_move y) (a.fit y e) rest
        (sym (rest-places c d n m k.goes)) rest-fits rest-rising
        (ap (λ (o : Option dominance.Move). option_map_or (λ z. insert_by (move_before d) (as_move z) rest) o rest) e)
        (absent y e) (numbers_from 0 p) (numbers_from p (n - p)) (whole p f) (lower y e p f (at y e)) (upper y e p f (at y e))
        ∙ ap (λ (o : Option dominance.Move). first ++ (listed_of o ++ last)) (sym e)

    plain-part : k.coming ≡ None → gone (skyline d after) (skyline d (map (move_in c d m) (numbers_from 0 n))) ≡ first ++ (listed_of k.coming ++ last)
    unfolding moves_after insert
    plain-part e =
        let is = numbers_from 0 n in
        let q = places in
        entered-after d (move_in c d m) is k.goes after (is_listed c m) q
        ∙ ap (select (λ y. not (hidden d after y) && not (among y (skyline d (map (move_in c d m) is)))))
        (ap (λ (o : Option dominance.Move). option_map_or (λ z. insert_by (move_before d) (as_move z) rest) o rest) e ∙ rest-places c d n m k.goes)
        ∙ entered-rest d (move_in c d m) is k.goes after (is_listed c m) q
        ∙ ap (λ (js : List ℕ). map (move_in c d m) (select enters js)) (whole p f)
        ∙ ap (map (move_in c d m)) (select-append enters (numbers_from 0 p) (numbers_from p (n - p)))
        ∙ map-append (move_in c d m) (select enters (numbers_from 0 p)) (select enters (numbers_from p (n - p)))
        ∙ ap (λ (o : Option dominance.Move). first ++ (listed_of o ++ last)) (sym e)

    either-part : (o : Option dominance.Move) → k.coming ≡ o → gone (skyline d after) (skyline d (map (move_in c d m) (numbers_from 0 n))) ≡ first ++ (listed_of k.coming ++ last)
    either-part None e = plain-part e
    either-part (Some y) e = coming-part y e

    entered-part : gone (skyline d after) (skyline d before) ≡ first ++ (listed_of k.coming ++ last)
    entered-part =
        ap (λ (ms : List Move). gone (skyline d after) (skyline d ms)) (line-places c d n m)
        ∙ either-part k.coming refl

    module _ (u : Upkeep) (v : UpkeptRows c d n k m u) where
      abbrev head : Head
      head = record { size = c; dimension = d; count = n }

      chosen-places : (p q : ℕ → Bool) → ((i : ℕ) → i < n → p i ≡ q i) → (i j : ℕ) → i ≤ j → j ≤ n → places_in i j p ≡ select q (numbers_from i (j - i))
      unfolding places_in
      chosen-places p q h i j l r =
          select-ext p q (numbers_from i (j - i)) (each-numbers (λ i. p i ≡ q i) i (j - i) (λ k _ g. h k (omega arith)))

      rows_told : (mark : ℕ) (js : List ℕ) → map result_row (rows_at c d mark js m) ≡ map (row_of mark) (map (move_in c d m) js)
      unfolding rows_at result_row move_numbers row_of
      rows_told mark [] = refl
      rows_told mark (j ∷ js) = ap (λ (rs : List Row). row_of mark (move_in c d m j) ∷ rs) (rows_told mark js)

      -- ---- who leaves

      part_left : (i : ℕ) → i < n → tells_place (leaving_by head) u.changed m i ≡ (is_listed c m i && not (stay_at i))
      unfolding tells_place looks_at looks is_listed stays stay
      part_left i h = ap (λ (t : Bool). t && is_listed c m i) (v.changed i h) ∙ left-test (is_listed c m i) (stays c d n k m i)

      left-chosen : places_in 0 n (tells_place (leaving_by head) u.changed m) ≡ select (λ i. is_listed c m i && not (stay_at i)) (numbers_from 0 n)
      left-chosen =
          chosen-places (tells_place (leaving_by head) u.changed m) (λ i. is_listed c m i && not (stay_at i)) part_left 0 n (omega arith) (omega arith)
          ∙ ap (λ (q : ℕ). select (λ i. is_listed c m i && not (stay_at i)) (numbers_from 0 q)) (sub-zero n)

      left-rows : told_rows (leaving_by head) u.changed m ≡ rows_at c d left (places_in 0 n (tells_place (leaving_by head) u.changed m)) m
      unfolding told_rows coming_rows rows_at places_in select numbers_from
      left-rows = refl

      pub left-told : map result_row (told_rows (leaving_by head) u.changed m) ≡ map (row_of left) (gone (skyline d before) (skyline d after))
      left-told =
          ap (map result_row) left-rows
          ∙ rows_told left (places_in 0 n (tells_place (leaving_by head) u.changed m))
          ∙ ap (map (row_of left)) (ap (map (move_in c d m)) left-chosen ∙ sym left-part)

      pub left-number : u.left ≡ length (map (row_of left) (gone (skyline d before) (skyline d after)))
      unfolding count stays stay
      left-number =
          v.left
          ∙ sym (length-map (select (λ i. is_listed c m i && not (stay_at i)) (numbers_from 0 n)) (move_in c d m))
          ∙ ap length (sym left-part)
          ∙ sym (length-map (gone (skyline d before) (skyline d after)) (row_of left))

      -- ---- who enters

      abbrev entering : View
      entering = entering_by head (coming_if u.listed p k.coming)

      part-entered : (i : ℕ) → i < n → tells_place entering u.changed m i ≡ enters i
      unfolding tells_place looks_at looks is_listed stays stay
      part-entered i h = ap (λ (t : Bool). t && not (is_listed c m i)) (v.changed i h) ∙ entered-test (is_listed c m i) (stays c d n k m i)

      first-chosen : places_in 0 p (tells_place entering u.changed m) ≡ select enters (numbers_from 0 p)
      first-chosen =
          chosen-places (tells_place entering u.changed m) enters part-entered 0 p (omega arith) f
          ∙ ap (λ (q : ℕ). select enters (numbers_from 0 q)) (sub-zero p)

      last-chosen : places_in p n (tells_place entering u.changed m) ≡ select enters (numbers_from p (n - p))
      last-chosen = chosen-places (tells_place entering u.changed m) enters part-entered p n f (omega arith)

      -- The coming move's row, if it is listed.
      one_told : (t : Bool) (x : Move) → map result_row (cond t (move_numbers entered x ∷ []) []) ≡ map (row_of entered) (cond t (x ∷ []) [])
      unfolding result_row move_numbers row_of
      one_told true x = refl
      one_told false x = refl

      one_row : (t : Bool) (y : dominance.Move) → coming_rows entered (cond t (Some y) None) ≡ cond t (move_numbers entered (as_move y) ∷ []) []
      unfolding coming_rows
      one_row true y = refl
      one_row false y = refl

      no_row : (t : Bool) → coming_rows entered (cond t None None) ≡ []
      unfolding coming_rows
      no_row true = refl
      no_row false = refl

      coming-told : (o : Option dominance.Move) → u.listed ≡ option_map_or (λ x. not (hidden d after (as_move x))) o false
          → map result_row (coming_rows entered (cond u.listed o None)) ≡ map (row_of entered) (listed_of o)
      coming-told None e = ap (map result_row) (no_row u.listed)
      coming-told (Some y) e =
          ap (map result_row) (one_row u.listed y)
          ∙ one_told u.listed (as_move y)
          ∙ ap (λ (t : Bool). map (row_of entered) (cond t (as_move y ∷ []) [])) e

      pub entered-told : map result_row (told_rows entering u.changed m) ≡ map (row_of entered) (gone (skyline d after) (skyline d before))
      unfolding told_rows
      entered-told =
          let es = places_in 0 p (tells_place entering u.changed m) in
          let fs = places_in p n (tells_place entering u.changed m) in
          let coming : List (List ℕ) = coming_rows entered (cond u.listed k.coming None) in
          map-append result_row (rows_at c d entered es m) (coming ++ rows_at c d entered fs m)
          ∙ ap₂ ◌++◌ (rows_told entered es ∙ ap (λ (js : List ℕ). map (row_of entered) (map (move_in c d m) js)) first-chosen)
          (map-append result_row coming (rows_at c d entered fs m)
          ∙ ap₂ ◌++◌ (coming-told k.coming v.listed)
          (rows_told entered fs ∙ ap (λ (js : List ℕ). map (row_of entered) (map (move_in c d m) js)) last-chosen)
          ∙ sym (map-append (row_of entered) (listed_of k.coming) last))
          ∙ sym (map-append (row_of entered) first (listed_of k.coming ++ last))
          ∙ ap (map (row_of entered)) (sym entered-part)

      one_counted : (t : Bool) (x : Move) → cond t 1 0 ≡ length (cond t (x ∷ []) [])
      one_counted true x = refl
      one_counted false x = refl

      coming-count : (o : Option dominance.Move) → u.listed ≡ option_map_or (λ x. not (hidden d after (as_move x))) o false → cond u.listed 1 0 ≡ length (listed_of o)
      coming-count None e = ap (λ (t : Bool). cond t 1 0) e
      coming-count (Some y) e = ap (λ (t : Bool). cond t 1 0) e ∙ one_counted (not (hidden d after (as_move y))) (as_move y)

      pub entered-number : u.entered + cond u.listed 1 0 ≡ length (map (row_of entered) (gone (skyline d after) (skyline d before)))
      unfolding count stays stay
      entered-number =
          omega (
            arith,
            v.entered,
            ap (λ (js : List ℕ). length (select enters js)) (whole p f),
            ap length (select-append enters (numbers_from 0 p) (numbers_from p (n - p))),
            length-append (select enters (numbers_from 0 p)) (select enters (numbers_from p (n - p))),
            coming-count k.coming v.listed,
            length-map (select enters (numbers_from 0 p)) (move_in c d m),
            length-map (select enters (numbers_from p (n - p))) (move_in c d m),
            length-append first (listed_of k.coming ++ last),
            length-append (listed_of k.coming) last,
            ap length entered-part,
            length-map (gone (skyline d after) (skyline d before)) (row_of entered),
          )
