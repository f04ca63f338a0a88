-- Z-order of moves and rows, and their numbers.
use Rattle.std.specs.Prelude.{ℕ, ◌≤◌, ◌<◌, Bool, cond, not, ◌&&◌, ◌||◌, ◌≡◌}
use Rattle.std.proofs.Math.Bool.{true, false}
use mathlib.Core.List.Memᴰ
use mathlib.Core.List.{List, [], ◌∷◌, ◌++◌, map, Memᴰ}
use Rattle.std.proofs.Math.Logic.{⊎_elim}
use Rattle.std.proofs.Math.Path.{refl}
use Rattle.std.proofs.Common.{sym, ap, ◌∙◌, subst, le_refl, arith}
use Rattle.std.proofs.Math.Dec.{ltb, eqb}
use borrow.Author.Tests.{ltb-true, ltb-false, lt-ltb, le-ltb, eqb-true, eq-eqb}
use Rattle.zorder.specs.Between.{row_costs, RowCosts, before, same_place}
use Rattle.zorder.specs.Refusal.{cost_count_bad}
use Rattle.zorder.proofs.Laws.Between as Between
use Rattle.model.specs.Basics.{Each, cons_if, select, any, has, distinct, insert_by, sort_by}
use Rattle.model.specs.Moves.{Move, Row, row_of, z_before, move_before, row_before}
use Rattle.model.specs.Withdrawing.{costs_on}
use Rattle.model.specs.Calls.{on_board}
use Rattle.model.specs.Sound.{Fit}
use Rattle.model.proofs.Laws.Bool.{and_left, and_right, and_both, not-flip, not_back, or_cases, or_left, or_right, or-false-left, or-false-right, or-false-both, same_test, both_ways, cond_cases, and-false-right, and-drop-left}
use Rattle.model.proofs.Laws.Basics.{Once, each-mem, mem-each, each_left, each-select, any-mem, any_false, any_none, any-map, any-ext}
use Rattle.model.proofs.Laws.Sorting.{StrictOrder, each-insert, each-sort}

-- ---- Z-order

module _ (d : ℕ) where
  z-irrefl : (n : ℕ) (p : List ℕ) → z_before d n p n p ≡ false
  unfolding z_before
  z-irrefl n p =
      or-false-both (before d p p) (same_place d p p && ltb n n) (Between.before-irrefl d p)
      (and-false-right (same_place d p p) (ltb n n) (le-ltb n n (le_refl n)))

  z-trans : (n : ℕ) (p : List ℕ) (m : ℕ) (q : List ℕ) (k : ℕ) (r : List ℕ)
      → z_before d n p m q ≡ true → z_before d m q k r ≡ true → z_before d n p k r ≡ true
  unfolding z_before
  z-trans n p m q k r h g =
      or_cases (before d p q) (same_place d p q && ltb n m) h
      (λ b. first (or_cases (before d q r) (same_place d q r && ltb m k) g (Between.before-trans d p q r b)
      (λ s. Between.before_same d p q r b (and_left (same_place d q r) (ltb m k) s))))
      (λ s. or_cases (before d q r) (same_place d q r && ltb m k) g
      (λ b. first (Between.same-before d p q r (and_left (same_place d p q) (ltb n m) s) b))
      (λ t. or_right (before d p r) (same_place d p r && ltb n k)
      (and_both (same_place d p r) (ltb n k)
      (Between.same-trans d p q r (and_left (same_place d p q) (ltb n m) s) (and_left (same_place d q r) (ltb m k) t))
      (lt-ltb n k (omega (arith, ltb-true n m (and_right (same_place d p q) (ltb n m) s), ltb-true m k (and_right (same_place d q r) (ltb m k) t)))))))
    where
      first : before d p r ≡ true → (before d p r || (same_place d p r && ltb n k)) ≡ true
      first = or_left (before d p r) (same_place d p r && ltb n k)

  -- neither before the other: the same number and costs
  z-total : d ≤ row_costs → (n : ℕ) (p : List ℕ) (m : ℕ) (q : List ℕ) → RowCosts d p → RowCosts d q
      → z_before d n p m q ≡ false → z_before d m q n p ≡ false → (n ≡ m) × (p ≡ q)
  unfolding z_before
  z-total l n p m q f g h k = (omega (arith, ltb-false n m later, ltb-false m n earlier), Between.same-costs d p q l f g same)
    where
      same : same_place d p q ≡ true
      same =
          ⊎_elim (λ b. both_ways b (or-false-left (before d p q) (same_place d p q && ltb n m) h)) (λ s. s)
          (Between.before-or-same d p q (or-false-left (before d q p) (same_place d q p && ltb m n) k))

      later : ltb n m ≡ false
      later = and-drop-left (same_place d p q) (ltb n m) same (or-false-right (before d p q) (same_place d p q && ltb n m) h)

      earlier : ltb m n ≡ false
      earlier =
          and-drop-left (same_place d q p) (ltb m n) (Between.same-sym d p q same) (or-false-right (before d q p) (same_place d q p && ltb m n) k)

pub before-irrefl : (d : ℕ) (x : Move) → move_before d x x ≡ false
unfolding move_before
before-irrefl d x = z-irrefl d x.number x.costs

pub before-trans : (d : ℕ) (x y z : Move) → move_before d x y ≡ true → move_before d y z ≡ true → move_before d x z ≡ true
unfolding move_before
before-trans d x y z = z-trans d x.number x.costs y.number y.costs z.number z.costs

pub move-path : (m n : Move) → (m.number ≡ n.number) × (m.costs ≡ n.costs) → m ≡ n
move-path m n e = λ i. record { number = e.0 i; costs = e.1 i }

pub move-order : (d c : ℕ) → d ≤ row_costs → StrictOrder (Fit c d) (move_before d)
unfolding move_before
move-order d c l =
    record {
      irrefl = λ m f. before-irrefl d m;
      trans = λ m n k f g h. before-trans d m n k;
      total = λ m n f g h k. move-path m n (z-total d l m.number m.costs n.number n.costs f.costs g.costs h k);
    }

pub dimension-most : (d : ℕ) → cost_count_bad d ≡ false → d ≤ row_costs
unfolding cost_count_bad
dimension-most d h = ltb-false row_costs d (or-false-right (ltb d 2) (ltb row_costs d) h)

-- A row of a move, with a mark.
pub record FitRow (k c d : ℕ) (r : Row) : Type 0 where
  pub mark : r.mark ≡ k
  pub number : r.number < c
  pub costs : RowCosts d r.costs

pub fit_row : (k c d : ℕ) (m : Move) → Fit c d m → FitRow k c d (row_of k m)
unfolding row_of
fit_row k c d m f = record { mark = refl; number = f.number; costs = f.costs }

row-path : (r s : Row) → r.mark ≡ s.mark → (r.number ≡ s.number) × (r.costs ≡ s.costs) → r ≡ s
row-path r s k e = λ i. record { mark = k i; number = e.0 i; costs = e.1 i }

pub row-order : (k d c : ℕ) → d ≤ row_costs → StrictOrder (FitRow k c d) (row_before d)
unfolding row_before
row-order k d c l =
    record {
      irrefl = λ r f. z-irrefl d r.number r.costs;
      trans = λ r s t f g h. z-trans d r.number r.costs s.number s.costs t.number t.costs;
      total = λ r s f g h b. row-path r s (f.mark ∙ sym g.mark) (z-total d l r.number r.costs s.number s.costs f.costs g.costs h b);
    }

-- ---- numbers, each at most once

pub eqb-sym : (a b : ℕ) → eqb a b ≡ eqb b a
eqb-sym a b = same_test (eqb a b) (eqb b a) (λ h. eq-eqb b a (sym (eqb-true a b h))) (λ h. eq-eqb a b (sym (eqb-true b a h)))

module _ {A : Type 0} (f : A → ℕ) where
  -- No entry of a list has that number.
  abbrev pub Others : ℕ → List A → Type 0
  Others n xs = Each (λ y. eqb n (f y) ≡ false) xs

  pub has-map : (n : ℕ) (xs : List A) → has n (map f xs) ≡ any (λ x. eqb n (f x)) xs
  unfolding has
  has-map n xs = any-map (eqb n) f xs

  has-others : (n : ℕ) (xs : List A) → has n (map f xs) ≡ false → Others n xs
  has-others n xs h = any_false (λ x. eqb n (f x)) xs (sym (has-map n xs) ∙ h)

  others-has : (n : ℕ) (xs : List A) → Others n xs → has n (map f xs) ≡ false
  others-has n xs es = has-map n xs ∙ any_none (λ x. eqb n (f x)) xs es

  pub distinct_head : (x : A) (xs : List A) → distinct (map f (x ∷ xs)) ≡ true → Others (f x) xs
  unfolding distinct
  distinct_head x xs h =
      has-others (f x) xs (not_back (has (f x) (map f xs)) (and_left (not (has (f x) (map f xs))) (distinct (map f xs)) h))

  pub distinct_tail : (x : A) (xs : List A) → distinct (map f (x ∷ xs)) ≡ true → distinct (map f xs) ≡ true
  unfolding distinct
  distinct_tail x xs h = and_right (not (has (f x) (map f xs))) (distinct (map f xs)) h

  pub distinct_cons : (x : A) (xs : List A) → Others (f x) xs → distinct (map f xs) ≡ true → distinct (map f (x ∷ xs)) ≡ true
  unfolding distinct
  distinct_cons x xs es h =
      and_both (not (has (f x) (map f xs))) (distinct (map f xs)) (not-flip (has (f x) (map f xs)) (others-has (f x) xs es)) h

  other-number : {x y : A} {xs : List A} → Others (f x) xs → Memᴰ y xs → ¬ (f x ≡ f y)
  other-number {x} {y} es m e = both_ways (eq-eqb (f x) (f y) e) (each-mem (λ y. eqb (f x) (f y) ≡ false) es m)

  pub not-member : (x : A) (xs : List A) → has (f x) (map f xs) ≡ false → ¬ Memᴰ x xs
  not-member x xs h m = other-number (has-others (f x) xs h) m refl

  pub distinct-once : (xs : List A) → distinct (map f xs) ≡ true → Once xs
  distinct-once [] h = tt
  distinct-once (x ∷ xs) h = (λ m. other-number (distinct_head x xs h) m refl, distinct-once xs (distinct_tail x xs h))

  pub mem-number : {x y : A} (xs : List A) → distinct (map f xs) ≡ true → Memᴰ x xs → Memᴰ y xs → f x ≡ f y → x ≡ y
  mem-number [] h m n e = absurd (Memᴰ.not-nil m)
  mem-number (z ∷ zs) h m n e =
      let o = distinct_head z zs h in
      ⊎_elim
      (λ a. ⊎_elim (λ b. a ∙ sym b) (λ k. absurd (other-number o k (ap f (sym a) ∙ e))) (Memᴰ.cases_cons n))
      (λ j. ⊎_elim (λ b. absurd (other-number o j (ap f (sym b) ∙ sym e))) (λ k. mem-number zs (distinct_tail z zs h) j k e) (Memᴰ.cases_cons n))
      (Memᴰ.cases_cons m)

  -- ---- lists that keep it so

  pub distinct-left : (xs ys : List A) → distinct (map f (xs ++ ys)) ≡ true → distinct (map f xs) ≡ true
  unfolding distinct
  distinct-left [] ys h = refl
  distinct-left (x ∷ xs) ys h =
      distinct_cons x xs (each_left (λ y. eqb (f x) (f y) ≡ false) xs ys (distinct_head x (xs ++ ys) h)) (distinct-left xs ys (distinct_tail x (xs ++ ys) h))

  pub distinct-right : (xs ys : List A) → distinct (map f (xs ++ ys)) ≡ true → distinct (map f ys) ≡ true
  distinct-right [] ys h = h
  distinct-right (x ∷ xs) ys h = distinct-right xs ys (distinct_tail x (xs ++ ys) h)

  pub distinct-select : (p : A → Bool) (xs : List A) → distinct (map f xs) ≡ true → distinct (map f (select p xs)) ≡ true
  unfolding select distinct
  distinct-select p [] h = refl
  distinct-select p (x ∷ xs) h =
      keep (p x) x (select p xs) (each-select p (λ y. eqb (f x) (f y) ≡ false) xs (distinct_head x xs h)) (distinct-select p xs (distinct_tail x xs h))
    where
      keep : (b : Bool) (x : A) (ys : List A) → Others (f x) ys → distinct (map f ys) ≡ true → distinct (map f (cons_if b x ys)) ≡ true
      keep true x ys o h = distinct_cons x ys o h
      keep false x ys o h = h

  module _ (lt : A → A → Bool) where
    insert-others : (x : A) (xs : List A) → Others (f x) xs → distinct (map f xs) ≡ true → distinct (map f (insert_by lt x xs)) ≡ true
    unfolding insert_by
    insert-others x [] o h = distinct_cons x [] o h
    insert-others x (y ∷ ys) o h =
        cond_cases (λ (zs : List A). distinct (map f zs) ≡ true) (lt x y) (λ _. distinct_cons x (y ∷ ys) o h)
        (λ _. distinct_cons y (insert_by lt x ys)
        (each-insert lt (λ z. eqb (f y) (f z) ≡ false) x ys (eqb-sym (f y) (f x) ∙ o.0) (distinct_head y ys h))
        (insert-others x ys o.1 (distinct_tail y ys h)))

    pub distinct-insert : (x : A) (xs : List A) → has (f x) (map f xs) ≡ false → distinct (map f xs) ≡ true → distinct (map f (insert_by lt x xs)) ≡ true
    distinct-insert x xs n = insert-others x xs (has-others (f x) xs n)

    pub distinct-sort : (xs : List A) → distinct (map f xs) ≡ true → distinct (map f (sort_by lt xs)) ≡ true
    unfolding sort_by
    distinct-sort [] h = h
    distinct-sort (x ∷ xs) h =
        insert-others x (sort_by lt xs) (each-sort lt (λ y. eqb (f x) (f y) ≡ false) xs (distinct_head x xs h)) (distinct-sort xs (distinct_tail x xs h))

-- ---- moves by their numbers

pub has-numbers : (n : ℕ) (ms : List Move) → has n (map (λ m. m.number) ms) ≡ on_board n ms
unfolding on_board
has-numbers n ms =
    has-map (λ m. m.number) n ms
    ∙ any-ext (λ m. eqb n m.number) (λ m. eqb m.number n) ms (mem-each (λ m. eqb n m.number ≡ eqb m.number n) ms (λ m k. eqb-sym n m.number))

-- a move whose number is not on the board is not on it
pub off-board : (m : Move) (ms : List Move) → on_board m.number ms ≡ false → ¬ Memᴰ m ms
off-board m ms h = not-member (λ m. m.number) m ms (has-numbers m.number ms ∙ h)

-- A move of a list that has a number, and the costs that the number has there.
pub record MoveOf (n : ℕ) (costs : List ℕ) (ms : List Move) : Type 0 where
  pub move : Move
  pub there : Memᴰ move ms
  pub number : move.number ≡ n
  pub costs-of : costs ≡ move.costs

pub move-on : (n : ℕ) (ms : List Move) → on_board n ms ≡ true → MoveOf n (costs_on n ms) ms
unfolding on_board any costs_on
move-on n [] e = both_ways e refl
move-on n (m ∷ ms) e = first (eqb m.number n) refl e (move-on n ms)
  where
    first : (b : Bool) → eqb m.number n ≡ b → (b || on_board n ms) ≡ true → (on_board n ms ≡ true → MoveOf n (costs_on n ms) ms)
        → MoveOf n (cond b m.costs (costs_on n ms)) (m ∷ ms)
    first true h e rest = record { move = m; there = Memᴰ.head refl; number = eqb-true m.number n h; costs-of = refl }
    first false h e rest =
        let r = rest e in record { move = r.move; there = Memᴰ.tail r.there; number = r.number; costs-of = r.costs-of }

pub costs-on-fit : (d n : ℕ) (ms : List Move) → Each (λ m. RowCosts d m.costs) ms → on_board n ms ≡ true → RowCosts d (costs_on n ms)
costs-on-fit d n ms es e =
    let x = move-on n ms e in subst (RowCosts d) (sym x.costs-of) (each-mem (λ m. RowCosts d m.costs) es x.there)

-- Of moves with different numbers each has the costs of its number.
pub costs-on-own : (ms : List Move) → distinct (map (λ m. m.number) ms) ≡ true → {x : Move} → Memᴰ x ms → costs_on x.number ms ≡ x.costs
unfolding on_board
costs-on-own ms h {x} k =
    let y = move-on x.number ms (any-mem (λ m. eqb m.number x.number) k (eq-eqb x.number x.number refl)) in
    y.costs-of ∙ ap (λ (m : Move). m.costs) (mem-number (λ m. m.number) ms h y.there k y.number)
