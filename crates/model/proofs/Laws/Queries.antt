-- Band, on k and chosen costs where each tells the moves that no move dominates, and rank where it tells the whole list.
use Prim.Native.Nat.{ℕ, zero, suc, ◌+◌, ◌≤◌, ◌<◌}
use Rattle.std.specs.Prelude.{Bool, true, false, not, ◌||◌, ◌≡◌, leb, length, get_or, take, drop}
use Rattle.std.proofs.Math.Bool.{cond, or-false}
use Rattle.std.proofs.Math.Path.{refl, sym, ap, ap₂, fun_ext}
use Rattle.std.proofs.Common.{◌∙◌, le_trans, arith, drop-cons, take_all, leb-true, le-leb}
use mathlib.Core.List.{List, [], ◌∷◌, ◌++◌, map, Memᴰ}
use Rattle.std.proofs.Math.Nat.{suc_inj}
use Rattle.std.proofs.Math.Dec.{leb-suc-zero}
use Rattle.std.proofs.lemmas.List.{length-map}
use Rattle.zorder.specs.Between.{RowCosts, row_costs}
use Rattle.model.specs.Basics.{Each, cons_if, select, any, count, sort_by, insert_by, parts, numbers_from}
use Rattle.model.specs.Moves.{Move, Row, row_of}
use Rattle.model.specs.Dominance.{better, dominates, at, dominates_at, dominates_on}
use Rattle.model.specs.Lists.{skyline, dominators, band, dominated, rank_before, rank, on_k, chosen}
use Rattle.model.proofs.Laws.Bool.{cond_cases}
use Rattle.model.proofs.Laws.Basics.{each-mem, mem-each, select-ext, any-ext, select-mem, mem-select, count-cons}
use Rattle.model.proofs.Laws.Range.{length-numbers}
use Rattle.model.proofs.Laws.Sorting.{length-sort}

-- The moves that no move dominates.
unfoldable pub undominated : ℕ → List Move → List Move
undominated d ms = select (λ m. not (any (λ p. dominates d p.costs m.costs) ms)) ms

-- ---- band

pub count-zero : {A : Type 0} (p : A → Bool) (xs : List A) → leb (count p xs) 0 ≡ not (any p xs)
unfolding count select any
count-zero p [] = refl
count-zero p (x ∷ xs) = step (p x) (count-zero p xs)
  where
    step : (b : Bool) → leb (count p xs) 0 ≡ not (any p xs) → leb (length (cons_if b x (select p xs))) 0 ≡ not (b || any p xs)
    step true e = leb-suc-zero (count p xs)
    step false e = e

-- "moves dominated by b or fewer": by none.
pub band-zero : (d : ℕ) (ms : List Move) → band d 0 ms ≡ undominated d ms
unfolding band dominators undominated
band-zero d ms =
    ap (λ (p : Move → Bool). select p ms) (fun_ext (λ m. count-zero (λ p. dominates d p.costs m.costs) ms))

-- A larger b takes no move away.
pub band-grows : (d b b' : ℕ) (ms : List Move) → b ≤ b' → {m : Move} → Memᴰ m (band d b ms) → Memᴰ m (band d b' ms)
unfolding band
band-grows d b b' ms l {m} k =
    let s = select-mem (λ n. leb (dominators d ms n) b) ms k in
    mem-select (λ n. leb (dominators d ms n) b') s.0 (le-leb (dominators d ms m) b' (le_trans (leb-true (dominators d ms m) b s.1) l))

-- ---- chosen costs, and k of them

at-numbers : (k n : ℕ) (p : List ℕ) → n + k ≤ length p → at (numbers_from n k) p ≡ take k (drop n p)
unfolding at numbers_from
at-numbers zero n p h = refl
at-numbers (suc k) n p h =
    ap (λ (l : List ℕ). get_or p n 0 ∷ l) (at-numbers k (suc n) p (omega arith))
    ∙ ap (take (suc k)) (sym (drop-cons p n 0 (omega arith)))

pub at_first : (d : ℕ) (p : List ℕ) → d ≤ length p → at (numbers_from 0 d) p ≡ take d p
at_first d p h = at-numbers d 0 p (omega arith)

-- All of the first d costs.
pub dominates-at-all : (d : ℕ) (p q : List ℕ) → d ≤ length p → d ≤ length q → dominates_at (numbers_from 0 d) p q ≡ dominates d p q
unfolding dominates_at dominates
dominates-at-all d p q h k = ap₂ better (at_first d p h) (at_first d q k)

module _ {A : Type 0} where
  parts_none : (k : ℕ) (xs : List A) → length xs < k → parts k xs ≡ []
  unfolding parts
  parts_none zero xs h = absurd (omega arith)
  parts_none (suc k) [] h = refl
  parts_none (suc k) (x ∷ xs) h = ap₂ (λ (u v : List (List A)). map (λ ys. x ∷ ys) u ++ v) (parts_none k xs (omega arith)) (parts_none (suc k) xs (omega arith))

  -- The one part that has all entries.
  parts_all : (k : ℕ) (xs : List A) → length xs ≡ k → parts k xs ≡ xs ∷ []
  unfolding parts
  parts_all zero [] h = refl
  parts_all zero (x ∷ xs) h = absurd (omega arith)
  parts_all (suc k) [] h = absurd (omega arith)
  parts_all (suc k) (x ∷ xs) h = ap₂ (λ (u v : List (List A)). map (λ ys. x ∷ ys) u ++ v) (parts_all k xs (suc_inj h)) (parts_none (suc k) xs (omega arith))

pub dominates-on-all : (d : ℕ) (p q : List ℕ) → d ≤ length p → d ≤ length q → dominates_on d d p q ≡ dominates d p q
unfolding dominates_on any
dominates-on-all d p q h k =
    ap (any (λ s. dominates_at s p q)) (parts_all d (numbers_from 0 d) (length-numbers d 0))
    ∙ or-false (dominates_at (numbers_from 0 d) p q)
    ∙ dominates-at-all d p q h k

-- Two relations that agree on the moves of a board leave the same moves.
same_relation : (u v : Move → Move → Bool) (ms : List Move) → ((p m : Move) → Memᴰ p ms → Memᴰ m ms → u p m ≡ v p m)
    → select (λ m. not (any (λ p. u p m) ms)) ms ≡ select (λ m. not (any (λ p. v p m) ms)) ms
same_relation u v ms f =
    select-ext (λ m. not (any (λ p. u p m) ms)) (λ m. not (any (λ p. v p m) ms)) ms
    (mem-each (λ m. not (any (λ p. u p m) ms) ≡ not (any (λ p. v p m) ms)) ms
    (λ m k. ap not (any-ext (λ p. u p m) (λ p. v p m) ms (mem-each (λ p. u p m ≡ v p m) ms (λ p j. f p m j k)))))

module _ (d : ℕ) (ms : List Move) (l : d ≤ row_costs) (h : Each (λ m. RowCosts d m.costs) ms) where
  enough : {m : Move} → Memᴰ m ms → d ≤ length m.costs
  enough k = omega (arith, (each-mem (λ m. RowCosts d m.costs) h k).count)

  pub chosen-all : chosen (numbers_from 0 d) ms ≡ undominated d ms
  unfolding chosen undominated
  chosen-all =
      same_relation (λ p m. dominates_at (numbers_from 0 d) p.costs m.costs) (λ p m. dominates d p.costs m.costs) ms
      (λ p m j k. dominates-at-all d p.costs m.costs (enough j) (enough k))

  pub on-all : on_k d d ms ≡ undominated d ms
  unfolding on_k undominated
  on-all =
      same_relation (λ p m. dominates_on d d p.costs m.costs) (λ p m. dominates d p.costs m.costs) ms
      (λ p m j k. dominates-on-all d p.costs m.costs (enough j) (enough k))

-- ---- rank

-- Counting says that two lists are rearrangements of each other: every test is passed by as many entries.
abbrev pub Rearranged : {A : Type 0} → List A → List A → Type 0
Rearranged {A = A} xs ys = (p : A → Bool) → count p xs ≡ count p ys

swap-count : (a b : Bool) (n : ℕ) → cond a (suc (cond b (suc n) n)) (cond b (suc n) n) ≡ cond b (suc (cond a (suc n) n)) (cond a (suc n) n)
swap-count true true n = refl
swap-count true false n = refl
swap-count false true n = refl
swap-count false false n = refl

module _ {A : Type 0} (lt : A → A → Bool) where
  pub insert-rearranged : (x : A) (xs : List A) → Rearranged (insert_by lt x xs) (x ∷ xs)
  unfolding insert_by
  insert-rearranged x [] p = refl
  insert-rearranged x (y ∷ ys) p =
      cond_cases (λ (l : List A). count p l ≡ count p (x ∷ y ∷ ys)) (lt x y) (λ e. refl)
      (λ e.
      count-cons p y (insert_by lt x ys)
      ∙ ap (λ (n : ℕ). cond (p y) (suc n) n) (insert-rearranged x ys p ∙ count-cons p x ys)
      ∙ swap-count (p y) (p x) (count p ys)
      ∙ ap (λ (n : ℕ). cond (p x) (suc n) n) (sym (count-cons p y ys))
      ∙ sym (count-cons p x (y ∷ ys)))

  pub sort-rearranged : (xs : List A) → Rearranged (sort_by lt xs) xs
  unfolding sort_by
  sort-rearranged [] p = refl
  sort-rearranged (x ∷ xs) p =
      insert-rearranged x (sort_by lt xs) p
      ∙ count-cons p x (sort_by lt xs)
      ∙ ap (λ (n : ℕ). cond (p x) (suc n) n) (sort-rearranged xs p)
      ∙ sym (count-cons p x xs)

-- The rows of the list, each with the number of moves that it dominates.
unfoldable pub counted : ℕ → List Move → List Row
counted d ms = map (λ m. row_of (dominated d ms m) m) (skyline d ms)

pub rank-all : (d t : ℕ) (ms : List Move) → length (skyline d ms) ≤ t → rank d t ms ≡ sort_by (rank_before d) (counted d ms)
unfolding rank counted
rank-all d t ms h =
    take_all t (sort_by (rank_before d) (counted d ms))
    (omega (arith, length-sort (rank_before d) (counted d ms), length-map (skyline d ms) (λ m. row_of (dominated d ms m) m)))

pub rank-rearranged : (d t : ℕ) (ms : List Move) → length (skyline d ms) ≤ t → Rearranged (rank d t ms) (counted d ms)
rank-rearranged d t ms h p = ap (count p) (rank-all d t ms h) ∙ sort-rearranged (rank_before d) (counted d ms) p
