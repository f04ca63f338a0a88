-- The rows of a telling, one by one, are all its rows.
use Rattle.zorder.specs.Address.{row_costs}
use Prim.Native.Nat.{ℕ, zero, suc, ◌+◌, ◌-◌, ◌≤◌, ◌<◌}
use Rattle.std.specs.Prelude.{Bool, true, false, Option, None, Some, ◌≡◌, ltb, get_or, replicate}
use Rattle.std.proofs.Math.Bool.{cond}
use mathlib.Core.List.{List, [], ◌∷◌, ◌++◌, map, map-append}
use Rattle.std.proofs.Math.Path.{refl, ap, ap₂, subst}
use Rattle.std.proofs.Common.{sym, ◌∙◌, add-suc, add-one, ltb-true, ltb-false, lt-ltb, le-ltb, eq-eqb, ne_eqb}
use Rattle.std.proofs.Math.Nat.{zero-add}
use native.Mathlib.Omega.{arith}
use Rattle.std.proofs.Math.ListN.{length, set, drop, length-set}
use Rattle.std.proofs.Math.Seq.{paste, paste-zero, paste-suc, drop-drop}
use Rattle.std.specs.Option.{is_some}
use Rattle.model.specs.Basics.{cons_if, select, numbers_from, first_or}
use Rattle.model.proofs.Laws.Bool.{by_cases, test_cases}
use Rattle.model.proofs.Laws.Basics.{select-append}
use Rattle.model.proofs.Laws.Range.{numbers-append}
use Rattle.promises.specs.Layout.{move_in}
use Rattle.dominance.specs.Move.{as_move}
use Rattle.upkeep.specs.Change.{places_in}
use Rattle.rows.specs.Rows.{move_numbers}
use Rattle.rows.specs.Telling.{TellingAsked, tells_place, rows_at, coming_rows, told_rows, told_row, positions, place_of, told_at, row_at, told_from, next_row, next_at, position, filled_rows}
use Rattle.dominance.specs.declared.Move.{Move}
use Rattle.rows.specs.declared.telling.View.{View}

-- ---- what stands at a position

module _ (p i : ℕ) where
  pub place-before : i < p → place_of p i ≡ i
  unfolding place_of
  place-before h = ap (λ (b : Bool). cond b i (i - 1)) (lt-ltb i p h)

  pub place_after : p ≤ i → place_of p i ≡ i - 1
  unfolding place_of
  place_after h = ap (λ (b : Bool). cond b i (i - 1)) (le-ltb i p h)

  pub place-below : (n : ℕ) → p ≤ n → i ≤ n → (i ≡ p → ⊥) → place_of p i < n
  place-below n f h other =
      by_cases (ltb i p)
      (λ e. let l = ltb-true i p e in omega (arith, place-before l))
      (λ e. let l = ltb-false i p e in omega (arith, place_after l))

-- The coming move's row, if one comes.
abbrev pub entrant_row : ℕ → Option Move → Option (List ℕ)
entrant_row mark None = None
entrant_row mark (Some x) = Some (move_numbers mark (as_move x))

entrant-of : (mark : ℕ) (x : Option Move) → cond (is_some x) (Some (first_or (replicate (2 + row_costs) 0) (coming_rows mark x))) None ≡ entrant_row mark x
unfolding coming_rows first_or
entrant-of mark None = refl
entrant-of mark (Some x) = refl

module _ (t : View) (numbers m : List ℕ) (i : ℕ) where
  abbrev entrant : List ℕ
  entrant = first_or (replicate (2 + row_costs) 0) (coming_rows t.mark t.coming.entrant)

  pub coming-told : i ≡ t.coming.place → told_at t numbers m i ≡ is_some t.coming.entrant
  unfolding told_at
  coming-told e = ap (λ (b : Bool). cond b (is_some t.coming.entrant) (tells_place t numbers m (place_of t.coming.place i))) (eq-eqb i t.coming.place e)

  pub place-told : (i ≡ t.coming.place → ⊥) → (k : ℕ) → place_of t.coming.place i ≡ k → told_at t numbers m i ≡ tells_place t numbers m k
  unfolding told_at
  place-told other k at = λ j. cond (ne_eqb i t.coming.place other j) (is_some t.coming.entrant) (tells_place t numbers m (at j))

  coming-row : i ≡ t.coming.place → row_at t m i ≡ entrant
  unfolding row_at
  coming-row e =
      ap (λ (b : Bool). cond b entrant (move_numbers t.mark (move_in t.head.size t.head.dimension m (place_of t.coming.place i))))
      (eq-eqb i t.coming.place e)

  pub place-row : (i ≡ t.coming.place → ⊥) → (k : ℕ) → place_of t.coming.place i ≡ k → row_at t m i ≡ move_numbers t.mark (move_in t.head.size t.head.dimension m k)
  unfolding row_at
  place-row other k at =
      λ j. cond (ne_eqb i t.coming.place other j) entrant (move_numbers t.mark (move_in t.head.size t.head.dimension m (at j)))

  -- The coming move is told at its place.
  pub coming-shown : i ≡ t.coming.place → {o : Option (List ℕ)} → o ≡ entrant_row t.mark t.coming.entrant → o ≡ told_row t numbers m i
  coming-shown e f =
      f ∙ sym (ap₂ (λ (b : Bool) (x : List ℕ). cond b (Some x) None) (coming-told e) (coming-row e) ∙ entrant-of t.mark t.coming.entrant)

  -- What is told there.
  pub told_some : {x : List ℕ} → told_at t numbers m i ≡ true → row_at t m i ≡ x → told_row t numbers m i ≡ Some x
  told_some e f = ap₂ (λ (b : Bool) (y : List ℕ). cond b (Some y) None) e f

  pub told_none : told_at t numbers m i ≡ false → told_row t numbers m i ≡ None
  told_none e = ap (λ (b : Bool). cond b (Some (row_at t m i)) None) e

told-is : (b : Bool) {x r : List ℕ} → Some r ≡ cond b (Some x) None → (b ≡ true) × (r ≡ x)
told-is true e = (refl, ap (or_else_row) e)
  where
    or_else_row : Option (List ℕ) → List ℕ
    or_else_row None = []
    or_else_row (Some y) = y
told-is false e = cc

told-not : (b : Bool) (x : List ℕ) {o : Option (List ℕ)} → o ≡ cond b (Some x) None → ((r : List ℕ) → o ≡ Some r → ⊥) → b ≡ false
told-not true x e none = absurd (none x e)
told-not false x e none = refl

-- ---- the told positions from one on

module _ (t : View) (numbers m : List ℕ) where
  abbrev from_on : ℕ → List ℕ
  from_on = told_from t numbers m

  from_step : (i : ℕ) → i < positions t → from_on i ≡ cons_if (told_at t numbers m i) i (from_on (suc i))
  unfolding told_from select numbers_from
  from_step i h =
      let more : positions t - i ≡ suc (positions t - suc i) = omega arith in
      ap (λ (k : ℕ). select (told_at t numbers m) (numbers_from i k)) more

  pub from_told : (i : ℕ) → i < positions t → {r : List ℕ} → Some r ≡ told_row t numbers m i → (from_on i ≡ i ∷ from_on (suc i)) × (r ≡ row_at t m i)
  from_told i h e =
      let is = told-is (told_at t numbers m i) e in
      (from_step i h ∙ ap (λ (b : Bool). cons_if b i (from_on (suc i))) is.0, is.1)

  pub from-other : (i : ℕ) → i < positions t → {o : Option (List ℕ)} → o ≡ told_row t numbers m i → ((r : List ℕ) → o ≡ Some r → ⊥) → from_on i ≡ from_on (suc i)
  from-other i h e none = from_step i h ∙ ap (λ (b : Bool). cons_if b i (from_on (suc i))) (told-not (told_at t numbers m i) (row_at t m i) e none)

  pub from_end : (i : ℕ) → positions t ≤ i → from_on i ≡ []
  unfolding told_from select numbers_from
  from_end i h =
      let none : positions t - i ≡ 0 = omega arith in
      ap (λ (k : ℕ). select (told_at t numbers m) (numbers_from i k)) none

  -- What the first of them gives, and what is left after it.
  pub next-told : (i : ℕ) {j : ℕ} {js : List ℕ} → from_on i ≡ j ∷ js → (next_row t numbers m i ≡ row_at t m j) × (next_at t numbers m i ≡ suc j)
  unfolding next_row next_at first_or
  next-told i e =
      (ap (λ (js : List ℕ). first_or (replicate (2 + row_costs) 0) (map (row_at t m) js)) e, ap (λ (js : List ℕ). first_or (positions t) (map suc js)) e)

  pub next-none : (i : ℕ) → from_on i ≡ [] → (next_row t numbers m i ≡ replicate (2 + row_costs) 0) × (next_at t numbers m i ≡ positions t)
  unfolding next_row next_at first_or
  next-none i e =
      (ap (λ (js : List ℕ). first_or (replicate (2 + row_costs) 0) (map (row_at t m) js)) e, ap (λ (js : List ℕ). first_or (positions t) (map suc js)) e)

  abbrev Rest : List ℕ → Type 0
  Rest js = from_on (first_or (positions t) (map suc js)) ≡ drop 1 js

  rest_from : (k i : ℕ) → positions t - i ≡ k → Rest (from_on i)
  unfolding first_or
  rest_from zero i e = subst Rest (sym (from_end i (omega arith))) (from_end (positions t) (omega arith))
  rest_from (suc k) i e =
      let next = rest_from k (suc i) (omega arith) in
      subst Rest (sym (from_step i (omega arith)))
      (test_cases (λ (b : Bool). Rest (cons_if b i (from_on (suc i)))) (told_at t numbers m i) (λ _. refl) (λ _. next))

  position_from : (k : ℕ) → from_on (position t numbers m k) ≡ drop k (from_on 0)
  unfolding position next_at
  position_from zero = refl
  position_from (suc k) =
      rest_from (positions t - position t numbers m k) (position t numbers m k) refl
      ∙ ap (drop 1) (position_from k)
      ∙ drop-drop 1 k (from_on 0)
      ∙ ap (λ (j : ℕ). drop j (from_on 0)) (add-one k)

first-drop : {A B : Type 0} (f : A → B) (z : B) (k : ℕ) (l : List A) → first_or z (map f (drop k l)) ≡ get_or (map f l) k z
unfolding first_or
first-drop f z zero [] = refl
first-drop f z zero (x ∷ l) = refl
first-drop f z (suc k) [] = refl
first-drop f z (suc k) (x ∷ l) = first-drop f z k l

pub length_none : {A : Type 0} (l : List A) → length l ≡ 0 → l ≡ []
length_none [] e = refl
length_none (x ∷ l) e = absurd (omega arith)

-- ---- the told positions give the told rows

module _ {A : Type 0} (f g : ℕ → A) where
  keep : (b : Bool) (i j : ℕ) (is js : List ℕ) → f i ≡ g j → map f is ≡ map g js → map f (cons_if b i is) ≡ map g (cons_if b j js)
  keep true i j is js e h = ap₂ (λ (x : A) (l : List A). x ∷ l) e h
  keep false i j is js e h = h

  -- The same choice of the same entries, s positions on.
  shifted : (q r : ℕ → Bool) (s a k : ℕ) → ((i : ℕ) → a ≤ i → i < a + k → (q (s + i) ≡ r i) × (f (s + i) ≡ g i))
      → map f (select q (numbers_from (s + a) k)) ≡ map g (select r (numbers_from a k))
  unfolding select numbers_from
  shifted q r s a zero h = refl
  shifted q r s a (suc k) h =
      let here = h a (omega arith) (omega arith) in
      ap (λ (b : Bool). map f (cons_if b (s + a) (select q (numbers_from (suc (s + a)) k)))) here.0
      ∙ keep (r a) (s + a) a (select q (numbers_from (suc (s + a)) k)) (select r (numbers_from (suc a) k)) here.1
      (ap (λ (j : ℕ). map f (select q (numbers_from j k))) (sym (add-suc s a))
      ∙ shifted q r s (suc a) k (λ i l u. h i (omega arith) (omega arith)))

module _ {A : Type 0} (f : ℕ → A) (q : ℕ → Bool) where
  run : (a j k : ℕ) → map f (select q (numbers_from a (j + k))) ≡ map f (select q (numbers_from a j)) ++ map f (select q (numbers_from (a + j) k))
  run a j k =
      ap (λ (is : List ℕ). map f (select q is)) (numbers-append a j k)
      ∙ ap (map f) (select-append q (numbers_from a j) (numbers_from (a + j) k))
      ∙ map-append f (select q (numbers_from a j)) (select q (numbers_from (a + j) k))

  one : (a : ℕ) {b : Bool} {x : A} → q a ≡ b → f a ≡ x → map f (select q (numbers_from a 1)) ≡ cond b (x ∷ []) []
  unfolding select numbers_from
  one a {b} {x} e g =
      ap (λ (c : Bool). map f (cons_if c a [])) e
      ∙ test_cases (λ (c : Bool). map f (cons_if c a []) ≡ cond c (x ∷ []) []) b (λ _. ap (λ (y : A). y ∷ []) g) (λ _. refl)

module _ (t : View) (numbers m : List ℕ) where
  abbrev told : List (List ℕ)
  told = map (row_at t m) (told_from t numbers m 0)

  part : (s from to : ℕ)
      → ((i : ℕ) → from ≤ i → i < from + (to - from) → (told_at t numbers m (s + i) ≡ tells_place t numbers m i) × (row_at t m (s + i) ≡ move_numbers t.mark (move_in t.head.size t.head.dimension m i)))
      → map (row_at t m) (select (told_at t numbers m) (numbers_from (s + from) (to - from))) ≡ rows_at t.head.size t.head.dimension t.mark (places_in from to (tells_place t numbers m)) m
  unfolding rows_at places_in
  part s from to h = shifted (row_at t m) (λ i. move_numbers t.mark (move_in t.head.size t.head.dimension m i)) (told_at t numbers m) (tells_place t numbers m) s from (to - from) h

  -- The place i at position j.
  shown : (j i : ℕ) → (j ≡ t.coming.place → ⊥) → place_of t.coming.place j ≡ i
      → (told_at t numbers m j ≡ tells_place t numbers m i) × (row_at t m j ≡ move_numbers t.mark (move_in t.head.size t.head.dimension m i))
  shown j i other at = (place-told t numbers m j other i at, place-row t numbers m j other i at)

  entrant-rows : (x : Option Move) → cond (is_some x) (first_or (replicate (2 + row_costs) 0) (coming_rows t.mark x) ∷ []) [] ≡ coming_rows t.mark x
  unfolding coming_rows first_or
  entrant-rows None = refl
  entrant-rows (Some x) = refl

  told-all : t.coming.place ≤ t.head.count → told ≡ told_rows t numbers m
  unfolding told_rows told_from
  told-all f =
      let n = t.head.count in
      let p = t.coming.place in
      let all : positions t - 0 ≡ (p - 0) + (1 + (n - p)) = omega arith in
      let rows : ℕ → ℕ → List (List ℕ) = λ a k. map (row_at t m) (select (told_at t numbers m) (numbers_from a k)) in
      let second : 0 + (p - 0) ≡ p = omega arith in
      let third : p + 1 ≡ 1 + p = omega arith in
      ap (rows 0) all
      ∙ run (row_at t m) (told_at t numbers m) 0 (p - 0) (1 + (n - p))
      ∙ ap₂ ◌++◌
      (part 0 0 p (λ i l h. let low : 0 + i < p = omega arith in shown (0 + i) i (λ e. omega arith) (place-before p (0 + i) low ∙ zero-add i)))
      (ap (λ (a : ℕ). rows a (1 + (n - p))) second
      ∙ run (row_at t m) (told_at t numbers m) p 1 (n - p)
      ∙ ap₂ ◌++◌
      (one (row_at t m) (told_at t numbers m) p (coming-told t numbers m p refl) (coming-row t numbers m p refl) ∙ entrant-rows t.coming.entrant)
      (ap (λ (a : ℕ). rows a (n - p)) third
      ∙ part 1 p n (λ i l h. let past : p ≤ 1 + i = omega arith in let here : 1 + i - 1 ≡ i = omega arith in
      shown (1 + i) i (λ e. omega arith) (place_after p (1 + i) past ∙ here))))

  -- ---- put one by one

  next-row : (k : ℕ) → next_row t numbers m (position t numbers m k) ≡ get_or told k (replicate (2 + row_costs) 0)
  unfolding next_row
  next-row k =
      ap (λ (js : List ℕ). first_or (replicate (2 + row_costs) 0) (map (row_at t m) js)) (position_from t numbers m k)
      ∙ first-drop (row_at t m) (replicate (2 + row_costs) 0) k (told_from t numbers m 0)

  pub told-row : TellingAsked t m → (k : ℕ) → next_row t numbers m (position t numbers m k) ≡ get_or (told_rows t numbers m) k (replicate (2 + row_costs) 0)
  told-row asked k =
      next-row k ∙ ap (λ (rows : List (List ℕ)). get_or rows k (replicate (2 + row_costs) 0)) (told-all asked.place)

  filled-some : (rows : List (List ℕ)) (from k : ℕ) → k ≤ length told → from + k ≤ length rows → filled_rows t numbers m from k rows ≡ paste rows from told k
  unfolding filled_rows
  filled-some rows from zero h l = paste-zero rows from told
  filled-some rows from (suc k) h l =
      let before = filled-some rows from k (omega arith) (omega arith) in
      (λ j. set (before j) (from + k) (next-row k j))
      ∙ paste-suc rows from told k (replicate (2 + row_costs) 0) (omega arith) (omega arith)

  -- So many rows as are told, whatever the memory where there are none.
  pub filled-all : (rows : List (List ℕ)) (from count : ℕ) → (0 < count → TellingAsked t m) → (0 < count → length (told_rows t numbers m) ≡ count) → from + count ≤ length rows
      → filled_rows t numbers m from count rows ≡ paste rows from (told_rows t numbers m) count
  unfolding filled_rows
  filled-all rows from zero asked e h = paste-zero rows from (told_rows t numbers m)
  filled-all rows from (suc k) asked e h =
      let all = told-all (asked (omega arith)).place in
      filled-some rows from (suc k) (omega (arith, ap length all, e (omega arith))) h
      ∙ ap (λ (new : List (List ℕ)). paste rows from new (suc k)) all

  -- There are as many rows as before.
  pub filled-length : (rows : List (List ℕ)) (from k : ℕ) → length (filled_rows t numbers m from k rows) ≡ length rows
  unfolding filled_rows
  filled-length rows from zero = refl
  filled-length rows from (suc k) =
      length-set (filled_rows t numbers m from k rows) (from + k) (next_row t numbers m (position t numbers m k)) ∙ filled-length rows from k
