-- Lists: members, the entries that pass a test, and how many.
use Rattle.std.specs.Prelude.{ℕ, zero, suc, ◌+◌, ◌≤◌, ◌<◌, Bool, cond, ◌&&◌, ◌⊎◌, ◌≡◌, eqb, get_or, set, take, drop}
use Rattle.std.proofs.Math.Bool.{true, false, ◌||◌, or_assoc, and_assoc}
use mathlib.Core.List.Memᴰ
use mathlib.Core.List.{List, [], ◌∷◌, ◌++◌, map, Memᴰ}
use Rattle.std.proofs.Common.{inl, inr, ◌∙◌, subst, zero-lt-suc, not-suc-le-zero, le_of_suc-le-suc, eqb-true, eq-eqb}
use Rattle.std.proofs.Math.Logic.{⊎_elim}
use Rattle.std.proofs.Math.Path.{refl, sym, ap, ap₂}
use native.Mathlib.Omega.{arith}
use Rattle.std.proofs.Math.ListN.{length, length-append, length-map}
use Rattle.model.specs.Basics.{Each, cons_if, select, any, all, count, parts, last_or, equal}
use Rattle.model.proofs.Laws.Bool.{and_left, and_right, and_both, or_cases, or_left, or_right, or-false-left, or-false-right, or-false-both, same_test, both_ways}

module _ {A : Type 0} where
  -- ---- every entry

  pub each-mem : (P : A → Type 0) {x : A} {xs : List A} → Each P xs → Memᴰ x xs → P x
  each-mem P es (Memᴰ.head e) = subst P (sym e) es.0
  each-mem P es (Memᴰ.tail m) = each-mem P es.1 m

  pub mem-each : (P : A → Type 0) (xs : List A) → ((x : A) → Memᴰ x xs → P x) → Each P xs
  mem-each P [] f = tt
  mem-each P (x ∷ xs) f = (f x (Memᴰ.head refl), mem-each P xs (λ y m. f y (Memᴰ.tail m)))

  pub each-mono : (P Q : A → Type 0) (xs : List A) → ((x : A) → P x → Q x) → Each P xs → Each Q xs
  each-mono P Q [] f es = tt
  each-mono P Q (x ∷ xs) f es = (f x es.0, each-mono P Q xs f es.1)

  pub each_both : (P Q : A → Type 0) (xs : List A) → Each P xs → Each Q xs → Each (λ x. P x × Q x) xs
  each_both P Q [] es fs = tt
  each_both P Q (x ∷ xs) es fs = ((es.0, fs.0), each_both P Q xs es.1 fs.1)

  pub each_append : (P : A → Type 0) (xs ys : List A) → Each P xs → Each P ys → Each P (xs ++ ys)
  each_append P [] ys es fs = fs
  each_append P (x ∷ xs) ys es fs = (es.0, each_append P xs ys es.1 fs)

  pub each_left : (P : A → Type 0) (xs ys : List A) → Each P (xs ++ ys) → Each P xs
  each_left P [] ys es = tt
  each_left P (x ∷ xs) ys es = (es.0, each_left P xs ys es.1)

  pub each_right : (P : A → Type 0) (xs ys : List A) → Each P (xs ++ ys) → Each P ys
  each_right P [] ys es = es
  each_right P (x ∷ xs) ys es = each_right P xs ys es.1

  pub mem-at : (xs : List A) (z : A) (i : ℕ) → i < length xs → Memᴰ (get_or xs i z) xs
  mem-at [] z i h = absurd (not-suc-le-zero h)
  mem-at (x ∷ xs) z zero h = Memᴰ.head refl
  mem-at (x ∷ xs) z (suc i) h = Memᴰ.tail (mem-at xs z i (le_of_suc-le-suc h))

  pub each_at : (P : A → Type 0) (xs : List A) (i : ℕ) (z : A) → i < length xs → Each P xs → P (get_or xs i z)
  each_at P xs i z h es = each-mem P es (mem-at xs z i h)

  pub each_set : (P : A → Type 0) (xs : List A) (i : ℕ) (z y : A) → (P (get_or xs i z) → P y) → Each P xs → Each P (set xs i y)
  each_set P [] i z y f es = tt
  each_set P (x ∷ xs) zero z y f es = (f es.0, es.1)
  each_set P (x ∷ xs) (suc i) z y f es = (es.0, each_set P xs i z y f es.1)

  pub last_mem : (x : A) (xs : List A) → Memᴰ (last_or x xs) (x ∷ xs)
  unfolding last_or
  last_mem x [] = Memᴰ.head refl
  last_mem x (y ∷ ys) = Memᴰ.tail (last_mem y ys)

  -- No entry stands twice.
  abbrev pub Once : List A → Type 0
  Once [] = Unit {0}
  Once (x ∷ xs) = ¬ Memᴰ x xs × Once xs

  -- ---- an entry that is kept or left out

  each-cons_if : (P : A → Type 0) (b : Bool) (x : A) (xs : List A) → P x → Each P xs → Each P (cons_if b x xs)
  each-cons_if P true x xs h es = (h, es)
  each-cons_if P false x xs h es = es

  cons_if-cases : {y : A} (b : Bool) (x : A) (xs : List A) → Memᴰ y (cons_if b x xs) → ((y ≡ x) × (b ≡ true)) ⊎ Memᴰ y xs
  cons_if-cases true x xs m = ⊎_elim (λ e. inl (e, refl)) inr (Memᴰ.cases_cons m)
  cons_if-cases false x xs m = inr m

  cons_if-head : {y : A} (b : Bool) (x : A) (xs : List A) → y ≡ x → b ≡ true → Memᴰ y (cons_if b x xs)
  cons_if-head true x xs e h = Memᴰ.head e
  cons_if-head false x xs e h = both_ways h refl

  cons_if-tail : {y : A} (b : Bool) (x : A) (xs : List A) → Memᴰ y xs → Memᴰ y (cons_if b x xs)
  cons_if-tail true x xs m = Memᴰ.tail m
  cons_if-tail false x xs m = m

  once-cons_if : (b : Bool) (x : A) (xs : List A) → ¬ Memᴰ x xs → Once xs → Once (cons_if b x xs)
  once-cons_if true x xs n o = (n, o)
  once-cons_if false x xs n o = o

  cons_if-append : (b : Bool) (x : A) (xs ys : List A) → cons_if b x (xs ++ ys) ≡ cons_if b x xs ++ ys
  cons_if-append true x xs ys = refl
  cons_if-append false x xs ys = refl

  pub mem-pos : {x : A} {xs : List A} → Memᴰ x xs → 0 < length xs
  mem-pos (Memᴰ.head e) = zero-lt-suc _
  mem-pos (Memᴰ.tail m) = zero-lt-suc _

  length-cons_if : (b : Bool) (x : A) (xs : List A) → length (cons_if b x xs) ≡ cond b (suc (length xs)) (length xs)
  length-cons_if true x xs = refl
  length-cons_if false x xs = refl

  -- ---- the entries that pass a test

  module _ (p : A → Bool) where
    pub select-append : (xs ys : List A) → select p (xs ++ ys) ≡ select p xs ++ select p ys
    unfolding select
    select-append [] ys = refl
    select-append (x ∷ xs) ys = ap (cons_if (p x) x) (select-append xs ys) ∙ cons_if-append (p x) x (select p xs) (select p ys)

    pub select-mem : {x : A} (xs : List A) → Memᴰ x (select p xs) → Memᴰ x xs × (p x ≡ true)
    unfolding select
    select-mem [] m = absurd (Memᴰ.not-nil m)
    select-mem (y ∷ ys) m =
        ⊎_elim
        (λ t. (Memᴰ.head t.0, ap p t.0 ∙ t.1))
        (λ n. let r = select-mem ys n in (Memᴰ.tail r.0, r.1))
        (cons_if-cases (p y) y (select p ys) m)

    pub mem-select : {x : A} {xs : List A} → Memᴰ x xs → p x ≡ true → Memᴰ x (select p xs)
    unfolding select
    mem-select {xs = []} m h = elim m [ ]
    mem-select {xs = y ∷ ys} (Memᴰ.head e) h = cons_if-head (p y) y (select p ys) e (ap p (sym e) ∙ h)
    mem-select {xs = y ∷ ys} (Memᴰ.tail m) h = cons_if-tail (p y) y (select p ys) (mem-select m h)

    pub each-select : (P : A → Type 0) (xs : List A) → Each P xs → Each P (select p xs)
    unfolding select
    each-select P [] es = tt
    each-select P (x ∷ xs) es = each-cons_if P (p x) x (select p xs) es.0 (each-select P xs es.1)

    pub once-select : (xs : List A) → Once xs → Once (select p xs)
    unfolding select
    once-select [] o = tt
    once-select (x ∷ xs) o = once-cons_if (p x) x (select p xs) (λ m. o.0 (select-mem xs m).0) (once-select xs o.1)

    pub select-all : (xs : List A) → Each (λ x. p x ≡ true) xs → select p xs ≡ xs
    unfolding select
    select-all [] es = refl
    select-all (x ∷ xs) es = ap₂ (λ (b : Bool) (ys : List A). cons_if b x ys) es.0 (select-all xs es.1)

    pub select-none : (xs : List A) → Each (λ x. p x ≡ false) xs → select p xs ≡ []
    unfolding select
    select-none [] es = refl
    select-none (x ∷ xs) es = ap₂ (λ (b : Bool) (ys : List A). cons_if b x ys) es.0 (select-none xs es.1)

    -- ---- whether one passes, whether all pass

    pub any_append : (xs ys : List A) → any p (xs ++ ys) ≡ (any p xs || any p ys)
    unfolding any
    any_append [] ys = refl
    any_append (x ∷ xs) ys = ap (λ (b : Bool). p x || b) (any_append xs ys) ∙ sym (or_assoc (p x) (any p xs) (any p ys))

    pub any-mem : {x : A} {xs : List A} → Memᴰ x xs → p x ≡ true → any p xs ≡ true
    unfolding any
    any-mem {xs = []} m h = elim m [ ]
    any-mem {xs = y ∷ ys} (Memᴰ.head e) h = or_left (p y) (any p ys) (ap p (sym e) ∙ h)
    any-mem {xs = y ∷ ys} (Memᴰ.tail m) h = or_right (p y) (any p ys) (any-mem m h)

    pub any-witness : (xs : List A) → any p xs ≡ true → (x : A) × Memᴰ x xs × (p x ≡ true)
    unfolding any
    any-witness [] h = both_ways h refl
    any-witness (x ∷ xs) h =
        or_cases (p x) (any p xs) h (λ e. (x, Memᴰ.head refl, e))
        (λ e. let w = any-witness xs e in (w.0, Memᴰ.tail w.1, w.2))

    pub any_false : (xs : List A) → any p xs ≡ false → Each (λ x. p x ≡ false) xs
    unfolding any
    any_false [] h = tt
    any_false (x ∷ xs) h = (or-false-left (p x) (any p xs) h, any_false xs (or-false-right (p x) (any p xs) h))

    pub any_none : (xs : List A) → Each (λ x. p x ≡ false) xs → any p xs ≡ false
    unfolding any
    any_none [] es = refl
    any_none (x ∷ xs) es = or-false-both (p x) (any p xs) es.0 (any_none xs es.1)

    pub all_append : (xs ys : List A) → all p (xs ++ ys) ≡ (all p xs && all p ys)
    unfolding all
    all_append [] ys = refl
    all_append (x ∷ xs) ys = ap (λ (b : Bool). p x && b) (all_append xs ys) ∙ sym (and_assoc (p x) (all p xs) (all p ys))

    pub all-each : (xs : List A) → all p xs ≡ true → Each (λ x. p x ≡ true) xs
    unfolding all
    all-each [] h = tt
    all-each (x ∷ xs) h = (and_left (p x) (all p xs) h, all-each xs (and_right (p x) (all p xs) h))

    pub each_all : (xs : List A) → Each (λ x. p x ≡ true) xs → all p xs ≡ true
    unfolding all
    each_all [] es = refl
    each_all (x ∷ xs) es = and_both (p x) (all p xs) es.0 (each_all xs es.1)

    -- ---- how many pass

    pub count-append : (xs ys : List A) → count p (xs ++ ys) ≡ count p xs + count p ys
    unfolding count
    count-append xs ys = ap length (select-append xs ys) ∙ length-append (select p xs) (select p ys)

    pub count_none : (xs : List A) → Each (λ x. p x ≡ false) xs → count p xs ≡ 0
    unfolding count
    count_none xs es = ap length (select-none xs es)

    few-kept : (b : Bool) (x : A) (xs : List A) → length (cons_if b x xs) ≤ suc (length xs)
    few-kept true x xs = omega arith
    few-kept false x xs = omega arith

    pub select-few : (xs : List A) → length (select p xs) ≤ length xs
    unfolding select
    select-few [] = omega arith
    select-few (x ∷ xs) = omega (arith, few-kept (p x) x (select p xs), select-few xs)

    pub count-cons : (x : A) (xs : List A) → count p (x ∷ xs) ≡ cond (p x) (suc (count p xs)) (count p xs)
    unfolding count select
    count-cons x xs = length-cons_if (p x) x (select p xs)

    pub count-pos : {x : A} {xs : List A} → Memᴰ x xs → p x ≡ true → 0 < count p xs
    unfolding count
    count-pos m h = mem-pos (mem-select m h)

  any-cons_if : (p : A → Bool) (b : Bool) (x : A) (xs : List A) → any p (cons_if b x xs) ≡ (b && p x || any p xs)
  unfolding any
  any-cons_if p true x xs = refl
  any-cons_if p false x xs = refl

  select-cons_if : (p : A → Bool) (b : Bool) (x : A) (xs : List A) → select p (cons_if b x xs) ≡ cons_if (b && p x) x (select p xs)
  unfolding select
  select-cons_if p true x xs = refl
  select-cons_if p false x xs = refl

  -- ---- two tests

  module _ (p q : A → Bool) where
    pub select-ext : (xs : List A) → Each (λ x. p x ≡ q x) xs → select p xs ≡ select q xs
    unfolding select
    select-ext [] es = refl
    select-ext (x ∷ xs) es = ap₂ (λ (b : Bool) (ys : List A). cons_if b x ys) es.0 (select-ext xs es.1)

    -- Two tests that select the same entries agree at each.
    pub select-same : (xs : List A) → select p xs ≡ select q xs → Each (λ x. p x ≡ q x) xs
    select-same xs e =
        mem-each (λ x. p x ≡ q x) xs (λ x k.
        same_test (p x) (q x) (λ h. (select-mem q xs (subst (Memᴰ x) e (mem-select p k h))).1)
        (λ h. (select-mem p xs (subst (Memᴰ x) (sym e) (mem-select q k h))).1))

    pub any-ext : (xs : List A) → Each (λ x. p x ≡ q x) xs → any p xs ≡ any q xs
    unfolding any
    any-ext [] es = refl
    any-ext (x ∷ xs) es = ap₂ ◌||◌ es.0 (any-ext xs es.1)

    pub count-ext : (xs : List A) → Each (λ x. p x ≡ q x) xs → count p xs ≡ count q xs
    unfolding count
    count-ext xs es = ap length (select-ext xs es)

    pub any-or : (xs : List A) → any (λ x. p x || q x) xs ≡ (any p xs || any q xs)
    unfolding any
    any-or [] = refl
    any-or (x ∷ xs) = ap (λ (b : Bool). (p x || q x) || b) (any-or xs) ∙ turn (p x) (q x) (any p xs) (any q xs)
      where
        turn : (a b c e : Bool) → ((a || b) || (c || e)) ≡ ((a || c) || (b || e))
        turn true b c e = refl
        turn false true true e = refl
        turn false true false e = refl
        turn false false c e = refl

    pub any-mono : (xs : List A) → ((x : A) → Memᴰ x xs → p x ≡ true → q x ≡ true) → any p xs ≡ true → any q xs ≡ true
    any-mono xs f h = let w = any-witness p xs h in any-mem q w.1 (f w.0 w.1 w.2)

    pub any-select : (xs : List A) → any p (select q xs) ≡ any (λ x. q x && p x) xs
    unfolding any select
    any-select [] = refl
    any-select (x ∷ xs) = any-cons_if p (q x) x (select q xs) ∙ ap (λ (b : Bool). q x && p x || b) (any-select xs)

    pub select-select : (xs : List A) → select p (select q xs) ≡ select (λ x. q x && p x) xs
    unfolding select
    select-select [] = refl
    select-select (x ∷ xs) = select-cons_if p (q x) x (select q xs) ∙ ap (cons_if (q x && p x) x) (select-select xs)

module _ {A B : Type 0} where
  pub each_map : (Q : B → Type 0) (f : A → B) (xs : List A) → Each (λ x. Q (f x)) xs → Each Q (map f xs)
  each_map Q f [] es = tt
  each_map Q f (x ∷ xs) es = (es.0, each_map Q f xs es.1)

  map-cons_if : (f : A → B) (b : Bool) (x : A) (xs : List A) → map f (cons_if b x xs) ≡ cons_if b (f x) (map f xs)
  map-cons_if f true x xs = refl
  map-cons_if f false x xs = refl

  module _ (p : B → Bool) (f : A → B) where
    pub any-map : (xs : List A) → any p (map f xs) ≡ any (λ x. p (f x)) xs
    unfolding any
    any-map [] = refl
    any-map (x ∷ xs) = ap (λ (b : Bool). p (f x) || b) (any-map xs)

    pub select-map : (xs : List A) → select p (map f xs) ≡ map f (select (λ x. p (f x)) xs)
    unfolding select
    select-map [] = refl
    select-map (x ∷ xs) = ap (cons_if (p (f x)) (f x)) (select-map xs) ∙ sym (map-cons_if f (p (f x)) x (select (λ x. p (f x)) xs))

    pub count_map : (xs : List A) → count p (map f xs) ≡ count (λ x. p (f x)) xs
    unfolding count
    count_map xs = ap length (select-map xs) ∙ length-map (select (λ x. p (f x)) xs) f

-- ---- the first entries, mapped

pub map-take : {A B : Type 0} (f : A → B) (n : ℕ) (xs : List A) → map f (take n xs) ≡ take n (map f xs)
map-take f zero xs = refl
map-take f (suc n) [] = refl
map-take {B = B} f (suc n) (x ∷ xs) = ap (λ (ys : List B). f x ∷ ys) (map-take f n xs)

-- ---- two lists of numbers

pub equal-refl : (ps : List ℕ) → equal ps ps ≡ true
unfolding equal
equal-refl [] = refl
equal-refl (p ∷ ps) = and_both (eqb p p) (equal ps ps) (eq-eqb p p refl) (equal-refl ps)

pub equal-true : (ps qs : List ℕ) → equal ps qs ≡ true → ps ≡ qs
unfolding equal
equal-true [] [] h = refl
equal-true [] (q ∷ qs) h = both_ways h refl
equal-true (p ∷ ps) [] h = both_ways h refl
equal-true (p ∷ ps) (q ∷ qs) h =
    ap₂ ◌∷◌ (eqb-true p q (and_left (eqb p q) (equal ps qs) h)) (equal-true ps qs (and_right (eqb p q) (equal ps qs) h))

-- ---- a test as a number

pub at_most_one : (b : Bool) → cond b 1 0 ≤ 1
at_most_one true = omega arith
at_most_one false = omega arith

-- ---- lists mapped

pub map-drop : {A B : Type 0} (f : A → B) (k : ℕ) (xs : List A) → map f (drop k xs) ≡ drop k (map f xs)
map-drop f zero xs = refl
map-drop f (suc k) [] = refl
map-drop f (suc k) (x ∷ xs) = map-drop f k xs

-- Every part of a list has entries of the list only.
pub parts-each : {A : Type 0} (P : A → Type 0) (k : ℕ) (xs : List A) → Each P xs → Each (λ s. Each P s) (parts k xs)
unfolding parts
parts-each P zero xs es = (tt, tt)
parts-each P (suc k) [] es = tt
parts-each P (suc k) (x ∷ xs) es =
    each_append (λ s. Each P s) (map (λ s. x ∷ s) (parts k xs)) (parts (suc k) xs)
    (each_map (λ s. Each P s) (λ s. x ∷ s) (parts k xs) (each-mono (λ s. Each P s) (λ s. Each P (x ∷ s)) (parts k xs) (λ s h. (es.0, h)) (parts-each P k xs es.1)))
    (parts-each P (suc k) xs es.1)
