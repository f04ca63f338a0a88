-- Lists, as the definitions use them.
use Rattle.std.specs.Prelude.{ℕ, zero, suc, Bool, true, false, cond, not, ◌&&◌, ◌||◌, List, [], ◌∷◌, ◌++◌, map, length}
use lib.Dec.{eqb}

module _ {A : Type 0} where
  -- Every entry has a property.
  abbrev pub Each : (A → Type 0) → List A → Type 0
  Each P [] = Unit {0}
  Each P (x ∷ xs) = P x × Each P xs

  abbrev pub cons_if : Bool → A → List A → List A
  cons_if true x xs = x ∷ xs
  cons_if false x xs = xs

  -- The entries that pass a test, in their order.
  unfoldable pub select : (A → Bool) → List A → List A
  select p [] = []
  select p (x ∷ xs) = cons_if (p x) x (select p xs)

  unfoldable pub any : (A → Bool) → List A → Bool
  any p [] = false
  any p (x ∷ xs) = p x || any p xs

  unfoldable pub all : (A → Bool) → List A → Bool
  all p [] = true
  all p (x ∷ xs) = p x && all p xs

  -- How many entries pass a test.
  unfoldable pub count : (A → Bool) → List A → ℕ
  count p xs = length (select p xs)

  -- An entry put before the first that it comes before, and a list put in order so.
  unfoldable pub insert_by : (A → A → Bool) → A → List A → List A
  insert_by lt x [] = x ∷ []
  insert_by lt x (y ∷ ys) = cond (lt x y) (x ∷ y ∷ ys) (y ∷ insert_by lt x ys)

  unfoldable pub sort_by : (A → A → Bool) → List A → List A
  sort_by lt [] = []
  sort_by lt (x ∷ xs) = insert_by lt x (sort_by lt xs)

  -- Each entry comes before the next.
  unfoldable pub rising : (A → A → Bool) → List A → Bool
  rising lt [] = true
  rising lt (x ∷ []) = true
  rising lt (x ∷ y ∷ ys) = lt x y && rising lt (y ∷ ys)

  -- The first and the last entry, or the given one where there is none.
  unfoldable pub first_or : A → List A → A
  first_or z [] = z
  first_or z (x ∷ xs) = x

  unfoldable pub last_or : A → List A → A
  last_or z [] = z
  last_or z (x ∷ xs) = last_or x xs

  -- Every part of a list that has k entries, in the list's order.
  unfoldable pub parts : ℕ → List A → List (List A)
  parts zero xs = [] ∷ []
  parts (suc k) [] = []
  parts (suc k) (x ∷ xs) = map (λ ys. x ∷ ys) (parts k xs) ++ parts (suc k) xs

-- n, n+1, .., k numbers in all.
unfoldable pub numbers_from : ℕ → ℕ → List ℕ
numbers_from n zero = []
numbers_from n (suc k) = n ∷ numbers_from (suc n) k

unfoldable pub within : ℕ → ℕ → ℕ → Bool
within lo hi n = lib.Dec.leb lo n && lib.Dec.leb n hi

unfoldable pub has : ℕ → List ℕ → Bool
has n ns = any (eqb n) ns

-- No number stands twice.
unfoldable pub distinct : List ℕ → Bool
distinct [] = true
distinct (n ∷ ns) = not (has n ns) && distinct ns

unfoldable pub equal : List ℕ → List ℕ → Bool
equal [] [] = true
equal [] (q ∷ qs) = false
equal (p ∷ ps) [] = false
equal (p ∷ ps) (q ∷ qs) = eqb p q && equal ps qs
