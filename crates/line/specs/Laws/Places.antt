-- Places of lines put end to end: what lies left of a seam is found by the left part alone, what lies right of it by the
-- right part alone, and a node is found whole between the two.
use Prim.Native.Nat.{ℕ, zero, suc, ◌+◌, ◌-◌, ◌≤◌, ◌<◌}
use Rattle.std.specs.Prelude.{Bool, true, false, ◌⊎◌, ◌≡◌, leb, length, take}
use Rattle.std.proofs.Math.Bool.{cond}
use Rattle.std.proofs.Math.Logic.{inl, inr}
use Rattle.std.proofs.Math.Path.{refl, sym, ap, ap₂, subst}
use Rattle.std.proofs.Common.{◌∙◌, add-zero, add-suc, suc-add, zero-add, arith, length-set, get_or-drop, get_or-append-add, take_at, drop_at}
use mathlib.Core.List.{List, [], ◌∷◌, ◌++◌, append_assoc}
use Rattle.std.proofs.Math.Nat.{add-sub_cancel_left}
use borrow.Author.Tests.{leb-true, le-leb, lt-leb}
use Rattle.std.proofs.Math.ListN.{get_or, drop, set, length-drop, get_or-map, get_or-append}
use Rattle.std.proofs.lemmas.List.{length-map, take-append-le, drop-append-le}
use Rattle.std.proofs.Math.Seq.{get_or-append_seam, take-append-add, drop-append-add, set-append_left, set-append_seam}
use Rattle.model.specs.Basics.{count}
use Rattle.model.specs.Moves.{Move}
use Rattle.model.proofs.Laws.Bool.{test_cases, cond_cases}
use Rattle.model.proofs.Laws.Basics.{each-mono, count_none, count_map}
use Rattle.line.specs.Line.{Placed, none, heights_in}
use Rattle.line.specs.Laws.Line.{row, Low}
use Rattle.line.specs.Places.{lower_among, start_among, end_among, entries_among, entry_among, move_at, height_at, lower, node_start, node_end, entries, set_height, insert_at}

-- Nothing follows, or a row with height l or more.
abbrev pub FirstAtLeast : ℕ → List Placed → Type 0
FirstAtLeast l [] = Unit {0}
FirstAtLeast l (r ∷ rs) = l ≤ r.height

pub starts-lower : (l m : ℕ) (rs : List Placed) → l ≤ m → FirstAtLeast m rs → FirstAtLeast l rs
starts-lower l m [] h s = tt
starts-lower l m (r ∷ rs) h s = omega arith

-- ---- heights of rows

abbrev pub at_least : ℕ → Placed → Bool
at_least l r = leb l r.height

pub height-among : (rs : List Placed) (i : ℕ) → get_or (heights_in rs) i 0 ≡ height_at rs i
unfolding heights_in height_at
height-among rs i = get_or-map (λ (r : Placed). r.height) rs i none

pub length-heights : (rs : List Placed) → length (heights_in rs) ≡ length rs
unfolding heights_in
length-heights rs = length-map rs (λ r. r.height)

heights-drop : (i : ℕ) (rs : List Placed) → drop i (heights_in rs) ≡ heights_in (drop i rs)
unfolding heights_in
heights-drop zero rs = refl
heights-drop (suc i) [] = refl
heights-drop (suc i) (r ∷ rs) = heights-drop i rs

heights-take : (i : ℕ) (rs : List Placed) → take i (heights_in rs) ≡ heights_in (take i rs)
unfolding heights_in
heights-take zero rs = refl
heights-take (suc i) [] = refl
heights-take (suc i) (r ∷ rs) = ap (λ (ks : List ℕ). r.height ∷ ks) (heights-take i rs)

-- The definitions, over rows.
pub end-rows : (l p : ℕ) (rs : List Placed) → node_end l p rs ≡ suc p + lower l (drop (suc p) rs)
unfolding end_among
end-rows l p rs = ap (λ (ks : List ℕ). suc p + lower_among l ks) (heights-drop (suc p) rs)

start-rows : (l p : ℕ) (rs : List Placed) → node_start l (suc p) rs ≡ cond (leb l (height_at rs (suc p))) (suc p) (node_start l p rs)
unfolding start_among
start-rows l p rs = ap (λ (k : ℕ). cond (leb l k) (suc p) (node_start l p rs)) (height-among rs (suc p))

pub entries-rows : (l s e : ℕ) (rs : List Placed) → entries l s e rs ≡ count (at_least l) (take (e - s) (drop s rs))
unfolding entries_among heights_in
entries-rows l s e rs =
    ap (λ (ks : List ℕ). count (leb l) (take (e - s) ks)) (heights-drop s rs)
    ∙ ap (count (leb l)) (heights-take (e - s) (drop s rs))
    ∙ count_map (leb l) (λ (r : Placed). r.height) (take (e - s) (drop s rs))

-- ---- rows

module _ (xs ys : List Placed) where
  pub height-left : (i : ℕ) → i < length xs → height_at (xs ++ ys) i ≡ height_at xs i
  unfolding height_at
  height-left i h = ap (λ (r : Placed). r.height) (get_or-append xs ys none i h)

  pub height-right : (i : ℕ) → height_at (xs ++ ys) (length xs + i) ≡ height_at ys i
  unfolding height_at
  height-right i = ap (λ (r : Placed). r.height) (get_or-append-add xs ys i none)

  pub move-left : (i : ℕ) → i < length xs → move_at (xs ++ ys) i ≡ move_at xs i
  unfolding move_at
  move-left i h = ap (λ (r : Placed). r.move) (get_or-append xs ys none i h)

  pub move-right : (i : ℕ) → move_at (xs ++ ys) (length xs + i) ≡ move_at ys i
  unfolding move_at
  move-right i = ap (λ (r : Placed). r.move) (get_or-append-add xs ys i none)

  pub insert-left : (i : ℕ) (r : Placed) → i ≤ length xs → insert_at i r (xs ++ ys) ≡ insert_at i r xs ++ ys
  unfolding insert_at
  insert-left i r h =
      ap₂ (λ (us vs : List Placed). us ++ r ∷ vs) (take-append-le i xs ys h) (drop-append-le i xs ys h)
      ∙ sym (append_assoc (take i xs) (r ∷ drop i xs) ys)

  pub insert-right : (i : ℕ) (r : Placed) → insert_at (length xs + i) r (xs ++ ys) ≡ xs ++ insert_at i r ys
  unfolding insert_at
  insert-right i r =
      ap₂ (λ (us vs : List Placed). us ++ r ∷ vs) (take-append-add xs ys i) (drop-append-add xs ys i)
      ∙ append_assoc xs (take i ys) (r ∷ drop i ys)

  pub insert_seam : (r : Placed) → insert_at (length xs) r (xs ++ ys) ≡ xs ++ r ∷ ys
  unfolding insert_at
  insert_seam r =
      ap₂ (λ (us vs : List Placed). us ++ r ∷ vs) (take_at xs ys (length xs) refl) (drop_at xs ys (length xs) refl)

  pub set-left : (i k : ℕ) → i < length xs → set_height i k (xs ++ ys) ≡ set_height i k xs ++ ys
  unfolding set_height
  set-left i k h =
      set-append_left xs ys i (record { move = move_at (xs ++ ys) i; height = k }) h
      ∙ ap (λ (m : Move). set xs i (row m k) ++ ys) (move-left i h)

pub length-set_height : (i k : ℕ) (rs : List Placed) → length (set_height i k rs) ≡ length rs
unfolding set_height
length-set_height i k rs = length-set rs i (row (move_at rs i) k)

set-append-add : (xs ys : List Placed) (i : ℕ) (r : Placed) → set (xs ++ ys) (length xs + i) r ≡ xs ++ set ys i r
set-append-add [] ys i r = ap (λ (j : ℕ). set ys j r) (zero-add i)
set-append-add (x ∷ xs) ys i r =
    ap (λ (j : ℕ). set (x ∷ (xs ++ ys)) j r) (suc-add (length xs) i) ∙ ap (λ (zs : List Placed). x ∷ zs) (set-append-add xs ys i r)

module _ (xs ys : List Placed) where
  pub set-right : (i k : ℕ) → set_height (length xs + i) k (xs ++ ys) ≡ xs ++ set_height i k ys
  unfolding set_height
  set-right i k =
      set-append-add xs ys i (record { move = move_at (xs ++ ys) (length xs + i); height = k })
      ∙ ap (λ (m : Move). xs ++ set ys i (row m k)) (move-right xs ys i)

  move-seam : (r : Placed) → move_at (xs ++ r ∷ ys) (length xs) ≡ r.move
  unfolding move_at
  move-seam r = ap (λ (s : Placed). s.move) (get_or-append_seam xs r ys none)

  pub height-seam : (r : Placed) → height_at (xs ++ r ∷ ys) (length xs) ≡ r.height
  unfolding height_at
  height-seam r = ap (λ (s : Placed). s.height) (get_or-append_seam xs r ys none)

  pub set-seam : (r : Placed) (k : ℕ) → set_height (length xs) k (xs ++ r ∷ ys) ≡ xs ++ row r.move k ∷ ys
  unfolding set_height
  set-seam r k =
      set-append_seam xs r ys (record { move = move_at (xs ++ r ∷ ys) (length xs); height = k })
      ∙ ap (λ (m : Move). xs ++ row m k ∷ ys) (move-seam r)

-- ---- lower

pub lower-low : (l : ℕ) (xs ys : List Placed) → Low l xs → FirstAtLeast l ys → lower l (xs ++ ys) ≡ length xs
unfolding lower_among heights_in
lower-low l [] [] low s = refl
lower-low l [] (y ∷ ys) low s = ap (λ (b : Bool). cond b 0 (suc (lower l ys))) (le-leb l y.height s)
lower-low l (x ∷ xs) ys low s =
    ap (λ (b : Bool). cond b 0 (suc (lower l (xs ++ ys)))) (lt-leb l x.height low.0)
    ∙ ap suc (lower-low l xs ys low.1 s)

pub lower-left : (l : ℕ) (xs ys : List Placed) → FirstAtLeast l ys → lower l (xs ++ ys) ≡ lower l xs
unfolding lower_among heights_in
lower-left l [] ys s = lower-low l [] ys tt s
lower-left l (x ∷ xs) ys s = ap (λ (n : ℕ). cond (leb l x.height) 0 (suc n)) (lower-left l xs ys s)

pub lower-le : (l : ℕ) (rs : List Placed) → lower l rs ≤ length rs
unfolding lower_among heights_in
lower-le l [] = omega arith
lower-le l (r ∷ rs) =
    cond_cases (λ (n : ℕ). n ≤ suc (length rs)) (leb l r.height) (λ t. omega arith) (λ t. omega (arith, lower-le l rs))

-- ---- where a node starts

pub start-le : (l p : ℕ) (ks : List ℕ) → start_among l p ks ≤ p
unfolding start_among
start-le l zero ks = omega arith
start-le l (suc p) ks =
    cond_cases (λ (n : ℕ). n ≤ suc p) (leb l (get_or ks (suc p) 0)) (λ t. omega arith) (λ t. omega (arith, start-le l p ks))

pub low-at : (l : ℕ) (xs : List Placed) (i : ℕ) → Low l xs → i < length xs → height_at xs i < l
unfolding height_at
low-at l [] i low h = omega arith
low-at l (x ∷ xs) zero low h = low.0
low-at l (x ∷ xs) (suc i) low h = low-at l xs i low.1 (omega arith)

pub start_left : (l : ℕ) (xs ys : List Placed) (p : ℕ) → p < length xs → node_start l p (xs ++ ys) ≡ node_start l p xs
unfolding start_among
start_left l xs ys zero h = refl
start_left l xs ys (suc p) h =
    start-rows l p (xs ++ ys)
    ∙ ap₂ (λ (n m : ℕ). cond (leb l n) (suc p) m) (height-left xs ys (suc p) h) (start_left l xs ys p (omega arith))
    ∙ sym (start-rows l p xs)

start-seam : (l : ℕ) (xs : List Placed) (y : Placed) (ys : List Placed) → l ≤ y.height → node_start l (length xs) (xs ++ y ∷ ys) ≡ length xs
unfolding start_among
start-seam l [] y ys h = refl
start-seam l (x ∷ xs) y ys h =
    start-rows l (length xs) (x ∷ (xs ++ y ∷ ys))
    ∙ ap (λ (b : Bool). cond b (suc (length xs)) (node_start l (length xs) (x ∷ (xs ++ y ∷ ys))))
    (ap (leb l) (height-seam (x ∷ xs) ys y) ∙ le-leb l y.height h)

cond-add : (b : Bool) (n m k : ℕ) → cond b (suc (n + m)) (n + k) ≡ n + cond b (suc m) k
cond-add true n m k = sym (add-suc n m)
cond-add false n m k = refl

pub start_right : (l : ℕ) (xs : List Placed) (y : Placed) (ys : List Placed) (q : ℕ) → l ≤ y.height
    → node_start l (length xs + q) (xs ++ y ∷ ys) ≡ length xs + node_start l q (y ∷ ys)
unfolding start_among
start_right l xs y ys zero h =
    ap (λ (i : ℕ). node_start l i (xs ++ y ∷ ys)) (add-zero (length xs)) ∙ start-seam l xs y ys h ∙ sym (add-zero (length xs))
start_right l xs y ys (suc q) h =
    ap (λ (i : ℕ). node_start l i (xs ++ y ∷ ys)) (add-suc (length xs) q)
    ∙ start-rows l (length xs + q) (xs ++ y ∷ ys)
    ∙ ap₂ (λ (n m : ℕ). cond (leb l n) (suc (length xs + q)) m)
    (ap (height_at (xs ++ y ∷ ys)) (sym (add-suc (length xs) q)) ∙ height-right xs (y ∷ ys) (suc q))
    (start_right l xs y ys q h)
    ∙ cond-add (leb l (height_at (y ∷ ys) (suc q))) (length xs) q (node_start l q (y ∷ ys))
    ∙ ap (λ (n : ℕ). length xs + n) (sym (start-rows l q (y ∷ ys)))

pub start-low : (l : ℕ) (r : Placed) (rs : List Placed) (q : ℕ) → Low l rs → q ≤ length rs → node_start l q (r ∷ rs) ≡ 0
unfolding start_among height_at
start-low l r rs zero low h = refl
start-low l r rs (suc q) low h =
    start-rows l q (r ∷ rs)
    ∙ ap (λ (b : Bool). cond b (suc q) (node_start l q (r ∷ rs))) (lt-leb l (height_at (r ∷ rs) (suc q)) (low-at l rs q low h))
    ∙ start-low l r rs q low (omega arith)

-- ---- where it ends

pub end-le : (l p : ℕ) (rs : List Placed) → p < length rs → node_end l p rs ≤ length rs
end-le l p rs h = omega (arith, end-rows l p rs, lower-le l (drop (suc p) rs), length-drop (suc p) rs)

pub end-past : (l p : ℕ) (ks : List ℕ) → p < end_among l p ks
unfolding end_among
end-past l p ks = omega arith

pub end-right : (l : ℕ) (xs ys : List Placed) (q : ℕ) → node_end l (length xs + q) (xs ++ ys) ≡ length xs + node_end l q ys
end-right l xs ys q =
    end-rows l (length xs + q) (xs ++ ys)
    ∙ ap (λ (zs : List Placed). suc (length xs + q) + lower l zs)
    (ap (λ (i : ℕ). drop i (xs ++ ys)) (sym (add-suc (length xs) q)) ∙ drop-append-add xs ys (suc q))
    ∙ (omega (arith, end-rows l q ys))

pub end-left : (l : ℕ) (xs ys : List Placed) (q : ℕ) → FirstAtLeast l ys → q < length xs → node_end l q (xs ++ ys) ≡ node_end l q xs
end-left l xs ys q s h =
    end-rows l q (xs ++ ys)
    ∙ ap (λ (n : ℕ). suc q + n) (ap (lower l) (drop-append-le (suc q) xs ys h) ∙ lower-left l (drop (suc q) xs) ys s)
    ∙ sym (end-rows l q xs)

pub low-drop : (l : ℕ) (xs : List Placed) (i : ℕ) → Low l xs → Low l (drop i xs)
low-drop l xs zero low = low
low-drop l [] (suc i) low = tt
low-drop l (x ∷ xs) (suc i) low = low-drop l xs i low.1

pub end_low : (l : ℕ) (r : Placed) (rs ys : List Placed) (q : ℕ) → Low l rs → FirstAtLeast l ys → q ≤ length rs
    → node_end l q (r ∷ rs ++ ys) ≡ suc (length rs)
end_low l r rs ys q low s h =
    end-rows l q (r ∷ rs ++ ys)
    ∙ ap (λ (n : ℕ). suc q + n)
    (ap (lower l) (drop-append-le q rs ys h) ∙ lower-low l (drop q rs) ys (low-drop l rs q low) s ∙ length-drop q rs)
    ∙ (omega arith)

-- A node between the rows before and after it.
module _ (l : ℕ) (xs : List Placed) (r : Placed) (rs ys : List Placed) (q : ℕ) (low : Low l rs) (h : q ≤ length rs) where
  pub node-start : l ≤ r.height → node_start l (length xs + q) (xs ++ (r ∷ rs ++ ys)) ≡ length xs
  node-start top =
      start_right l xs r (rs ++ ys) q top
      ∙ ap (λ (n : ℕ). length xs + n) (start_left l (r ∷ rs) ys q (omega arith) ∙ start-low l r rs q low h)
      ∙ add-zero (length xs)

  pub node-end : FirstAtLeast l ys → node_end l (length xs + q) (xs ++ (r ∷ rs ++ ys)) ≡ length xs + suc (length rs)
  node-end s = end-right l xs (r ∷ rs ++ ys) q ∙ ap (λ (n : ℕ). length xs + n) (end_low l r rs ys q low s h)

-- ---- its entries

pub count_low : (l : ℕ) (xs : List Placed) → Low l xs → count (at_least l) xs ≡ 0
count_low l xs low =
    count_none (at_least l) xs (each-mono (λ r. r.height < l) (λ r. leb l r.height ≡ false) xs (λ r. lt-leb l r.height) low)

pub entries_between : (l : ℕ) (xs zs ys : List Placed) → entries l (length xs) (length xs + length zs) (xs ++ (zs ++ ys)) ≡ count (at_least l) zs
entries_between l xs zs ys =
    entries-rows l (length xs) (length xs + length zs) (xs ++ (zs ++ ys))
    ∙ ap (count (at_least l))
    (ap₂ take (add-sub_cancel_left (length xs) (length zs)) (drop_at xs (zs ++ ys) (length xs) refl) ∙ take_at zs ys (length zs) refl)

pub entry_next : (l s j : ℕ) (ks : List ℕ) → entry_among l s (suc j) ks ≡ entry_among l (end_among l s ks) j ks
unfolding entry_among
entry_next l s zero ks = refl
entry_next l s (suc j) ks = ap (λ (p : ℕ). end_among l p ks) (entry_next l s j ks)

-- ---- heights where nodes start

module _ (l : ℕ) where
  -- The height after the lower ones is l or more; so is the one where a node starts, but the first, and where one ends.
  lower_high : (ks : List ℕ) → lower_among l ks < length ks → l ≤ get_or ks (lower_among l ks) 0
  unfolding lower_among
  lower_high [] = λ h. absurd (omega arith)
  lower_high (k ∷ ks) =
      test_cases (λ b. cond b 0 (suc (lower_among l ks)) < suc (length ks) → l ≤ get_or (k ∷ ks) (cond b 0 (suc (lower_among l ks))) 0) (leb l k)
      (λ e h. leb-true l k e)
      (λ e h. lower_high ks (omega arith))

  module _ (ks : List ℕ) where
    pub start-high : (p : ℕ) → (start_among l p ks ≡ 0) ⊎ (l ≤ get_or ks (start_among l p ks) 0)
    unfolding start_among
    start-high zero = inl refl
    start-high (suc p) =
        cond_cases (λ (s : ℕ). (s ≡ 0) ⊎ (l ≤ get_or ks s 0)) (leb l (get_or ks (suc p) 0))
        (λ e. inr (leb-true l (get_or ks (suc p) 0) e))
        (λ e. start-high p)

    pub end-high : (p : ℕ) → end_among l p ks < length ks → l ≤ get_or ks (end_among l p ks) 0
    unfolding end_among
    end-high p h =
        subst (λ (k : ℕ). l ≤ k) (get_or-drop (suc p) ks (lower_among l (drop (suc p) ks)) 0)
        (lower_high (drop (suc p) ks) (omega (arith, length-drop (suc p) ks)))
