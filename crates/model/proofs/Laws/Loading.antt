-- Loading: the moves stand in the tree as they were given, and the tree keeps the rules.
use Prim.Native.Nat.{ℕ, zero, suc, ◌+◌, ◌-◌, ◌≤◌, ◌<◌}
use Rattle.std.specs.Prelude.{Bool, ◌≡◌, ltb, drop}
use Rattle.std.proofs.Math.Bool.{true, false}
use Rattle.std.proofs.Math.Path.{refl, sym, ap}
use Rattle.std.proofs.Common.{◌∙◌, subst, leb-true, leb-false, ltb-true, ltb-false}
use mathlib.Core.List.{List, [], ◌∷◌, ◌++◌, map, flat_map, flatten, append_assoc, append-nil}
use Rattle.std.proofs.lemmas.Bool.{not-false}
use native.Mathlib.Omega.{arith}
use Rattle.std.proofs.Math.Dec.{leb}
use Rattle.std.proofs.Math.ListN.{length, take, length-append, length-take, length-drop, take-append-drop}
use Rattle.model.specs.Basics.{Each, distinct, within}
use Rattle.model.specs.Moves.{Move, move_before, in_z_order, ordered}
use Rattle.model.specs.Calls.{size_bad}
use Rattle.model.specs.Tree.{Entry, Tree, rooted, moves_under, moves_of, root_least, filled_tree, ruled}
use Rattle.model.specs.Loading.{eights, evened, mended, cut, levels, built, load_tree}
use Rattle.model.proofs.Laws.Bool.{cond_cases}
use Rattle.model.proofs.Laws.Basics.{each_left, each_right}
use Rattle.model.proofs.Laws.Sorting.{StrictOrder, rising-sort}
use Rattle.model.proofs.Laws.Order.{distinct-once}
use Rattle.model.proofs.Laws.Tree.{within-range, flat_map-flatten, Filled, leaf-moves, leaf-filled, full-filled, full-tree, both-ruled}

module _ {A : Type 0} where
  -- ---- cutting loses nothing

  flatten-eights : (n : ℕ) (xs : List A) → length xs ≤ n → flatten (eights n xs) ≡ xs
  unfolding flatten eights
  flatten-eights zero [] h = refl
  flatten-eights zero (x ∷ xs) h = absurd (omega arith)
  flatten-eights (suc n) [] h = refl
  flatten-eights (suc n) (x ∷ xs) h =
      ap (λ (zs : List A). take 8 (x ∷ xs) ++ zs) (flatten-eights n (drop 8 (x ∷ xs)) (omega (arith, length-drop 8 (x ∷ xs))))
      ∙ take-append-drop 8 (x ∷ xs)

  flatten-evened : (xs ys : List A) → flatten (evened xs ys) ≡ xs ++ ys
  unfolding flatten evened
  flatten-evened xs ys =
      let k = length xs - (3 - length ys) in
      ap (λ (zs : List A). take k xs ++ zs) (append-nil (drop k xs ++ ys))
      ∙ sym (append_assoc (take k xs) (drop k xs) ys)
      ∙ ap (λ (zs : List A). zs ++ ys) (take-append-drop k xs)

  flatten-mended : (gs : List (List A)) → flatten (mended gs) ≡ flatten gs
  unfolding flatten mended
  flatten-mended [] = refl
  flatten-mended (xs ∷ []) = refl
  flatten-mended (xs ∷ ys ∷ []) =
      cond_cases (λ (gs : List (List A)). flatten gs ≡ xs ++ (ys ++ [])) (ltb (length ys) 3)
      (λ e. flatten-evened xs ys ∙ ap (λ (zs : List A). xs ++ zs) (sym (append-nil ys)))
      (λ e. refl)
  flatten-mended (xs ∷ ys ∷ zs ∷ gs) = ap (λ (rest : List A). xs ++ rest) (flatten-mended (ys ∷ zs ∷ gs))

  pub flatten-cut : (xs : List A) → flatten (cut xs) ≡ xs
  unfolding cut
  flatten-cut xs = flatten-mended (eights (length xs) xs) ∙ flatten-eights (length xs) xs (omega arith)

  -- ---- the number of groups

  pub length-mended : (gs : List (List A)) → length (mended gs) ≡ length gs
  unfolding mended evened
  length-mended [] = refl
  length-mended (xs ∷ []) = refl
  length-mended (xs ∷ ys ∷ []) = cond_cases (λ (gs : List (List A)). length gs ≡ 2) (ltb (length ys) 3) (λ e. refl) (λ e. refl)
  length-mended (xs ∷ ys ∷ zs ∷ gs) = ap suc (length-mended (ys ∷ zs ∷ gs))

  eights-most : (n : ℕ) (xs : List A) → length (eights n xs) ≤ length xs
  unfolding eights
  eights-most zero xs = omega arith
  eights-most (suc n) [] = omega arith
  eights-most (suc n) (x ∷ xs) = omega (arith, eights-most n (drop 8 (x ∷ xs)), length-drop 8 (x ∷ xs))

  eights-fewer : (n : ℕ) (xs : List A) → 1 < length xs → length (eights n xs) < length xs
  unfolding eights
  eights-fewer zero xs h = omega arith
  eights-fewer (suc n) [] h = absurd (omega arith)
  eights-fewer (suc n) (x ∷ xs) h = omega (arith, eights-most n (drop 8 (x ∷ xs)), length-drop 8 (x ∷ xs))

  eights-some : (n : ℕ) (xs : List A) → 0 < n → 0 < length xs → 0 < length (eights n xs)
  unfolding eights
  eights-some zero xs h g = absurd (omega arith)
  eights-some (suc n) [] h g = absurd (omega arith)
  eights-some (suc n) (x ∷ xs) h g = omega arith

  eights-two : (n : ℕ) (xs : List A) → 1 < n → 8 < length xs → 1 < length (eights n xs)
  unfolding eights
  eights-two zero xs h g = absurd (omega arith)
  eights-two (suc n) [] h g = absurd (omega arith)
  eights-two (suc n) (x ∷ xs) h g =
      omega (arith, eights-some n (drop 8 (x ∷ xs)) (omega arith) (omega (arith, length-drop 8 (x ∷ xs))))

  module _ (xs : List A) (h : 8 < length xs) where
    pub cut-two : 1 < length (cut xs)
    unfolding cut
    cut-two = omega (arith, length-mended (eights (length xs) xs), eights-two (length xs) xs (omega arith) h)

    pub cut-fewer : length (cut xs) < length xs
    unfolding cut
    cut-fewer = omega (arith, length-mended (eights (length xs) xs), eights-fewer (length xs) xs (omega arith))

  -- ---- the size of each group

  abbrev Sized : List A → Type 0
  Sized xs = (3 ≤ length xs) × (length xs ≤ 8)

  -- All groups have 8, but the last has 1 to 8.
  abbrev Eights : List (List A) → Type 0
  Eights [] = Unit {0}
  Eights (xs ∷ []) = (0 < length xs) × (length xs ≤ 8)
  Eights (xs ∷ ys ∷ gs) = (length xs ≡ 8) × Eights (ys ∷ gs)

  eights-cons : (xs : List A) (gs : List (List A)) → 0 < length xs → length xs ≤ 8 → (0 < length gs → length xs ≡ 8)
      → Eights gs → Eights (xs ∷ gs)
  eights-cons xs [] l m e g = (l, m)
  eights-cons xs (ys ∷ gs) l m e g = (e (omega arith), g)

  eights-eights : (n : ℕ) (xs : List A) → Eights (eights n xs)
  unfolding eights
  eights-eights zero xs = tt
  eights-eights (suc n) [] = tt
  eights-eights (suc n) (x ∷ xs) =
      eights-cons (take 8 (x ∷ xs)) (eights n (drop 8 (x ∷ xs)))
      (omega arith)
      (omega (arith, length-take 8 (x ∷ xs)))
      (λ h. omega (arith, length-take 8 (x ∷ xs), length-drop 8 (x ∷ xs), eights-most n (drop 8 (x ∷ xs))))
      (eights-eights n (drop 8 (x ∷ xs)))

  sized-evened : (xs ys : List A) → length xs ≡ 8 → 0 < length ys → length ys < 3 → Each Sized (evened xs ys)
  unfolding evened
  sized-evened xs ys e l m =
      let k = length xs - (3 - length ys) in (
        (omega (arith, length-take k xs), omega (arith, length-take k xs)),
        ((omega (arith, length-append (drop k xs) ys, length-drop k xs), omega (arith, length-append (drop k xs) ys, length-drop k xs)), tt),
      )

  sized-mended : (gs : List (List A)) → 1 < length gs → Eights gs → Each Sized (mended gs)
  unfolding mended
  sized-mended [] h g = absurd (omega arith)
  sized-mended (xs ∷ []) h g = absurd (omega arith)
  sized-mended (xs ∷ ys ∷ []) h (e, (l, m)) =
      cond_cases (Each Sized) (ltb (length ys) 3)
      (λ t. sized-evened xs ys e l (ltb-true (length ys) 3 t))
      (λ t. ((omega arith, omega arith), ((ltb-false (length ys) 3 t, m), tt)))
  sized-mended (xs ∷ ys ∷ zs ∷ gs) h (e, g) = ((omega arith, omega arith), sized-mended (ys ∷ zs ∷ gs) (omega arith) g)

  pub cut-sized : (xs : List A) → 8 < length xs → Each Sized (cut xs)
  unfolding cut
  cut-sized xs h = sized-mended (eights (length xs) xs) (eights-two (length xs) xs (omega arith) h) (eights-eights (length xs) xs)

-- ---- the levels

module _ (h : ℕ) where
  filled-groups : (gs : List (List (Entry h))) → Each Sized gs → Each (Filled h) (flatten gs) → Each (Filled (suc h)) gs
  unfolding flatten
  filled-groups [] s a = tt
  filled-groups (es ∷ gs) s a = (
    full-filled h es (record { least = s.0.0; most = s.0.1; under = each_left (Filled h) es (flatten gs) a }),
    filled-groups gs s.1 (each_right (Filled h) es (flatten gs) a),
  )

  pub cut-filled : (es : List (Entry h)) → 8 < length es → Each (Filled h) es → Each (Filled (suc h)) (cut es)
  cut-filled es g a = filled-groups (cut es) (cut-sized es g) (subst (Each (Filled h)) (sym (flatten-cut es)) a)

  pub cut-moves : (es : List (Entry h)) → moves_under (suc (suc h)) (cut es) ≡ moves_under (suc h) es
  unfolding moves_under
  cut-moves es = sym (flat_map-flatten (moves_under h) (cut es)) ∙ ap (flat_map (moves_under h)) (flatten-cut es)

module _ (Q : Tree → Type 0) (n h : ℕ) (es : List (Entry h)) where
  levels-cases : (length es ≤ 8 → Q (rooted h es)) → (8 < length es → Q (levels n (suc h) (cut es))) → Q (levels (suc n) h es)
  unfolding levels
  levels-cases f g = step (leb (length es) 8) refl
    where
      step : (b : Bool) → leb (length es) 8 ≡ b → Q (elim b [ true ↦ rooted h es | false ↦ levels n (suc h) (cut es) ])
      step true e = f (leb-true (length es) 8 e)
      step false e = g (leb-false (length es) 8 e)

levels-moves : (n h : ℕ) (es : List (Entry h)) → moves_of (levels n h es) ≡ moves_under (suc h) es
unfolding levels moves_of
levels-moves zero h es = refl
levels-moves (suc n) h es =
    levels-cases (λ (t : Tree). moves_of t ≡ moves_under (suc h) es) n h es
    (λ l. refl)
    (λ g. levels-moves n (suc h) (cut es) ∙ cut-moves h es)

levels-filled : (n h : ℕ) (es : List (Entry h)) → length es ≤ n + 1 → root_least h ≤ length es → Each (Filled h) es
    → filled_tree (levels n h es) ≡ true
unfolding levels root_least
levels-filled zero h es m l a = full-tree h es (record { least = l; most = omega arith; under = a })
levels-filled (suc n) h es m l a =
    levels-cases (λ (t : Tree). filled_tree t ≡ true) n h es
    (λ s. full-tree h es (record { least = l; most = s; under = a }))
    (λ g. levels-filled n (suc h) (cut es) (omega (arith, cut-fewer es g)) (cut-two es g) (cut-filled h es g a))

-- ---- the tree of a load

pub built-moves : (ms : List Move) → moves_of (built ms) ≡ ms
unfolding built moves_of
built-moves [] = refl
built-moves (m ∷ ms) = levels-moves (length ms) 0 (m ∷ ms) ∙ leaf-moves (m ∷ ms)

pub built-filled : (ms : List Move) → filled_tree (built ms) ≡ true
unfolding built filled_tree root_least
built-filled [] = refl
built-filled (m ∷ ms) = levels-filled (length ms) 0 (m ∷ ms) (omega arith) (omega arith) (leaf-filled (m ∷ ms))

pub load_moves : (d : ℕ) (ms : List Move) → moves_of (load_tree d ms) ≡ in_z_order d ms
unfolding load_tree
load_moves d ms = built-moves (in_z_order d ms)

pub load-filled : (d : ℕ) (ms : List Move) → filled_tree (load_tree d ms) ≡ true
unfolding load_tree
load-filled d ms = built-filled (in_z_order d ms)

pub load-ruled : (d : ℕ) (P : Move → Type 0) → StrictOrder P (move_before d) → (ms : List Move) → Each P ms
    → distinct (map (λ m. m.number) ms) ≡ true → ruled d (load_tree d ms) ≡ true
unfolding ordered in_z_order
load-ruled d P o ms q h =
    both-ruled d (load_tree d ms) (load-filled d ms)
    (ap (ordered d) (load_moves d ms) ∙ rising-sort P (move_before d) o ms q (distinct-once (λ m. m.number) ms h))

-- ---- the size of a board

pub size-most : (c : ℕ) → size_bad c ≡ false → c ≤ 4096
unfolding size_bad
size-most c e = (within-range 16 4096 c (not-false (within 16 4096 c) e)).1
