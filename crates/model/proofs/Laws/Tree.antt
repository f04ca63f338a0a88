-- Laws of the tree's shape: the moves under a node, and how many entries nodes hold.
use Rattle.std.specs.Prelude.{ℕ, zero, suc, ◌≤◌, ◌<◌, Bool, true, false, ◌&&◌, ◌⊎◌, ◌≡◌, leb, length, take, drop}
use Rattle.std.proofs.Common.{⊎_elim, ◌∙◌, subst, arith, leb-true, le-leb, length-append, take-append-drop}
use Rattle.std.proofs.Math.Path.{refl, sym, ap}
use mathlib.Core.List.{List, [], ◌∷◌, ◌++◌, flat_map, flatten, append_assoc, append-nil}
use Rattle.std.proofs.lemmas.Bool.{lt-leb}
use Rattle.model.specs.Basics.{Each, all, within}
use Rattle.model.specs.Moves.{Move, ordered}
use Rattle.model.specs.Tree.{Entry, Tree, rooted, moves_under, moves_of, filled, root_least, filled_tree, ruled}
use Rattle.model.proofs.Laws.Bool.{and_left, and_right, and_both, and-false-right}
use Rattle.model.proofs.Laws.Basics.{all-each, each_all, each_left, each_right}

-- ---- lists put end to end

module _ {A B : Type 0} (f : A → List B) where
  pub flat_map-append : (xs ys : List A) → flat_map f (xs ++ ys) ≡ flat_map f xs ++ flat_map f ys
  unfolding flat_map
  flat_map-append [] ys = refl
  flat_map-append (x ∷ xs) ys =
      ap (λ (zs : List B). f x ++ zs) (flat_map-append xs ys) ∙ sym (append_assoc (f x) (flat_map f xs) (flat_map f ys))

  pub flat_map-flatten : (gs : List (List A)) → flat_map f (flatten gs) ≡ flat_map (flat_map f) gs
  unfolding flat_map flatten
  flat_map-flatten [] = refl
  flat_map-flatten (xs ∷ gs) =
      flat_map-append xs (flatten gs) ∙ ap (λ (zs : List B). flat_map f xs ++ zs) (flat_map-flatten gs)

  pub flat_map-two : (k : ℕ) (xs : List A) → flat_map f (take k xs) ++ (flat_map f (drop k xs) ++ []) ≡ flat_map f xs
  flat_map-two k xs =
      ap (λ (zs : List B). flat_map f (take k xs) ++ zs) (append-nil (flat_map f (drop k xs)))
      ∙ sym (flat_map-append (take k xs) (drop k xs))
      ∙ ap (flat_map f) (take-append-drop k xs)

module _ {A : Type 0} (P : A → Type 0) (k : ℕ) (xs : List A) where
  pub each_take : Each P xs → Each P (take k xs)
  each_take h = each_left P (take k xs) (drop k xs) (subst (Each P) (sym (take-append-drop k xs)) h)

  pub each-drop : Each P xs → Each P (drop k xs)
  each-drop h = each_right P (take k xs) (drop k xs) (subst (Each P) (sym (take-append-drop k xs)) h)

-- ---- numbers of entries

pub within-true : (lo hi n : ℕ) → lo ≤ n → n ≤ hi → within lo hi n ≡ true
unfolding within
within-true lo hi n l h = and_both (leb lo n) (leb n hi) (le-leb lo n l) (le-leb n hi h)

pub within-false : (lo hi n : ℕ) → (n < lo) ⊎ (hi < n) → within lo hi n ≡ false
unfolding within
within-false lo hi n w =
    ⊎_elim (λ h. ap (λ (b : Bool). b && leb n hi) (lt-leb lo n h)) (λ h. and-false-right (leb lo n) (leb n hi) (lt-leb n hi h)) w

pub within-range : (lo hi n : ℕ) → within lo hi n ≡ true → (lo ≤ n) × (n ≤ hi)
unfolding within
within-range lo hi n e = (leb-true lo n (and_left (leb lo n) (leb n hi) e), leb-true n hi (and_right (leb lo n) (leb n hi) e))

abbrev pub Filled : (h : ℕ) → Entry h → Type 0
Filled h e = filled h e ≡ true

-- A node of `lo` entries to 8, filled below.
pub record Full (lo h : ℕ) (es : List (Entry h)) : Type 0 where
  pub least : lo ≤ length es
  pub most : length es ≤ 8
  pub under : Each (Filled h) es

module _ (lo h : ℕ) (es : List (Entry h)) where
  full-test : Full lo h es → (within lo 8 (length es) && all (filled h) es) ≡ true
  full-test f =
      and_both (within lo 8 (length es)) (all (filled h) es) (within-true lo 8 (length es) f.least f.most)
      (each_all (filled h) es f.under)

  test-full : (within lo 8 (length es) && all (filled h) es) ≡ true → Full lo h es
  test-full e =
      let w = within-range lo 8 (length es) (and_left (within lo 8 (length es)) (all (filled h) es) e) in
      record { least = w.0; most = w.1; under = all-each (filled h) es (and_right (within lo 8 (length es)) (all (filled h) es) e) }

module _ (h : ℕ) (es : List (Entry h)) where
  pub full-filled : Full 3 h es → Filled (suc h) es
  unfolding filled
  full-filled = full-test 3 h es

  pub filled-full : Filled (suc h) es → Full 3 h es
  unfolding filled
  filled-full = test-full 3 h es

  pub full-tree : Full (root_least h) h es → filled_tree (rooted h es) ≡ true
  unfolding filled_tree
  full-tree = full-test (root_least h) h es

  pub tree-full : filled_tree (rooted h es) ≡ true → Full (root_least h) h es
  unfolding filled_tree
  tree-full = test-full (root_least h) h es

pub root_least-range : (h : ℕ) → (0 < root_least h) × (root_least h ≤ 2)
unfolding root_least
root_least-range zero = omega arith
root_least-range (suc h) = omega arith

pub moves-append : (h : ℕ) (es fs : List (Entry h)) → moves_under (suc h) (es ++ fs) ≡ moves_under (suc h) es ++ moves_under (suc h) fs
unfolding moves_under
moves-append h = flat_map-append (moves_under h)

-- ---- leaves

pub leaf-moves : (ms : List Move) → moves_under 1 ms ≡ ms
unfolding moves_under flat_map
leaf-moves [] = refl
leaf-moves (m ∷ ms) = ap (λ (ns : List Move). m ∷ ns) (leaf-moves ms)

pub leaf-filled : (ms : List Move) → Each (Filled 0) ms
unfolding filled
leaf-filled [] = tt
leaf-filled (m ∷ ms) = (refl, leaf-filled ms)

-- A filled entry has moves under it.
pub filled-some : (h : ℕ) (e : Entry h) → Filled h e → 0 < length (moves_under h e)
unfolding moves_under flat_map
filled-some zero m f = omega arith
filled-some (suc h) [] f = absurd (omega (arith, (filled-full h [] f).least))
filled-some (suc h) (e ∷ es) f =
    omega (arith, filled-some h e (filled-full h (e ∷ es) f).under.0, length-append (moves_under h e) (flat_map (moves_under h) es))

-- ---- the two rules

module _ (d : ℕ) (t : Tree) where
  pub ruled-filled : ruled d t ≡ true → filled_tree t ≡ true
  unfolding ruled
  ruled-filled = and_left (filled_tree t) (ordered d (moves_of t))

  pub ruled-ordered : ruled d t ≡ true → ordered d (moves_of t) ≡ true
  unfolding ruled
  ruled-ordered = and_right (filled_tree t) (ordered d (moves_of t))

  pub both-ruled : filled_tree t ≡ true → ordered d (moves_of t) ≡ true → ruled d t ≡ true
  unfolding ruled
  both-ruled = and_both (filled_tree t) (ordered d (moves_of t))
