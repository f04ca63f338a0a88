-- Loading: "the sorted moves are cut into groups of 8".
use Rattle.std.specs.Prelude.{ℕ, zero, suc, ◌-◌, true, false, cond, List, [], ◌∷◌, ◌++◌, ltb, leb, length, take, drop}
use Rattle.model.specs.Moves.{Move, in_z_order}
use Rattle.model.specs.Tree.{Entry, Tree, empty, rooted}

module _ {A : Type 0} where
  -- Groups of 8, the last of what is left; n groups are enough.
  unfoldable pub eights : ℕ → List A → List (List A)
  eights zero xs = []
  eights (suc n) [] = []
  eights (suc n) (x ∷ xs) = take 8 (x ∷ xs) ∷ eights n (drop 8 (x ∷ xs))

  -- "If the last group has fewer than 3, it takes from the one before until it has 3": the last two groups.
  unfoldable pub evened : List A → List A → List (List A)
  evened xs ys =
      let left = length xs - (3 - length ys) in
      take left xs ∷ (drop left xs ++ ys) ∷ []

  unfoldable pub mended : List (List A) → List (List A)
  mended [] = []
  mended (xs ∷ []) = xs ∷ []
  mended (xs ∷ ys ∷ []) = cond (ltb (length ys) 3) (evened xs ys) (xs ∷ ys ∷ [])
  mended (xs ∷ ys ∷ zs ∷ rest) = xs ∷ mended (ys ∷ zs ∷ rest)

  unfoldable pub cut : List A → List (List A)
  cut xs = mended (eights (length xs) xs)

-- "Eight or fewer form one node. Each level is cut likewise up to the root": n levels more are enough.
unfoldable pub levels : ℕ → (h : ℕ) → List (Entry h) → Tree
levels zero h es = rooted h es
levels (suc n) h es = elim (leb (length es) 8) [ true ↦ rooted h es | false ↦ levels n (suc h) (cut es) ]

unfoldable pub built : List Move → Tree
built [] = empty
built (m ∷ ms) = levels (length ms) 0 (m ∷ ms)

unfoldable pub load_tree : ℕ → List Move → Tree
load_tree d ms = built (in_z_order d ms)
