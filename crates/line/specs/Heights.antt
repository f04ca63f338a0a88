-- Which heights are those of a tree that keeps document 01's rules, tested level by level.
use Rattle.std.specs.Prelude.{ℕ, zero, suc, ◌-◌, Bool, true, cond, ◌&&◌, List, [], ◌∷◌, leb, ltb}
use Rattle.model.specs.Basics.{all, within}

-- The first is higher than every other.
unfoldable pub first_highest : List ℕ → Bool
first_highest [] = true
first_highest (k ∷ ks) = ltb 0 k && all (λ j. ltb j k) ks

-- Every node at level l has lo to 8 entries; the node at hand has had n so far.
unfoldable pub counts_from : ℕ → ℕ → ℕ → List ℕ → Bool
counts_from l lo n [] = within lo 8 n
counts_from l lo n (k ∷ ks) =
    cond (leb l k) (within lo 8 n && counts_from l lo 1 ks)
    (cond (leb (l - 1) k) (counts_from l lo (suc n) ks) (counts_from l lo n ks))

-- From the first on, which starts the first node.
unfoldable pub counts_at : ℕ → ℕ → List ℕ → Bool
counts_at l lo [] = true
counts_at l lo (k ∷ ks) = counts_from l lo 1 ks

-- The least number of entries of the root at level l: 1 of a leaf, 2 of an upper root.
unfoldable pub root_count : ℕ → ℕ
root_count zero = 0
root_count (suc zero) = 1
root_count (suc (suc l)) = 2

-- Levels l down to 1, the root's first.
unfoldable pub levels_right : ℕ → ℕ → List ℕ → Bool
levels_right top zero ks = true
levels_right top (suc l) ks = counts_at (suc l) (cond (leb top (suc l)) (root_count (suc l)) 3) ks && levels_right top l ks

unfoldable pub heights_right : List ℕ → Bool
heights_right [] = true
heights_right (k ∷ ks) = first_highest (k ∷ ks) && levels_right k k (k ∷ ks)
