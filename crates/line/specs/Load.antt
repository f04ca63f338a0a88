-- Loading: each level is cut into groups by the places of its entries.
use Rattle.std.specs.Prelude.{ℕ, zero, suc, ◌+◌, ◌/◌, ◌%◌, Bool, true, false, cond, ◌&&◌, ◌||◌, List, [], ◌∷◌, map, leb, ltb, eqb, length}
use Rattle.model.specs.Moves.{Move}
use Rattle.line.specs.Line.{Placed}

-- Whether entry j of n starts a group: the first; each eighth that leaves a group of 3; the third from the end where fewer
-- than 3 would be left.
unfoldable pub starts_group : ℕ → ℕ → Bool
starts_group n j =
    eqb j 0
    || (eqb (j % 8) 0 && leb (j + 3) n)
    || (eqb (j + 3) n && ltb 8 n && (eqb (n % 8) 1 || eqb (n % 8) 2))

-- How many groups n entries make.
unfoldable pub group_count : ℕ → ℕ
group_count n = (n + 7) / 8

-- One level: of the rows with height l or more, n in all, the j-th and later, those that start a group are raised to l+1.
unfoldable pub raised : ℕ → ℕ → ℕ → List Placed → List Placed
raised l n j [] = []
raised l n j (r ∷ rs) =
    cond (leb l r.height)
    (record { move = r.move; height = cond (starts_group n j) (suc l) r.height } ∷ raised l n (suc j) rs)
    (r ∷ raised l n j rs)

-- Levels until one group is left.
unfoldable pub raised_all : ℕ → ℕ → ℕ → List Placed → List Placed
raised_all zero l n rs = rs
raised_all (suc f) l n rs =
    elim (leb n 8) [ true ↦ raised l n 0 rs | false ↦ raised_all f (suc l) (group_count n) (raised l n 0 rs) ]

unfoldable pub flat_load : List Move → List Placed
flat_load ms = raised_all (length ms) 0 (length ms) (map (λ m. record { move = m; height = 0 }) ms)
