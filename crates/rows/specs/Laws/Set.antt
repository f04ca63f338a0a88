-- A row set, seen as numbers.
use Rattle.std.specs.Prelude.{ℕ, zero, suc, List, [], ◌∷◌, map, ◌≡◌, refl, set}
use Rattle.std.proofs.Common.{ap}

pub map-set : {X Y : Type 0} (f : X → Y) (xs : List X) (i : ℕ) (x : X) → map f (set xs i x) ≡ set (map f xs) i (f x)
map-set f [] i x = refl
map-set f (y ∷ xs) zero x = refl
map-set {Y = Y} f (y ∷ xs) (suc i) x = ap (λ (zs : List Y). f y ∷ zs) (map-set f xs i x)
