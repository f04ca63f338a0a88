-- Address, order, side and corners of rows depend on their first d costs alone (Card 13).
use Rattle.std.specs.Prelude.{ℕ, List, ◌≡◌, take}
use Rattle.std.proofs.Math.Path.{ap}
use Rattle.std.proofs.Common.{ap₂}
use Rattle.std.proofs.Math.Dec.{ltb, eqb}
use Rattle.zorder.specs.Address.{cost_bits, groups, address, padded}
use Rattle.zorder.specs.Between.{before, same_place, side_of, near_of, far_of}
use Rattle.zorder.specs.Region.{near_corner, far_corner, side}

module _ (d : ℕ) where
  pub address-alike : (p p' : List ℕ) → take d p ≡ take d p' → address d p ≡ address d p'
  unfolding address
  address-alike p p' e = ap (groups cost_bits) e

  module _ (p p' q q' : List ℕ) (e : take d p ≡ take d p') (f : take d q ≡ take d q') where
    by-addresses : {A : Type 0} (g : ℕ → ℕ → A) → g (address d p) (address d q) ≡ g (address d p') (address d q')
    by-addresses g = ap₂ g (address-alike p p' e) (address-alike q q' f)

    pub before-alike : before d p q ≡ before d p' q'
    unfolding before
    before-alike = by-addresses ltb

    pub same-place-alike : same_place d p q ≡ same_place d p' q'
    unfolding same_place
    same-place-alike = by-addresses eqb

    pub side-alike : side_of d p q ≡ side_of d p' q'
    unfolding side_of
    side-alike = by-addresses (side d)

    pub near-alike : near_of d p q ≡ near_of d p' q'
    unfolding near_of
    near-alike = by-addresses (λ (a b : ℕ). padded d (near_corner d a b))

    pub far-alike : far_of d p q ≡ far_of d p' q'
    unfolding far_of
    far-alike = by-addresses (λ (a b : ℕ). padded d (far_corner d a b))
