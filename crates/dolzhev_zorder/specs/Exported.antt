-- The exported answers: what `zorder` promises, and zero where it refuses ("A refused call's counts, addresses and corners are
-- zero.").
use Rattle.std.specs.Prelude.{ℕ, List, ◌≡◌}
use Rattle.zorder.specs.Address.{address, costs_of, padded}
use Rattle.zorder.specs.Refusal.{or_zero, or_zeros, address_refusal, costs_refusal, region_refusal}
use Rattle.zorder.specs.Region.{near_corner, far_corner, side}
use Rattle.zorder.specs.Words.{value, words_of}
use Rattle.zorder.specs.declared.AddressWords.{AddressWords}
use Rattle.dolzhev_zorder.specs.declared.AddressAnswer.{AddressAnswer}
use Rattle.dolzhev_zorder.specs.declared.CostsAnswer.{CostsAnswer}
use Rattle.dolzhev_zorder.specs.declared.RegionAnswer.{RegionAnswer}

pub record AddressExported (d : ℕ) (costs : List ℕ) (r : AddressAnswer) : Type 0 where
  pub refusal : r.refusal ≡ address_refusal d costs
  pub detail : r.detail ≡ 0
  pub address : r.address ≡ words_of (or_zero (address_refusal d costs) (address d costs))

pub record CostsExported (d : ℕ) (a : AddressWords) (r : CostsAnswer) : Type 0 where
  pub refusal : r.refusal ≡ costs_refusal d (value a)
  pub detail : r.detail ≡ 0
  pub costs : r.costs.costs ≡ or_zeros (costs_refusal d (value a)) (padded d (costs_of d (value a)))

pub record RegionExported (d : ℕ) (a b : AddressWords) (r : RegionAnswer) : Type 0 where
  pub refusal : r.refusal ≡ region_refusal d (value a) (value b)
  pub detail : r.detail ≡ 0
  pub near : r.near.costs ≡ or_zeros (region_refusal d (value a) (value b)) (padded d (near_corner d (value a) (value b)))
  pub far : r.far.costs ≡ or_zeros (region_refusal d (value a) (value b)) (padded d (far_corner d (value a) (value b)))
  pub side : r.side ≡ or_zero (region_refusal d (value a) (value b)) (side d (value a) (value b))
