-- What each public call promises, for every argument.
use Rattle.std.specs.Prelude.{ℕ, ◌≡◌, List, Result, Ok, Err, IfOk}
use Rattle.zorder.specs.Address.{address, costs_of, padded}
use Rattle.zorder.specs.Region.{near_corner, far_corner, side}
use Rattle.zorder.specs.Words.{words_of}
use Rattle.zorder.specs.Refusal.{address_refusal, costs_refusal, region_refusal}
use Rattle.zorder.specs.declared.refusal.Refusal.{Refusal}
use Rattle.zorder.specs.declared.refusal.Refusal.TheVariants.{BadCostCount, BadArgument}
use Rattle.zorder.specs.declared.AddressWords.{AddressWords}
use Rattle.zorder.specs.declared.Square.{Square}

-- Document 01's number for each refusal.
abbrev pub refusal_number : Refusal → ℕ
refusal_number BadCostCount = 2
refusal_number BadArgument = 7

-- The number of a call: "0 accepted".
unfoldable pub number_of : {T : Type 0} → Result T Refusal → ℕ
number_of (Ok told) = 0
number_of (Err e) = refusal_number e

-- Its detail: "zero where nothing else is said".
unfoldable pub detail_of : {T : Type 0} → Result T Refusal → ℕ
detail_of (Ok told) = 0
detail_of (Err e) = 0

-- "Address from costs"
pub record AddressPromise (d : ℕ) (costs : List ℕ) (r : Result AddressWords Refusal) : Type 0 where
  pub number : number_of r ≡ address_refusal d costs
  pub detail : detail_of r ≡ 0
  pub address : IfOk r (λ a. a ≡ words_of (address d costs))

-- "Costs from address"
pub record CostsPromise (d a : ℕ) (r : Result (List ℕ) Refusal) : Type 0 where
  pub number : number_of r ≡ costs_refusal d a
  pub detail : detail_of r ≡ 0
  pub costs : IfOk r (λ cs. cs ≡ padded d (costs_of d a))

-- The square of a region.
pub record RegionTold (d a b : ℕ) (told : Square) : Type 0 where
  pub near : told.near ≡ padded d (near_corner d a b)
  pub far : told.far ≡ padded d (far_corner d a b)
  pub side : told.side ≡ side d a b

-- "Region"
pub record RegionPromise (d a b : ℕ) (r : Result Square Refusal) : Type 0 where
  pub number : number_of r ≡ region_refusal d a b
  pub detail : detail_of r ≡ 0
  pub region : IfOk r (RegionTold d a b)
