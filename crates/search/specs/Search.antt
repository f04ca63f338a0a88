-- What the search over places finds.
use Rattle.std.specs.Prelude.{ℕ, ◌-◌, ◌/◌, ◌%◌, ◌^◌, ◌≤◌, ◌<◌, Bool, true, false, not, ◌&&◌, List, [], ◌≡◌, eqb, length, get_or, Option, unwrap_or, IfSome}
use Rattle.zorder.specs.Address.{row_costs}
use Rattle.model.specs.Dominance.{nowhere_greater}
use Rattle.dominance.specs.Lanes.{bound, is_first}
use Rattle.promises.specs.Layout.{number_in, block_in, costs_in, tab}
use Rattle.memory.specs.Tests.{is_flagged}
use Rattle.search.specs.declared.search.Among.{Among}
use Rattle.search.specs.declared.search.Among.TheVariants.{All, Listed, Hidden, InBlocks}
use Rattle.memory.specs.declared.head.Head.{Head}

-- Whether the block of a number is one of a set, whose bit k stands for block k.
unfoldable pub in_blocks : ℕ → ℕ → List ℕ → ℕ → Bool
in_blocks blocks c m k = eqb (blocks / 2 ^ (block_in c m k % 64) % 2) 1

-- Whether a search looks at the move of a number, and at the one at place i.
unfoldable pub looks : Among → ℕ → List ℕ → ℕ → Bool
looks All c m k = true
looks Listed c m k = is_flagged c m k
looks Hidden c m k = not (is_flagged c m k)
looks (InBlocks blocks) c m k = in_blocks blocks c m k

unfoldable pub looks_at : Among → ℕ → List ℕ → ℕ → Bool
looks_at a c m i = looks a c m (number_in c m i)

-- Costs as a search sees them, and those at place i.
unfoldable pub seen : Among → List ℕ → List ℕ
seen All costs = costs
seen Listed costs = costs
seen Hidden costs = tab (λ i. 65535 - get_or costs i 0) row_costs
seen (InBlocks blocks) costs = costs

unfoldable pub seen_at : Among → ℕ → List ℕ → ℕ → List ℕ
seen_at a c m i = seen a (costs_in c row_costs m (number_in c m i))

-- What a move before place i that hides the one there is nowhere greater than.
unfoldable pub bounds_at : ℕ → ℕ → List ℕ → ℕ → List ℕ
bounds_at c d m i = tab (bound (is_first d) (seen_at Listed c m i)) row_costs

-- What it looks for: a move that is nowhere greater than q.
unfoldable pub fits : Among → ℕ → List ℕ → List ℕ → ℕ → Bool
fits a c m q i = looks_at a c m i && nowhere_greater (seen_at a c m i) q

-- No place from i up to j passes.
abbrev pub None : (ℕ → Bool) → ℕ → ℕ → Type 0
None test i j = (k : ℕ) → i ≤ k → k < j → test k ≡ false

-- The first place from i up to n that passes, or n.
pub record First (test : ℕ → Bool) (i n r : ℕ) : Type 0 where
  pub from : i ≤ r
  pub to : r ≤ n
  pub passed : None test i r
  pub found : r < n → test r ≡ true

-- A place below n that passes, or n where none does.
pub record Some (test : ℕ → Bool) (n r : ℕ) : Type 0 where
  pub to : r ≤ n
  pub found : r < n → test r ≡ true
  pub none : n ≤ r → None test 0 n

-- The same of a place or none: n stands for none.
pub record FirstFound (test : ℕ → Bool) (i n : ℕ) (r : Option ℕ) : Type 0 where
  pub first : First test i n (unwrap_or r n)
  pub below : IfSome r (λ j. j < n)

pub record SomeFound (test : ℕ → Bool) (n : ℕ) (r : Option ℕ) : Type 0 where
  pub some : Some test n (unwrap_or r n)
  pub below : IfSome r (λ j. j < n)

abbrev pub ListedSome : Head → List ℕ → List ℕ → ℕ → ℕ → Type 0
ListedSome h m q = Some (fits Listed h.size m q)

abbrev pub ListedFound : Head → List ℕ → List ℕ → ℕ → Option ℕ → Type 0
ListedFound h m q = SomeFound (fits Listed h.size m q)

-- p is nowhere greater than q, place by place; and in the costs of a row.
abbrev pub Below : List ℕ → List ℕ → Type 0
Below p q = (k : ℕ) → get_or p k 0 ≤ get_or q k 0

abbrev pub Under : List ℕ → List ℕ → Type 0
Under p q = (k : ℕ) → k < row_costs → get_or p k 0 ≤ get_or q k 0

-- The corner of each run is nowhere greater than the moves of the run that are looked at, of the first n.
pub record Corners (a : Among) (c : ℕ) (m : List ℕ) (n : ℕ) (corners : List (List ℕ)) : Type 0 where
  pub runs : length corners ≡ 64
  pub below : (i : ℕ) → i < n → looks_at a c m i ≡ true → Below (get_or corners (i / 64) []) (seen_at a c m i)

abbrev pub ListedCorners : Head → List ℕ → ℕ → List (List ℕ) → Type 0
ListedCorners h = Corners Listed h.size

-- A corner with the moves from place i up to place e.
pub record CornerWith (a : Among) (c : ℕ) (m : List ℕ) (i e : ℕ) (low r : List ℕ) : Type 0 where
  pub old : Below r low
  pub new : (k : ℕ) → i ≤ k → k < e → looks_at a c m k ≡ true → Below r (seen_at a c m k)
