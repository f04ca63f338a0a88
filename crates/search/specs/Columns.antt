-- Sixty-four moves as columns, cost by cost: cost k of column j stands at 64 k + j.
use Rattle.std.specs.Prelude.{ℕ, zero, suc, ◌+◌, ◌*◌, ◌≤◌, ◌<◌, Bool, true, false, cond, List, ◌≡◌, leb, length, get_or}
use Rattle.zorder.specs.Address.{row_costs}
use Rattle.model.specs.Dominance.{nowhere_greater}
use Rattle.memory.specs.Tests.{all_to}

-- How many places below n pass a test.
unfoldable pub count_to : (ℕ → Bool) → ℕ → ℕ
count_to p zero = 0
count_to p (suc n) = count_to p n + cond (p n) 1 0

-- Column j is nowhere greater than q in the first w costs.
unfoldable pub column_fits : ℕ → List ℕ → List ℕ → ℕ → Bool
column_fits w columns q j = all_to (λ k. leb (get_or columns (64 * k + j) 0) (get_or q k 0)) w

unfoldable pub fitting : ℕ → List ℕ → List ℕ → ℕ
fitting w columns q = count_to (column_fits w columns q) 64

-- Column t is a row.
abbrev pub Column : List ℕ → ℕ → List ℕ → Type 0
Column columns t row = (k : ℕ) → k < row_costs → get_or columns (64 * k + t) 0 ≡ get_or row k 0

-- ---- the answer of a question to all columns

-- The answer true says the one, false the other.
pub record Says (yes no : Type 0) (r : Bool) : Type 0 where
  pub true-says : r ≡ true → yes
  pub false-says : r ≡ false → no

-- Bounds for d costs: past them every cost of 16 bits fits.
abbrev pub Bounds : ℕ → List ℕ → Type 0
Bounds d q = (k : ℕ) → d ≤ k → k < row_costs → get_or q k 0 ≡ 65535

-- A column that is nowhere greater than q: so is every row of 16 bits that is this column.
pub record FittingColumn (columns q : List ℕ) : Type 0 where
  pub column : ℕ
  pub inside : column < 64
  pub fits : (row : List ℕ) → length row ≡ row_costs → ((k : ℕ) → get_or row k 0 < 65536) → Column columns column row → nowhere_greater row q ≡ true

-- No column is.
abbrev pub NoneFits : List ℕ → List ℕ → Type 0
NoneFits columns q = (t : ℕ) → t < 64 → (row : List ℕ) → length row ≡ row_costs → Column columns t row → nowhere_greater row q ≡ false

abbrev pub SomeFits : List ℕ → List ℕ → Bool → Type 0
SomeFits columns q = Says (FittingColumn columns q) (NoneFits columns q)

-- ---- columns filled

-- A row becomes column t, the others stay.
pub record Put (old : List ℕ) (t : ℕ) (row new : List ℕ) : Type 0 where
  pub here : Column new t row
  pub other : (s k : ℕ) → s < 64 → (s ≡ t → ⊥) → get_or new (64 * k + s) 0 ≡ get_or old (64 * k + s) 0

-- Every column is a row.
abbrev pub Filled : List ℕ → List ℕ → Type 0
Filled row columns = (t : ℕ) → t < 64 → Column columns t row
