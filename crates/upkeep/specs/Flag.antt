-- What the flags are after a load, and after a change.
use Rattle.std.specs.Prelude.{ℕ, ◌<◌, Bool, true, cond, not, ◌≡◌, List, eqb}
use Rattle.promises.specs.Layout.{number_in, flag_in}
use Rattle.memory.specs.Frame.{FlagsOnly}
use Rattle.memory.specs.Tests.{flags_right, is_listed}
use Rattle.numbers.specs.Set.{in_set}

-- No number stands at two of the first n places.
abbrev pub Once : ℕ → ℕ → List ℕ → Type 0
Once c n m = (i j : ℕ) → i < n → j < n → number_in c m i ≡ number_in c m j → i ≡ j

pub record Flagged (c d n : ℕ) (m m' : List ℕ) : Type 0 where
  pub right : flags_right c d n m' ≡ true
  pub frame : FlagsOnly c m m'

-- Whether the move at place i is listed once its flag is set: a changed one has the other flag.
unfoldable pub listed_then : ℕ → List ℕ → List ℕ → ℕ → Bool
listed_then c changed m i = cond (in_set changed (number_in c m i)) (not (is_listed c m i)) (is_listed c m i)

pub record SetFlag (c i : ℕ) (changed m m' : List ℕ) : Type 0 where
  pub here : eqb (flag_in c m' (number_in c m i)) 1 ≡ listed_then c changed m i
  pub others : (k : ℕ) → k < c → (k ≡ number_in c m i → ⊥) → flag_in c m' k ≡ flag_in c m k
  pub frame : FlagsOnly c m m'

pub record SetFlags (c n : ℕ) (changed m m' : List ℕ) : Type 0 where
  pub flags : (i : ℕ) → i < n → eqb (flag_in c m' (number_in c m i)) 1 ≡ listed_then c changed m i
  pub frame : FlagsOnly c m m'
