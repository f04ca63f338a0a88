-- Whatever number of costs the memory's board has, it holds a state: what an error of reading or writing leaves.
use Rattle.std.specs.Prelude.{ℕ, List}
use Rattle.framing.specs.Serving.{HoldsState}

abbrev pub HoldsSome : List ℕ → Type 0
HoldsSome m = (d : ℕ) × HoldsState d m
