-- What the program holds: no board before an accepted 10, then a board and its tree.
use Rattle.std.specs.Prelude.{ℕ}
use Rattle.model.specs.Calls.{Board}
use Rattle.model.specs.Tree.{Tree}

pub data State : Type 0 where
  unloaded : State
  holds : Board → Tree → State

-- How many costs its rows have.
unfoldable pub dimension_of : State → ℕ
dimension_of unloaded = 0
dimension_of (holds b t) = b.dimension
