-- What giving a load's blocks asks and leaves.
use Rattle.std.specs.Prelude.{ℕ, ◌<◌, true, List, map, ◌≡◌}
use Rattle.model.specs.Basics.{Each}
use Rattle.model.specs.Moves.{InputRow, move_of}
use Rattle.model.specs.Calls.{on_board, row_blocks}
use Rattle.promises.specs.Layout.{block_in}
use Rattle.memory.specs.Frame.{BlocksOnly}

-- Rows whose blocks have a byte of the memory and fit into it.
abbrev pub Storable : ℕ → List InputRow → Type 0
Storable c = Each (λ r. (r.number < c) × (r.block < 256))

-- The numbers of the rows have their blocks; only blocks differ.
pub record BlocksGiven (c : ℕ) (rows : List InputRow) (m m' : List ℕ) : Type 0 where
  pub blocks : (n : ℕ) → on_board n (map move_of rows) ≡ true → block_in c m' n ≡ row_blocks rows n
  pub frame : BlocksOnly c m m'
