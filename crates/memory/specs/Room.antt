-- What the functions over the lent memory ask of it.
use Rattle.std.specs.Prelude.{ℕ, ◌+◌, ◌*◌, ◌≤◌, ◌<◌, true, List, ◌≡◌, length}
use Rattle.zorder.specs.Address.{row_costs}
use Rattle.model.specs.Moves.{move_before}
use Rattle.promises.specs.Layout.{number_in, move_in}
use Rattle.memory.specs.declared.head.Head.{Head}

-- The memory is long enough for a board of size c, and c is small enough for offsets not to wrap.
abbrev pub Room : ℕ → List ℕ → Type 0
Room c m = (64 * c + 1024 ≤ length m) × (c ≤ 4096)

-- The numbers at the first n places are below c.
abbrev pub Numbers : ℕ → ℕ → List ℕ → Type 0
Numbers c n m = (i : ℕ) → i < n → number_in c m i < c

-- What the readers of moves ask: this size, this number of costs, and so many rows; as a board's head has them.
pub record ReadableRows (c d n : ℕ) (m : List ℕ) : Type 0 where
  pub room : Room c m
  pub rows : n ≤ c
  pub numbers : Numbers c n m
  pub dimension : d ≤ row_costs

abbrev pub Readable : Head → List ℕ → Type 0
Readable h = ReadableRows h.size h.dimension h.count

-- The first n moves stand in Z-order.
abbrev pub Ordered : ℕ → ℕ → ℕ → List ℕ → Type 0
Ordered c d n m = (i j : ℕ) → i < j → j < n → move_before d (move_in c d m i) (move_in c d m j) ≡ true

abbrev pub InOrder : Head → List ℕ → Type 0
InOrder h = Ordered h.size h.dimension h.count
