-- Which bytes an operation may write.
use Rattle.std.specs.Prelude.{ℕ, ◌≤◌, ◌<◌, ◌⊎◌, ◌≡◌, List, length, get_or}
use Rattle.promises.specs.Layout.{number_place, flag_place, block_place, cost_place, work_place}
use Rattle.promises.specs.Written.{Only, moves_write}

-- Only bytes from place a up to place b differ.
pub record DifferWithin (a b : ℕ) (m m' : List ℕ) : Type 0 where
  pub length : length m' ≡ length m
  pub same : (i : ℕ) → (i < a) ⊎ (b ≤ i) → get_or m' i 0 ≡ get_or m i 0

-- Only what a change of moves may write.
abbrev pub MovesOnly : ℕ → List ℕ → List ℕ → Type 0
MovesOnly c = Only (moves_write c)

-- Only rows, that is numbers and heights by place, differ; only flags; only blocks; only costs; only the work area.
abbrev pub RowsOnly : ℕ → List ℕ → List ℕ → Type 0
RowsOnly c = DifferWithin (number_place 0) (flag_place c 0)

abbrev pub FlagsOnly : ℕ → List ℕ → List ℕ → Type 0
FlagsOnly c = DifferWithin (flag_place c 0) (block_place c 0)

abbrev pub BlocksOnly : ℕ → List ℕ → List ℕ → Type 0
BlocksOnly c = DifferWithin (block_place c 0) (cost_place c 0 0)

abbrev pub CostsOnly : ℕ → List ℕ → List ℕ → Type 0
CostsOnly c = DifferWithin (cost_place c 0 0) (work_place c 0)

abbrev pub WorkOnly : ℕ → List ℕ → List ℕ → Type 0
WorkOnly c = DifferWithin (work_place c 0) (work_place c c)
