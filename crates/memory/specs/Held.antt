-- What the functions ask that work on sound memory, and the moves that they find there.
use Rattle.std.specs.Prelude.{ℕ, ◌≤◌, ◌≡◌, List, length}
use Rattle.model.specs.Moves.{Move}
use Rattle.line.specs.Line.{moves_in}
use Rattle.promises.specs.Layout.{size_in, dimension_in, count_in, move_in, line_from}
use Rattle.promises.specs.Sound.{Sound}
use Rattle.memory.specs.declared.head.Head.{Head}

-- The memory is long enough for a head, and this is its own.
pub record HeadOf (h : Head) (m : List ℕ) : Type 0 where
  pub long : 16 ≤ length m
  pub size : h.size ≡ size_in m
  pub dimension : h.dimension ≡ dimension_in m
  pub count : h.count ≡ count_in m

-- The memory is sound, and c, d and n are its own.
pub record SoundRows (c d n : ℕ) (m : List ℕ) : Type 0 where
  pub size : c ≡ size_in m
  pub dimension : d ≡ dimension_in m
  pub count : n ≡ count_in m
  pub sound : Sound m

-- The same for a head as one value.
abbrev pub SoundAt : Head → List ℕ → Type 0
SoundAt h = SoundRows h.size h.dimension h.count

-- The moves that a head's rows hold, and the one at place i.
abbrev pub moves_held : Head → List ℕ → List Move
moves_held h m = moves_in (line_from h.size h.dimension h.count m)

abbrev pub move_held : Head → List ℕ → ℕ → Move
move_held h m i = move_in h.size h.dimension m i
