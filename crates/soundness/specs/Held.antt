-- What a memory is found to hold.
use Rattle.std.specs.Prelude.{List, ℕ, Option, Some, None}
use Rattle.promises.specs.Sound.{Sound}
use Rattle.memory.specs.Held.{SoundAt}
use Rattle.memory.specs.declared.head.Head.{Head}

-- The memory is sound with this head, or it is not sound.
abbrev pub HeldIn : List ℕ → Option Head → Type 0
HeldIn m (Some h) = SoundAt h m
HeldIn m None = Sound m → ⊥
