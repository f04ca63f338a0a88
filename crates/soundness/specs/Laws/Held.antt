-- What a memory is found to hold, by cases.
use Rattle.std.specs.Prelude.{ℕ, List, Option, Some, None, ◌≡◌, refl}
use Rattle.std.proofs.Common.{subst}
use Rattle.promises.specs.Sound.{Sound}
use Rattle.memory.specs.Held.{SoundAt}
use Rattle.memory.specs.declared.head.Head.{Head}
use Rattle.soundness.specs.Held.{HeldIn}

pub sound-held : {m : List ℕ} {r : Option Head} {h : Head} → HeldIn m r → r ≡ Some h → SoundAt h m
sound-held {m} p e = subst (HeldIn m) e p

pub unsound-held : {m : List ℕ} {r : Option Head} → HeldIn m r → r ≡ None → Sound m → ⊥
unsound-held {m} p e = subst (HeldIn m) e p

-- What is not found sound is found unsound.
pub only-unsound : (r : Option Head) → ((h : Head) → r ≡ Some h → ⊥) → r ≡ None
only-unsound (Some h) none = absurd (none h refl)
only-unsound None none = refl
