-- `sound::sound_head` meets its contract. Assumes nothing.
use native.Mathlib.Omega.{arith}
use Rattle.model.specs.Calls.{memory_need}
use Rattle.soundness.specs.Held.{HeldIn}
use Rattle.soundness.proofs.sound.sound_head.Goals as goal

pub returns-then-m-lt16 : goal.returns-then-m-lt16
unfolding memory_need
returns-then-m-lt16 c = λ s. omega (arith, s.stands.room)

pub returns-then-not-is_sound : goal.returns-then-not-is_sound
returns-then-not-is_sound c = let s = c.is_sound in s.ensures.unsound (c.if-not-is_sound.true)

pub returns : goal.returns
returns c =
    let s = c.is_sound in
    let own = c.head_of-h.ensures in
    record { size = own.size; dimension = own.dimension; count = own.count; sound = s.ensures.sound (c.if-not-is_sound.false) }
