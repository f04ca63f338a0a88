-- What is asked for is the definitions' change.
use Rattle.std.specs.Prelude.{ℕ, ◌≡◌, refl}
use Rattle.model.specs.Calls as calls
use Rattle.planning.specs.Kind.{call_of}
use Rattle.calls.specs.Asked.{asked_enter, asked_withdraw, asked_recost}
use Rattle.calls.specs.Exported.{entering, recosting}
use Rattle.calls.specs.declared.answer.Move.{Move}

pub enter-asked : (given : Move) → call_of (asked_enter given) ≡ entering given
enter-asked given = refl

pub withdraw-asked : (number : ℕ) → call_of (asked_withdraw number) ≡ calls.withdraw number
withdraw-asked number = refl

pub recost-asked : (given : Move) → call_of (asked_recost given) ≡ recosting given
recost-asked given = refl
