-- The changes as the code asks for them, from what the exported calls are given.
use Rattle.std.specs.Prelude.{ℕ}
use Rattle.dominance.specs.declared.Move as dominance
use Rattle.planning.specs.declared.change.Change.{Change}
use Rattle.planning.specs.declared.change.Change.TheVariants.{Enter, Withdraw, Recost}
use Rattle.calls.specs.declared.answer.Move.{Move}

-- The move without its block.
abbrev pub coming_of : Move → dominance.Move
coming_of given = record { number = given.number; costs = given.costs }

abbrev pub asked_enter : Move → Change
asked_enter given = Enter (coming_of given) given.block

abbrev pub asked_withdraw : ℕ → Change
asked_withdraw number = Withdraw number

abbrev pub asked_recost : Move → Change
asked_recost given = Recost (coming_of given) given.block
