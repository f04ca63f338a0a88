-- A move of the code as a move of the definitions.
use Rattle.model.specs.Moves as model
use Rattle.dominance.specs.declared.Move.{Move}

abbrev pub as_move : Move → model.Move
as_move m = record { number = m.number; costs = m.costs }
