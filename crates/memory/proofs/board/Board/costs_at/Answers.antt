-- `board::Board::costs_at` meets its contract. Assumes nothing.
use mathlib.Core.Path.{ap, ◌∙◌}
use Rattle.promises.specs.Layout.{costs_in, move_in}
use Rattle.memory.proofs.board.Board.costs_at.Goals as goal

pub returns : goal.returns
unfolding move_in
returns c =
    let b = c.args.self.now in
    c.costs_of.ensures ∙ ap (costs_in b.head.size b.head.dimension b.bytes.now) c.number_at.ensures.0
