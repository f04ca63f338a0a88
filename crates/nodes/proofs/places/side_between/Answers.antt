-- `places::side_between` meets its contract: the costs of both rows are those of the line. Assumes nothing.
use mathlib.Core.Path.{ap₂, ◌∙◌}
use native.Mathlib.Omega.{arith}
use Rattle.zorder.specs.Between.{side_of}
use Rattle.zorder.proofs.Laws.Between.{side-small}
use Rattle.line.specs.Places.{side_at}
use Rattle.nodes.specs.Laws.Heights.{costs-line}
use Rattle.nodes.proofs.places.side_between.Goals as goal

pub returns : goal.returns
unfolding side_at
returns c =
    let a = c.args in
    let first = c.number_at in
    let last = c.number_at-2 in
    record {
      is = λ n h k.
          c.side_of.ensures
          ∙ ap₂ (side_of a.d)
          (c.costs_of-first.ensures ∙ costs-line a.c a.d n a.m.now a.i first.result h first.ensures)
          (c.costs_of-last.ensures ∙ costs-line a.c a.d n a.m.now a.j last.result k last.ensures);
      small = omega (arith, c.side_of.ensures, side-small a.d c.costs_of-first.result c.costs_of-last.result);
    }
