-- `notice::entered_of` meets its contract. Assumes nothing.
use Rattle.search.specs.declared.search.Among.TheVariants.{Hidden}
use Rattle.planning.proofs.notice.entered_of.Goals as goal

pub returns : goal.returns
returns c =
    let a = c.args in
    (λ i.
    record {
      told = record { head = a.p.head; mark = 2; among = Hidden; coming = c.coming_in.ensures i };
      numbers = a.p.upkeep.changed;
      count = c.counted.ensures i;
    })
