-- `notice::left_of` meets its contract. Assumes nothing.
use Rattle.search.specs.declared.search.Among.TheVariants.{Listed}
use Rattle.planning.proofs.notice.left_of.Goals as goal

pub returns : goal.returns
returns c =
    let a = c.args in
    (λ i. record { told = record { head = a.p.head; mark = 1; among = Listed; coming = c.nobody.ensures i }; numbers = a.p.upkeep.changed; count = c.counted.ensures i })
