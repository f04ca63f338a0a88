-- `tell_notice` meets its contract: what `fill` asks is what is asked of the notice. Assumes nothing.
use Rattle.std.proofs.Common.{◌<◌, sym, ap, subst, arith}
use Rattle.rows.specs.Telling.{TellingAsked}
use Rattle.rows.specs.declared.telling.Telling.{Telling}
use Rattle.calls.proofs.notice.tell_notice.Goals as goal

pub fill-requires : goal.fill-requires
fill-requires c =
    let a = c.args in
    let count = ap (λ (t : Telling). t.count) c.left_of-left.ensures in (
      subst (λ (t : Telling). 0 < t.count → TellingAsked t.told a.memory.now) (sym c.left_of-left.ensures) c.requires.left,
      omega (arith, count, c.requires.enough),
    )
