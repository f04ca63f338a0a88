-- `flags::set_flag` meets its contract. Assumes nothing.
use mathlib.Core.Path.{sym, ap, ◌∙◌}
use native.Mathlib.Omega.{arith}
use Rattle.numbers.specs.Set.{in_set}
use Rattle.upkeep.specs.Laws.Flags.{flag-stays, flag-changes}
use Rattle.upkeep.proofs.flags.set_flag.Goals as goal

pub returns-then-has : goal.returns-then-has
returns-then-has c =
    let a = c.args in
    let number = c.number_at-number in
    flag-changes a.c a.i a.changed.now a.m.now c.requires.0 number.result number.ensures (omega (arith, c.requires.2))
    c.is_listed-listed.ensures
    (sym c.has.ensures ∙ c.if-has.true)
    c.set_listed.new.m c.set_listed.ensures

pub returns-else-has : goal.returns-else-has
returns-else-has c =
    let a = c.args in
    flag-stays a.c a.i a.changed.now a.m.now
    (ap (in_set a.changed.now) (sym c.number_at-number.ensures) ∙ sym c.has.ensures ∙ c.if-has.false)
