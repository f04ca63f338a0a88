-- `enter::enter_line` meets its contract. Assumes nothing.
use mathlib.Core.Path.{sym, subst}
use native.Mathlib.Omega.{arith}
use Rattle.memory.specs.declared.head.Head.{Head}
use Rattle.tree.specs.Split.{CascadeAsked, Cascaded}
use Rattle.tree.specs.Laws.Entered.{holds-ordered, entered-first, cascade-asked, entered-more}
use Rattle.tree.proofs.enter.enter_line.Goals as goal

pub returns-then-n-eq0 : goal.returns-then-n-eq0
returns-then-n-eq0 c = entered-first c.requires c.if-n-eq0.true c.insert_row.ensures

pub place_for-p-requires-clause-in_order : goal.place_for-p-requires-clause-in_order
place_for-p-requires-clause-in_order c = holds-ordered c.requires.tree.holds

pub cascade-requires : goal.cascade-requires
cascade-requires c =
    subst (λ (g : Head). CascadeAsked g.size g.dimension g.count c.place_for-p.result c.put_row.new.m) (sym c.with_rows.ensures)
    (cascade-asked c.requires (omega (arith, c.if-n-eq0.false)) c.place_for-p.ensures.1 c.put_row.ensures)

pub returns : goal.returns
returns c =
    let place = c.place_for-p in
    entered-more c.requires (omega (arith, c.if-n-eq0.false)) place.ensures.1 c.put_row.ensures place.ensures.0
    (subst (λ (g : Head). Cascaded g.size g.dimension g.count place.result c.put_row.new.m c.cascade.new.m) c.with_rows.ensures c.cascade.ensures)
