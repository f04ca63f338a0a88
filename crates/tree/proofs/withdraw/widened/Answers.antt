use native.Mathlib.Omega.{arith}
use Rattle.tree.specs.Laws.Widening.{widens-first, widens-end, widens-stop, widens-more}
use Rattle.tree.proofs.withdraw.widened.Goals as goal

pub loop-l-init : goal.loop-l-init
loop-l-init c = widens-first c.requires.place

pub returns-then-entries-gt3 : goal.returns-then-entries-gt3
returns-then-entries-gt3 c =
    let own = c.loop-l in
    let p = c.requires in
    record {
      is = widens-stop p.place own.invariant (omega arith) c.node_start-s.ensures c.node_end-e.ensures c.entries.ensures (omega arith);
      order = own.invariant.order;
      within = own.invariant.within;
    }

pub loop-l-preserved : goal.loop-l-preserved
loop-l-preserved c =
    let own = c.loop-l in
    let p = c.requires in
    widens-more p.place own.invariant (omega arith) c.node_start-s.ensures c.node_end-e.ensures c.entries.ensures (omega arith)

pub returns : goal.returns
returns c =
    let own = c.loop-l in
    record {
      is = widens-end c.requires.place own.invariant (omega arith);
      order = own.invariant.order;
      within = own.invariant.within;
    }
