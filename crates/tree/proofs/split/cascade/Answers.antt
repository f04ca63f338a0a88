use native.Mathlib.Omega.{arith}
use Rattle.tree.specs.Laws.Cascade.{climb-end, climb-few, climb-nine, climb-more}
use Rattle.tree.proofs.split.cascade.Goals as goal

pub returns-then-entries-le8 : goal.returns-then-entries-le8
returns-then-entries-le8 c =
    climb-few c.requires c.loop-l.invariant c.node_start-s.ensures c.node_end-e.ensures
    c.entries.ensures (omega arith)

pub cut-requires : goal.cut-requires
cut-requires c =
    climb-nine c.requires c.loop-l.invariant c.node_start-s.ensures c.node_end-e.ensures
    c.entries.ensures (omega arith) (omega arith)

pub loop-l-preserved : goal.loop-l-preserved
loop-l-preserved c =
    climb-more c.requires c.loop-l.invariant c.node_start-s.ensures c.node_end-e.ensures
    c.entries.ensures (omega arith) (omega arith) c.cut.ensures

pub returns : goal.returns
returns c = climb-end c.requires c.loop-l.invariant (omega arith)
