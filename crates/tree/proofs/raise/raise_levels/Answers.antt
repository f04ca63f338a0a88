use native.Mathlib.Omega.{arith}
use Rattle.tree.specs.Laws.Raising.{levels-more, levels-all}
use Rattle.tree.proofs.raise.raise_levels.Goals as goal

pub loop-entries-preserved : goal.loop-entries-preserved
loop-entries-preserved c =
    let own = c.loop-entries in
    let a = c.args in
    let r = c.raise_level in
    levels-more a.c a.n own.l own.entries a.m.now own.m r.new.m own.invariant r.ensures (omega arith)

pub returns : goal.returns
returns c =
    let own = c.loop-entries in
    let a = c.args in
    let r = c.raise_level-2 in
    levels-all a.c a.n own.l own.entries a.m.now own.m r.new.m own.invariant r.ensures (omega arith)
