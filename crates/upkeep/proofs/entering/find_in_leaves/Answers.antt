use mathlib.Core.Path.{subst}
use native.Mathlib.Omega.{arith}
use Rattle.memory.specs.declared.board.Board.{Board}
use Rattle.nodes.specs.Search.{LeafFrom}
use Rattle.nodes.specs.Laws.Search.{sound-searchable, counting-none, counting-few, counting-leaf}
use Rattle.promises.specs.Run.{Bytes}
use Rattle.memory.specs.Laws.Held.{held-readable}
use Rattle.upkeep.specs.Change.{enters_at}
use Rattle.upkeep.specs.Laws.Passing.{passing-few, passing-none}
use Rattle.upkeep.specs.Laws.BroughtUp.{leaf-enters, entering-all}
use Rattle.upkeep.proofs.entering.find_in_leaves.Goals.{After-next_leaf-leaf}
use Rattle.upkeep.proofs.entering.find_in_leaves.Goals as goal

-- The index is of this board.
leaf_found :
    (c : After-next_leaf-leaf)
    → LeafFrom c.args.all.now.board.head c.args.k.goes c.args.all.now.board.bytes.now c.loop-i.i c.next_leaf-leaf.result
leaf_found c =
    let goes = c.args.k.goes in
    subst (λ (b : Board). LeafFrom b.head goes b.bytes.now c.loop-i.i c.next_leaf-leaf.result) c.new-listed.ensures.board c.next_leaf-leaf.ensures

pub loop-i-init : goal.loop-i-init
unfolding Bytes
loop-i-init c =
    let a = c.args in
    let b = a.all.now.board in
    let bytes : Bytes b.bytes.now = b.fits in (
      counting-none (sound-searchable b.head.size b.head.dimension b.head.count b.bytes.now c.requires.goes_listed.sound bytes),
      passing-none b.head.size b.bytes.now (enters_at b.head.size b.head.dimension b.head.count a.k b.bytes.now) a.changed.now 0,
    )

pub overflow_add-count : goal.overflow_add-count
overflow_add-count c =
    let a = c.args in
    let b = a.all.now.board in
    let test = enters_at b.head.size b.head.dimension b.head.count a.k b.bytes.now in
    let rows = held-readable c.requires.goes_listed.sound in
    let leaf = leaf_found (goal.at.overflow_add-count c).After-next_leaf-leaf in
    omega
    (arith, rows.rows, rows.room.1, leaf.after.within, c.loop-i.invariant.0.start.within, passing-few b.head.size b.bytes.now test c.loop-i.invariant.1, passing-few b.head.size b.bytes.now test c.find_in_leaf-count.ensures)

pub overflow_add-opened : goal.overflow_add-opened
unfolding Bytes
overflow_add-opened c =
    let a = c.args in
    let b = a.all.now.board in
    let own = c.loop-i in
    let leaf = c.next_leaf-leaf in
    let bytes : Bytes b.bytes.now = b.fits in
    let s = sound-searchable b.head.size b.head.dimension b.head.count b.bytes.now c.requires.goes_listed.sound bytes in
    omega (arith, counting-few s own.opened own.i leaf.result own.invariant.0 (leaf_found (goal.at.overflow_add-opened c).After-next_leaf-leaf), s.readable.rows, s.readable.room.1)

pub loop-i-smaller : goal.loop-i-smaller
loop-i-smaller c = let more = c.loop-i-test.true in omega (arith, (leaf_found (goal.at.loop-i-smaller c).After-next_leaf-leaf).next.further more)

pub loop-i-preserved : goal.loop-i-preserved
unfolding Bytes
loop-i-preserved c =
    let a = c.args in
    let b = a.all.now.board in
    let own = c.loop-i in
    let leaf = c.next_leaf-leaf in
    let found = leaf_found (goal.at.loop-i-preserved c).After-next_leaf-leaf in
    let bytes : Bytes b.bytes.now = b.fits in (
      counting-leaf own.opened own.i leaf.result own.invariant.0 found,
      leaf-enters b.head.size b.head.dimension b.head.count b.bytes.now c.requires.goes_listed.sound bytes a.k leaf.result own.invariant.1 found c.find_in_leaf-count.ensures,
    )

pub returns : goal.returns
unfolding Bytes
returns c =
    let a = c.args in
    let b = a.all.now.board in
    let own = c.loop-i in
    let bytes : Bytes b.bytes.now = b.fits in
    entering-all b.head.size b.head.dimension b.head.count b.bytes.now c.requires.goes_listed.sound bytes a.k _ c.requires.goes_listed.goes (omega (arith, own.invariant.0.start.within)) own.invariant.1 own.invariant.0
