use mathlib.Core.Path.{subst}
use native.Mathlib.Omega.{arith}
use Rattle.promises.specs.Run.{Bytes}
use Rattle.memory.specs.declared.board.Board.{Board}
use Rattle.nodes.specs.Search.{LeafFrom}
use Rattle.nodes.specs.Laws.Search.{sound-searchable, counting-none, counting-few, counting-leaf, list-opened}
use Rattle.nodes.proofs.nodes.nodes_opened.Goals.{After-next_leaf-leaf}
use Rattle.nodes.proofs.nodes.nodes_opened.Goals as goal

-- The index is of this board.
pub leaf_found :
    (c : After-next_leaf-leaf)
    → LeafFrom c.args.b.now.head c.args.b.now.head.count c.args.b.now.bytes.now c.loop-i.i c.next_leaf-leaf.result
leaf_found c =
    let n = c.args.b.now.head.count in
    subst (λ (b : Board). LeafFrom b.head n b.bytes.now c.loop-i.i c.next_leaf-leaf.result) c.new-listed.ensures.board c.next_leaf-leaf.ensures

pub loop-i-init : goal.loop-i-init
unfolding Bytes
loop-i-init c =
    let a = c.args in
    let b = a.b.now in
    counting-none (sound-searchable b.head.size b.head.dimension b.head.count b.bytes.now c.requires b.fits)

pub overflow_add-opened : goal.overflow_add-opened
unfolding Bytes
overflow_add-opened c =
    let a = c.args in
    let b = a.b.now in
    let own = c.loop-i in
    let leaf = c.next_leaf-leaf in
    let s = sound-searchable b.head.size b.head.dimension b.head.count b.bytes.now c.requires b.fits in
    omega (arith, counting-few s own.opened own.i leaf.result own.invariant (leaf_found (goal.at.overflow_add-opened c).After-next_leaf-leaf), s.readable.rows, s.readable.room.1)

pub loop-i-smaller : goal.loop-i-smaller
loop-i-smaller c =
    let leaf = leaf_found (goal.at.loop-i-smaller c).After-next_leaf-leaf in
    omega (arith, leaf.next.further (omega arith), leaf.after.within)

pub loop-i-preserved : goal.loop-i-preserved
loop-i-preserved c =
    let own = c.loop-i in
    let leaf = c.next_leaf-leaf in
    counting-leaf own.opened own.i leaf.result own.invariant (leaf_found (goal.at.loop-i-preserved c).After-next_leaf-leaf)

pub returns : goal.returns
unfolding Bytes
returns c =
    let own = c.loop-i in
    list-opened c.requires c.args.b.now.fits own.opened own.i own.invariant (omega arith)
