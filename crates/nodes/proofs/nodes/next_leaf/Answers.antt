use native.Mathlib.Omega.{arith}
use Rattle.promises.specs.Run.{Bytes}
use Rattle.nodes.specs.Laws.Search.{sound-searchable, search-start, search-few, search-on, search-down, search-leaf, search-end}
use Rattle.nodes.proofs.nodes.next_leaf.Goals as goal

pub loop-i-init : goal.loop-i-init
unfolding Bytes
loop-i-init c =
    let a = c.args in
    let b = a.listed.now.board in
    let s = sound-searchable b.head.size b.head.dimension b.head.count b.bytes.now c.requires.sound_at b.fits in
    (s, search-start s a.goes a.from c.requires.nodes_from c.level_at-l.result c.level_at-l.ensures)

pub loop-i-preserved-then-not-opens : goal.loop-i-preserved-then-not-opens
loop-i-preserved-then-not-opens c =
    let a = c.args in
    let own = c.loop-i in
    let end = c.node_end-e in
    let test = c.opens in (
      own.invariant.0,
      search-on own.invariant.0 a.goes a.from own.opened own.i own.l end.result own.invariant.1 (omega arith) end.ensures test.result test.ensures
          (c.if-not-opens.true) c.level_at-l-then-not-opens.result c.level_at-l-then-not-opens.ensures,
    )

pub overflow_add-result : goal.overflow_add-result
overflow_add-result c =
    let a = c.args in
    let own = c.loop-i in
    omega (arith, search-few own.invariant.0 a.goes a.from own.opened own.i own.l own.invariant.1, own.invariant.0.readable.rows, own.invariant.0.readable.room.1)

pub returns-then-l-eq1 : goal.returns-then-l-eq1
returns-then-l-eq1 c =
    let a = c.args in
    let own = c.loop-i in
    let end = c.node_end-e in
    let test = c.opens in
    search-leaf own.invariant.0 a.goes a.from own.opened own.i own.l end.result own.invariant.1 (omega arith) end.ensures test.result test.ensures
    (c.if-not-opens.false) c.if-l-eq1.true

pub overflow_add-opened : goal.overflow_add-opened
overflow_add-opened c =
    let a = c.args in
    let own = c.loop-i in
    omega (arith, search-few own.invariant.0 a.goes a.from own.opened own.i own.l own.invariant.1, own.invariant.0.readable.rows, own.invariant.0.readable.room.1)

pub overflow_sub-l : goal.overflow_sub-l
overflow_sub-l c = let own = c.loop-i in omega (arith, own.invariant.1.level (omega arith))

pub loop-i-smaller : goal.loop-i-smaller
loop-i-smaller c = let own = c.loop-i in omega (arith, own.invariant.1.level (omega arith))

pub loop-i-preserved : goal.loop-i-preserved
loop-i-preserved c =
    let a = c.args in
    let own = c.loop-i in
    let end = c.node_end-e in
    let test = c.opens in (
      own.invariant.0,
      search-down own.invariant.0 a.goes a.from own.opened own.i own.l end.result own.invariant.1 (omega arith) end.ensures test.result test.ensures
          (c.if-not-opens.false) c.if-l-eq1.false,
    )

pub returns : goal.returns
returns c =
    let a = c.args in
    let own = c.loop-i in
    search-end own.invariant.0 a.goes a.from own.opened own.i own.l own.invariant.1 (omega arith)
