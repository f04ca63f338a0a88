use Prim.Native.Nat.{◌-◌}
use mathlib.Core.List.{[], map}
use mathlib.Core.Path.{sym, subst}
use native.Mathlib.Omega.{arith}
use lib.ListN.{drop}
use Rattle.promises.specs.Answers.{input_row}
use Rattle.memory.specs.Laws.Frames.{room-over}
use Rattle.loading.specs.Blocks.{BlocksGiven}
use Rattle.loading.specs.Laws.Blocks.{lent_none, lent-storable, lent-more}
use Rattle.loading.proofs.blocks.give_blocks.Goals as goal

pub loop-left-init : goal.loop-left-init
loop-left-init c =
    let a = c.args in
    lent_none a.c a.rows.now a.m.now

pub set_block-requires : goal.set_block-requires
set_block-requires c =
    let a = c.args in
    let own = c.loop-left in
    let able = lent-storable a.c a.rows.now a.m.now own.left (omega arith) (omega arith) [] c.requires.1 in (
      room-over a.c own.invariant.frame c.requires.0,
      omega (arith, able.0, c.number_of.ensures.0),
      omega (arith, able.1, c.block_of.ensures),
    )

pub loop-left-preserved : goal.loop-left-preserved
loop-left-preserved c =
    let a = c.args in
    let own = c.loop-left in
    let number = c.number_of in
    let block = c.block_of in
    let stored = c.set_block in
    subst (BlocksGiven a.c (drop (own.left - 1) (map input_row a.rows.now)) a.m.now) (sym stored.ensures)
    (lent-more a.c a.rows.now a.m.now own.left (omega arith) (omega arith) [] c.requires.1 number.result block.result own.m number.ensures.0 block.ensures c.requires.0 own.invariant)
