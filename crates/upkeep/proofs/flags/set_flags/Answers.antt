use native.Mathlib.Omega.{arith}
use Rattle.memory.specs.Laws.Frames.{room-over}
use Rattle.memory.specs.Laws.Fields.{number-over-flags}
use Rattle.upkeep.specs.Laws.Flags.{flagging-more}
use Rattle.upkeep.proofs.flags.set_flags.Goals as goal

pub set_flag-requires : goal.set_flag-requires
set_flag-requires c =
    let a = c.args in
    let pre = c.requires.readable in
    let own = c.loop-i in
    let small = pre.numbers own.i (omega arith) in
    (room-over a.h.size own.invariant.frame pre.room, omega (arith, pre.rows), omega (arith, number-over-flags a.h.size own.invariant.frame own.i (omega (arith, pre.rows))))

pub loop-i-preserved : goal.loop-i-preserved
loop-i-preserved c =
    let a = c.args in
    let pre = c.requires in
    let own = c.loop-i in
    let set = c.set_flag in
    flagging-more a.h.size a.h.count a.u.changed a.m.now pre.readable.rows pre.readable.numbers pre.once own.i (omega arith) own.m set.new.m own.invariant set.ensures
