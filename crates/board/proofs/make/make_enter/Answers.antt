-- `make::make_enter` meets its contract. Assumes nothing.
use mathlib.Core.Path.{refl}
use native.Mathlib.Omega.{arith}
use Rattle.promises.specs.Run.{Bytes}
use Rattle.memory.specs.Laws.Written.{flags-written}
use Rattle.board.specs.Laws.Rows.{flags-asked}
use Rattle.board.specs.Laws.Steps.{coming-asked, listed-frame}
use Rattle.board.specs.Laws.Enter.{enter-line-asked, enter-count-asked, enter-made}
use Rattle.board.proofs.make.make_enter.Goals as goal

pub set_flags-requires : goal.set_flags-requires
unfolding Bytes
set_flags-requires c =
    let bytes : Bytes c.args.m.now = λ i. omega (arith, c.slice_known-1.given i) in
    let asked = flags-asked c.requires.asked.sound bytes in
    record { readable = asked.0; once = asked.1 }

pub set_listed-requires : goal.set_listed-requires
set_listed-requires c =
    coming-asked c.requires.asked refl (flags-written c.args.h.size c.set_flags.ensures.frame)

pub set_costs-requires : goal.set_costs-requires
set_costs-requires c =
    let a = c.args in
    coming-asked c.requires.asked refl
    (flags-written a.h.size (listed-frame a.x.number a.u.listed (c.requires.asked.fit c.args.x refl).number c.set_flags.ensures.frame c.set_listed.ensures))

pub enter_line-requires : goal.enter_line-requires
unfolding Bytes
enter_line-requires c =
    let bytes : Bytes c.args.m.now = λ i. omega (arith, c.slice_known-1.given i) in
    enter-line-asked c.requires bytes c.set_flags.ensures c.set_listed.ensures c.set_costs.ensures

pub set_count-requires : goal.set_count-requires
unfolding Bytes
set_count-requires c =
    let bytes : Bytes c.args.m.now = λ i. omega (arith, c.slice_known-1.given i) in
    enter-count-asked c.requires bytes c.set_flags.ensures c.set_listed.ensures c.set_costs.ensures c.enter_line.ensures

pub returns : goal.returns
unfolding Bytes
returns c =
    let bytes : Bytes c.args.m.now = λ i. omega (arith, c.slice_known-1.given i) in
    enter-made c.requires bytes c.set_flags.ensures c.set_listed.ensures c.set_costs.ensures c.enter_line.ensures c.set_count.ensures
