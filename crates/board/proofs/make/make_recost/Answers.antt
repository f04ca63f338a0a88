-- `make::make_recost` meets its contract. Assumes nothing.
use mathlib.Core.Path.{refl, sym, subst}
use native.Mathlib.Omega.{arith}
use Rattle.promises.specs.Run.{Bytes}
use Rattle.dominance.specs.Move.{as_move}
use Rattle.memory.specs.declared.head.Head.{Head}
use Rattle.memory.specs.Laws.Written.{flags-written}
use Rattle.tree.specs.Enter.{EnterAsked, Entered}
use Rattle.board.specs.Laws.Rows.{flags-asked}
use Rattle.board.specs.Laws.Steps.{coming-asked}
use Rattle.board.specs.Laws.Recost.{recost-withdraw-asked, recost-written, recost-enter-asked, recost-count-asked, recost-made}
use Rattle.board.proofs.make.make_recost.Goals as goal

pub set_flags-requires : goal.set_flags-requires
unfolding Bytes
set_flags-requires c =
    let bytes : Bytes c.args.m.now = λ i. omega (arith, c.slice_known-1.given i) in
    let asked = flags-asked c.requires.asked.sound bytes in
    record { readable = asked.0; once = asked.1 }

pub set_listed-requires : goal.set_listed-requires
set_listed-requires c =
    coming-asked c.requires.asked refl (flags-written c.args.h.size c.set_flags.ensures.frame)

pub withdraw_line-requires : goal.withdraw_line-requires
unfolding Bytes
withdraw_line-requires c =
    let bytes : Bytes c.args.m.now = λ i. omega (arith, c.slice_known-1.given i) in
    recost-withdraw-asked c.requires bytes c.set_flags.ensures c.set_listed.ensures

pub set_costs-requires : goal.set_costs-requires
unfolding Bytes
set_costs-requires c =
    let bytes : Bytes c.args.m.now = λ i. omega (arith, c.slice_known-1.given i) in
    coming-asked c.requires.asked refl
    (recost-written c.requires bytes c.set_flags.ensures c.set_listed.ensures c.withdraw_line.ensures)

pub enter_line-requires : goal.enter_line-requires
unfolding Bytes
enter_line-requires c =
    let bytes : Bytes c.args.m.now = λ i. omega (arith, c.slice_known-1.given i) in
    subst (λ (g : Head). EnterAsked g.size g.dimension g.count (as_move c.args.x) c.set_costs.new.m) (sym c.with_rows.ensures)
    (recost-enter-asked c.requires bytes c.set_flags.ensures c.set_listed.ensures c.withdraw_line.ensures c.set_costs.ensures)

pub set_count-requires : goal.set_count-requires
unfolding Bytes
set_count-requires c =
    let bytes : Bytes c.args.m.now = λ i. omega (arith, c.slice_known-1.given i) in
    recost-count-asked c.requires bytes c.set_flags.ensures c.set_listed.ensures c.withdraw_line.ensures c.set_costs.ensures
    (subst (λ (g : Head). Entered g.size g.dimension g.count (as_move c.args.x) c.set_costs.new.m c.enter_line.new.m) c.with_rows.ensures c.enter_line.ensures)

pub returns : goal.returns
unfolding Bytes
returns c =
    let bytes : Bytes c.args.m.now = λ i. omega (arith, c.slice_known-1.given i) in
    recost-made c.requires bytes c.set_flags.ensures c.set_listed.ensures c.withdraw_line.ensures c.set_costs.ensures
    (subst (λ (g : Head). Entered g.size g.dimension g.count (as_move c.args.x) c.set_costs.new.m c.enter_line.new.m) c.with_rows.ensures c.enter_line.ensures)
    c.set_count.ensures
