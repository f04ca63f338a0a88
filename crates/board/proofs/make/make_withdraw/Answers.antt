-- `make::make_withdraw` meets its contract. Assumes nothing.
use native.Mathlib.Omega.{arith}
use Rattle.promises.specs.Run.{Bytes}
use Rattle.board.specs.Laws.Rows.{flags-asked}
use Rattle.board.specs.Laws.Withdraw.{withdraw-line-asked, withdraw-count-asked, withdraw-made}
use Rattle.board.proofs.make.make_withdraw.Goals as goal

pub set_flags-requires : goal.set_flags-requires
unfolding Bytes
set_flags-requires c =
    let bytes : Bytes c.args.m.now = λ i. omega (arith, c.slice_known-1.given i) in
    let asked = flags-asked c.requires.asked.sound bytes in
    record { readable = asked.0; once = asked.1 }

pub withdraw_line-requires : goal.withdraw_line-requires
unfolding Bytes
withdraw_line-requires c =
    let bytes : Bytes c.args.m.now = λ i. omega (arith, c.slice_known-1.given i) in
    withdraw-line-asked c.requires bytes c.set_flags.ensures

pub set_count-requires : goal.set_count-requires
unfolding Bytes
set_count-requires c =
    let bytes : Bytes c.args.m.now = λ i. omega (arith, c.slice_known-1.given i) in
    withdraw-count-asked c.requires bytes c.set_flags.ensures c.withdraw_line.ensures

pub returns : goal.returns
unfolding Bytes
returns c =
    let bytes : Bytes c.args.m.now = λ i. omega (arith, c.slice_known-1.given i) in
    withdraw-made c.requires bytes c.set_flags.ensures c.withdraw_line.ensures c.set_count.ensures
