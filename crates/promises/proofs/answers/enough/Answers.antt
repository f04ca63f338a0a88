-- `enough` meets its contract. Assumes nothing.
use borrow.Author.Tests.{lt-ltb, le-ltb}
use Prim.Native.Nat.{ℕ}
use mathlib.Core.Bool.{Bool, cond}
use mathlib.Core.Path.{sym, ap}
use native.Mathlib.Omega.{arith}
use Rattle.model.specs.Calls as calls
use Rattle.model.specs.Calls.{accepted, rows_answer}
use Rattle.promises.proofs.answers.enough.Goals as goal

by_rows : ℕ → Bool → calls.Answer
by_rows need b = cond b (record { number = 8; detail = need }) accepted

pub returns-then-lent-need : goal.returns-then-lent-need
unfolding rows_answer by_rows
returns-then-lent-need c =
    let a = c.args in
    ap (by_rows a.need) (sym (lt-ltb a.lent a.need c.if-lent-need.true))

pub returns : goal.returns
unfolding rows_answer by_rows accepted
returns c =
    let a = c.args in
    ap (by_rows a.need) (sym (le-ltb a.lent a.need (omega arith)))
