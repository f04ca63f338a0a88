-- `digits::is_digit` meets its contract. Assumes nothing.
use Prim.Native.Nat.{ℕ}
use borrow.Author.Tests.{lt-leb, le-leb}
use native.Mathlib.Omega.{arith}
use Rattle.model.specs.Basics.{within}
use Rattle.frame_lines.specs.Digits.{is_digit}
use Rattle.frame_lines.proofs.digits.is_digit.Goals as goal

pub returns-in-48-to-57 : goal.returns-in-48-to-57
unfolding is_digit within
returns-in-48-to-57 c =
    let b : ℕ = c.args.b in
    simp (le-leb 48 b (omega arith), le-leb b 57 (omega arith))

pub returns-in-48-to-57-2 : goal.returns-in-48-to-57-2
unfolding is_digit within
returns-in-48-to-57-2 c =
    let b : ℕ = c.args.b in
    simp (le-leb 48 b (omega arith), lt-leb b 57 (omega arith), le-leb 65 b (omega arith), le-leb b 70 (omega arith))

pub returns-in_default : goal.returns-in_default
unfolding is_digit within
returns-in_default c =
    let b : ℕ = c.args.b in
    simp (lt-leb 48 b (omega arith), lt-leb 65 b (omega arith))

pub returns-in_default-2 : goal.returns-in_default-2
unfolding is_digit within
returns-in_default-2 c =
    let b : ℕ = c.args.b in
    simp (le-leb 48 b (omega arith), lt-leb b 57 (omega arith), lt-leb 65 b (omega arith))

pub returns-in_default-3 : goal.returns-in_default-3
unfolding is_digit within
returns-in_default-3 c =
    let b : ℕ = c.args.b in
    simp (le-leb 48 b (omega arith), lt-leb b 57 (omega arith), le-leb 65 b (omega arith), lt-leb b 70 (omega arith))
