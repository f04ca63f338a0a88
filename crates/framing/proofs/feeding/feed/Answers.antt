-- `feeding::feed` meets its contract. Assumes nothing.
use native.Mathlib.Omega.{arith}
use Rattle.framing.specs.Laws.Feeding.{feeds-none, feeds-line}
use Rattle.framing.proofs.feeding.feed.Goals as goal

pub returns-in_default : goal.returns-in_default
returns-in_default c =
    let read = c.read_on-read in
    feeds-none c.args.p _ _ read.result read.ensures _ c.in_default.is c.requires.holds_state

pub overflow_add-result : goal.overflow_add-result
overflow_add-result c =
    omega (arith, c.well_formed, (c.read_on-read.ensures.ended _ c.in-Some.is).0)

pub returns : goal.returns
returns c =
    let p = c.args.p in
    let read = c.read_on-read in
    let made = c.answer-r in
    feeds-line p _ _ read.result read.ensures c.in-Some.n c.new.result made.result _ _ c.in-Some.is c.new.ensures made.ensures
