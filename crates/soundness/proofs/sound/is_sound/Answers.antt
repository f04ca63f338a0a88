-- `sound::is_sound` meets its contract: the tests decide. Assumes nothing.
use mathlib.Core.Bool.{Bool, true, false}
use mathlib.Core.Path.{◌≡◌, sym, ◌∙◌}
use native.Mathlib.Omega.{arith}
use Rattle.promises.specs.Run.{Bytes}
use Rattle.memory.specs.Laws.Ordered.{right-ordered}
use Rattle.soundness.specs.Laws.Decide.{head-decides, numbers-decides, order-decides, heights-decides, flags-decides, own_room, own-readable}
use Rattle.soundness.proofs.sound.is_sound.Goals as goal

-- What a test says that passed, and one that did not.
passed : {r t : Bool} → r ≡ t → r ≡ true → t ≡ true
passed is e = sym is ∙ e

failed : {r t : Bool} → r ≡ t → r ≡ false → t ≡ false
failed is e = sym is ∙ e

pub returns-then-not-head_right : goal.returns-then-not-head_right
returns-then-not-head_right c = head-decides c.args.m.now (failed c.head_right.ensures c.if-not-head_right.true)

pub numbers_right-requires : goal.numbers_right-requires
numbers_right-requires c = own_room c.args.m.now c.args.h c.requires (passed c.head_right.ensures c.if-not-head_right.false)

pub returns-then-not-numbers_right : goal.returns-then-not-numbers_right
returns-then-not-numbers_right c = numbers-decides c.args.m.now c.args.h c.requires (failed c.numbers_right.ensures c.if-not-numbers_right.true)

pub invariant_of-b : goal.invariant_of-b
invariant_of-b c = record {
  readable = own-readable c.args.m.now c.args.h c.requires (passed c.head_right.ensures c.if-not-head_right.false)
      (passed c.numbers_right.ensures c.if-not-numbers_right.false);
  fits = λ i. omega (arith, c.shared_slice_known-1.given i);
}

pub returns-then-not-order_right : goal.returns-then-not-order_right
returns-then-not-order_right c = order-decides c.args.m.now c.args.h c.requires (failed c.order_right.ensures c.if-not-order_right.true)

pub heights_right-requires : goal.heights_right-requires
heights_right-requires c =
    own_room c.args.m.now c.args.h c.requires (passed c.head_right.ensures c.if-not-head_right.false)

pub returns-then-not-heights_right : goal.returns-then-not-heights_right
returns-then-not-heights_right c = heights-decides c.args.m.now c.args.h c.requires (failed c.heights_right.ensures c.if-not-heights_right.true)

pub flags_right-requires : goal.flags_right-requires
flags_right-requires c =
    let h = c.args.h in
    right-ordered h.size h.dimension h.count c.args.m.now (passed c.order_right.ensures c.if-not-order_right.false)

pub returns : goal.returns
unfolding Bytes
returns c =
    flags-decides c.args.m.now c.args.h c.requires
    (λ i. omega (arith, c.shared_slice_known-1.given i))
    (passed c.head_right.ensures c.if-not-head_right.false)
    (passed c.numbers_right.ensures c.if-not-numbers_right.false)
    (passed c.order_right.ensures c.if-not-order_right.false)
    (passed c.heights_right.ensures c.if-not-heights_right.false)
    c.flags_right.result c.flags_right.ensures
