use Prim.Native.Nat.{ℕ, ◌/◌, ◌%◌, ◌^◌, ◌<◌}
use mathlib.Core.Path.{◌≡◌, sym, ap, ◌∙◌}
use native.Mathlib.Nat.{zero-div}
use native.Mathlib.Omega.{arith}
use lib.Bits.{bit_or}
use lib.Dec.{eqb}
use lib.ListN.{length-take}
use Rattle.zorder.proofs.Bits.{shl_one}
use Rattle.numbers.proofs.Bits.{set-bit-same, set-bit-other}
use Rattle.model.specs.Hours.{block_count}
use Rattle.hours.specs.Laws.Blocks.{open_none, open_more, open-same, open-all}
use Rattle.hours.proofs.blocks.open_blocks.Goals.{else-open_at, then-open_at}
use Rattle.hours.proofs.blocks.open_blocks.Goals as goal

pub loop-k-init : goal.loop-k-init
loop-k-init c =
    let a = c.args in
    (omega arith, open_none a.minute a.hours.now 0 (λ j. ap (λ (w : ℕ). eqb (w % 2) 1) (zero-div (2 ^ j))))

pub offset_bounds-hours-k : goal.offset_bounds-hours-k
offset_bounds-hours-k c = omega (arith, length-take block_count c.args.hours.now)

pub bounds-hours-k : goal.bounds-hours-k
bounds-hours-k c = omega (arith, length-take block_count c.args.hours.now)

pub overflow_shl-blocks : goal.overflow_shl-blocks
overflow_shl-blocks c = omega (arith, length-take block_count c.args.hours.now)

pub loop-k-preserved : goal.loop-k-preserved
loop-k-preserved c =
    let a = c.args in
    let own = c.loop-k in
    let k = own.k in
    let few : k < 64 = omega (arith, length-take block_count a.hours.now) in
    let says = sym c.open_at.ensures in (
      omega arith,
      elim c.if-open_at.branch [
        | then-open_at w ↦ let set : c.if-open_at.blocks ≡ bit_or own.blocks (2 ^ k) = w.blocks-is ∙ ap (bit_or own.blocks) (shl_one 64 k few) in
            open_more own.invariant.1 (omega arith) c.if-open_at.blocks (says ∙ w.if-open_at.true)
            (ap (λ (v : ℕ). eqb (v / 2 ^ k % 2) 1) set ∙ set-bit-same own.blocks k)
            (λ j other. ap (λ (v : ℕ). v / 2 ^ j % 2) set ∙ set-bit-other own.blocks k j other)
        | else-open_at w ↦ open-same own.invariant.1 (omega arith) c.if-open_at.blocks (says ∙ w.if-open_at.false) w.blocks-is
      ],
    )

pub returns : goal.returns
returns c = open-all c.loop-k.invariant.1 (omega arith) (omega arith)
