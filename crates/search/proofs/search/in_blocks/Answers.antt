-- `search::in_blocks` meets its contract. Assumes nothing.
use Prim.Native.Nat.{ℕ, ◌/◌, ◌%◌, ◌^◌}
use mathlib.Core.Path.{ap, ◌∙◌}
use lib.Bits.{and_mask}
use lib.Dec.{eqb}
use Rattle.search.specs.Search.{in_blocks}
use Rattle.search.proofs.search.in_blocks.Goals as goal

pub returns : goal.returns
unfolding in_blocks
returns c =
    let a = c.args in
    let block = c.block_of in
    ap (λ (b : ℕ). eqb b 1) (and_mask (a.blocks / 2 ^ (block.result % 64)) 1)
    ∙ ap (λ (k : ℕ). eqb (a.blocks / 2 ^ (k % 64) % 2) 1) block.ensures
