-- `ranges::block_bad` meets its contract. Assumes nothing.
use Prim.Native.Nat.{ℕ, ◌<◌}
use mathlib.Core.Path.{◌≡◌, sym, ◌∙◌}
use native.Mathlib.Decide.{dec_lt}
use native.Mathlib.Omega.{arith}
use borrow.Author.Tests.{lt-ltb, le-ltb}
use lib.Dec.{ltb}
use Rattle.model.specs.Calls.{block_bad}
use Rattle.model.proofs.Laws.Blocks.{block-low, block-high}
use Rattle.promises.proofs.ranges.block_bad.Goals as goal

most : (n : ℕ) → Dec (63 < n) → ltb 63 n ≡ block_bad n
most n (yes h) = lt-ltb 63 n h ∙ sym (block-high n h)
most n (no h) = le-ltb 63 n (omega arith) ∙ sym (block-low n (omega arith))

pub returns : goal.returns
returns c = let n : ℕ = c.args.block in most n (dec_lt 63 n)
