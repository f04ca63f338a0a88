-- Two words as a number. Assumes nothing.
use Prim.Native.Nat.{ℕ, ◌*◌, ◌%◌, ◌^◌}
use mathlib.Core.Path.{ap₂, ◌∙◌}
use native.Mathlib.Omega.{arith}
use lib.Bits.{bit_or}
use Rattle.zorder.specs.Words.{value}
use Rattle.zorder.proofs.Bits.{shl-or}
use Rattle.zorder.proofs.two_words.U128FromAddressWords.from.Goals as goal

pub returns : goal.returns
unfolding value
returns c =
    let a = c.args.a in
    ap₂ (λ (u l : ℕ). bit_or (u * 2 ^ 64 % 2 ^ 128) l) c.from.ensures c.from-2.ensures
    ∙ shl-or 128 64 a.upper a.lower (omega arith) (omega arith)
