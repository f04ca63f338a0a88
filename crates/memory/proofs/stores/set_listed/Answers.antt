-- `stores::set_listed` meets its contract. Assumes nothing.
use Prim.Native.Nat.{ℕ}
use mathlib.Core.Bool.{Bool, true, false, cond}
use mathlib.Core.Path.{◌≡◌, refl, ap₂, ◌∙◌}
use lib.ListN.{set}
use mir.Val.{bool_byte}
use Rattle.memory.specs.Stores.{set_listed}
use Rattle.memory.proofs.stores.set_listed.Goals as goal

flag_byte : (b : Bool) → bool_byte b ≡ cond b 1 0
flag_byte true = refl
flag_byte false = refl

pub returns : goal.returns
unfolding set_listed
returns c = ap₂ (set c.args.m.now) c.flag_place.ensures (c.from.ensures ∙ flag_byte c.args.listed)
