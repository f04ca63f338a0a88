-- `order::stands_before` meets its contract: by the order of the costs, then by number. Assumes nothing.
use Rattle.std.proofs.Common.{rules}
use Prim.Native.Nat.{ℕ}
use mathlib.Core.Bool.{Bool, true, false, cond, ◌&&◌, ◌||◌}
use mathlib.Core.List.{List}
use mathlib.Core.Path.{◌≡◌, refl, ◌∙◌}
use lib.Dec.{ltb}
use Rattle.std.specs.Prelude.{◌==◌}
use Rattle.std.specs.Ordering.{is_lt, ordering_then, nat_cmp}
use Rattle.std.specs.declared.cmp.Ordering.TheVariants.{Less, Equal, Greater}
use Rattle.zorder.specs.Between.{before, same_place, order_of}
use Rattle.model.specs.Moves.{move_before, z_before}
use Rattle.memory.proofs.order.stands_before.Goals as goal

-- What an order of the costs says, where the numbers decide between equal ones.
stands : (d n m : ℕ) (p q : List ℕ) → is_lt (ordering_then (order_of d p q) (nat_cmp n m)) ≡ z_before d n p m q
unfolding order_of z_before
stands d n m p q = go (before d p q) (same_place d p q) (ltb n m) (n == m)
  where
    go : (b s l e : Bool) → is_lt (ordering_then (cond b Less (cond s Equal Greater)) (cond l Less (cond e Equal Greater))) ≡ (b || (s && l))
    go true s l e = refl
    go false false l e = refl
    go false true true e = refl
    go false true false true = refl
    go false true false false = refl

pub returns : goal.returns
unfolding move_before
returns c =
    let a = c.args in
    search rules ∙ stands a.d a.p.number a.q.number a.p.costs a.q.costs
