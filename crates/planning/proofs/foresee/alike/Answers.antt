-- `foresee::alike` meets its contract. Assumes nothing.
use Prim.Native.Nat.{ℕ}
use mathlib.Core.Bool.{Bool, false, ◌&&◌}
use mathlib.Core.List.{List, [], ◌∷◌}
use mathlib.Core.Path.{◌≡◌, refl, sym, ap, ◌∙◌}
use borrow.Author.Tests.{lt-ltb, le-ltb}
use lib.Dec.{eqb, ltb}
use lib.Pointwise.{pointwise}
use Rattle.std.specs.Prelude.{Option, Some, None}
use Rattle.std.specs.Option.{option_map_or}
use Rattle.model.specs.Basics.{equal}
use Rattle.promises.specs.Layout.{number_in, costs_in, move_in}
use Rattle.dominance.specs.declared.Move.{Move}
use Rattle.upkeep.specs.declared.exchange.Exchange.{Exchange}
use Rattle.planning.specs.Plan.{alike}
use Rattle.planning.proofs.foresee.alike.Goals as goal

-- Comparing costs is what the definition says.
compared : (p q : List ℕ) → pointwise eqb p q ≡ equal p q
unfolding equal
compared [] [] = refl
compared [] (y ∷ q) = refl
compared (x ∷ p) [] = refl
compared (x ∷ p) (y ∷ q) = ap (λ (t : Bool). eqb x y && t) (compared p q)

alike-by : (c d n : ℕ) (k : Exchange) (m : List ℕ) (o : Option Move) → k.coming ≡ o
    → option_map_or (λ x. ltb k.goes n && equal x.costs (costs_in c d m (number_in c m k.goes))) o false ≡ alike c d n k m
unfolding alike
alike-by c d n k m o e =
    ap (λ (p : Option Move). option_map_or (λ x. ltb k.goes n && equal x.costs (costs_in c d m (number_in c m k.goes))) p false) (sym e)

pub returns-in_default : goal.returns-in_default
returns-in_default c =
    let b = c.args.b.now in
    alike-by b.head.size b.head.dimension b.head.count c.args.k b.bytes.now None c.in_default.is

pub returns-then-k-b : goal.returns-then-k-b
unfolding move_in
returns-then-k-b c =
    let k = c.args.k in
    let b = c.args.b.now in
    let x = c.in-Some.x in
    let costs = costs_in b.head.size b.head.dimension b.bytes.now (number_in b.head.size b.bytes.now k.goes) in
    c.eq.ensures
    ∙ compared x.costs c.costs_at.result
    ∙ ap (equal x.costs) c.costs_at.ensures
    ∙ ap (λ (t : Bool). t && equal x.costs costs) (sym (lt-ltb k.goes b.head.count c.if-k-b.true))
    ∙ alike-by b.head.size b.head.dimension b.head.count k b.bytes.now (Some x) c.in-Some.is

pub returns-else-k-b : goal.returns-else-k-b
returns-else-k-b c =
    let k = c.args.k in
    let b = c.args.b.now in
    let x = c.in-Some.x in
    let costs = costs_in b.head.size b.head.dimension b.bytes.now (number_in b.head.size b.bytes.now k.goes) in
    let past = le-ltb k.goes b.head.count c.if-k-b.false in
    past
    ∙ ap (λ (t : Bool). t && equal x.costs costs) (sym past)
    ∙ alike-by b.head.size b.head.dimension b.head.count k b.bytes.now (Some x) c.in-Some.is
