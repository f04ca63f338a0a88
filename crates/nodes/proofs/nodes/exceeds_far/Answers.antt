-- `nodes::exceeds_far` meets its contract. Assumes nothing.
use Prim.Native.Nat.{ℕ}
use mathlib.Core.Bool.{not}
use mathlib.Core.List.{List}
use mathlib.Core.Path.{sym, ap, ◌∙◌}
use native.Mathlib.Omega.{arith}
use lib.ListN.{take}
use Rattle.zorder.specs.Between.{far_of}
use Rattle.model.specs.Dominance.{somewhere_less}
use Rattle.nodes.specs.Laws.Corners.{within_all, within-going}
use Rattle.nodes.proofs.nodes.exceeds_far.Goals as goal

pub returns-then-b-goes : goal.returns-then-b-goes
returns-then-b-goes c =
    let a = c.args in
    let b = a.b.now in
    ap not (sym (within_all b.head.size b.head.dimension a.goes b.head.count b.bytes.now (far_of b.head.dimension a.first a.last) (omega (arith, c.if-b-goes.true))))

pub returns : goal.returns
returns c =
    let a = c.args in
    let b = a.b.now in
    let number = c.number_at in
    let far = c.far_of in
    c.exceeds.ensures
    ∙ ap (λ (q : List ℕ). somewhere_less (take b.head.dimension q) (take b.head.dimension c.costs_of-going.result)) far.ensures
    ∙ within-going b.head.size b.head.dimension a.goes b.head.count b.bytes.now (far_of b.head.dimension a.first a.last)
    (omega (arith, c.if-b-goes.false)) number.ensures.0 c.costs_of-going.ensures
