use Prim.Native.Nat.{ℕ}
use mathlib.Core.Bool.{Bool, true, false}
use mathlib.Core.List.{List}
use mathlib.Core.Path.{◌≡◌, sym, ap₂, ◌∙◌, subst}
use native.Mathlib.Omega.{arith}
use lib.ListN.{take}
use Rattle.model.specs.Dominance.{somewhere_less}
use Rattle.dominance.specs.Lanes.{Lanes, bound, is_first}
use Rattle.promises.specs.Layout.{move_in}
use Rattle.promises.specs.Run.{Bytes}
use Rattle.search.specs.Search.{fits}
use Rattle.search.specs.Laws.Counts.{CountedTo}
use Rattle.search.specs.declared.search.Among.TheVariants.{All}
use Rattle.query.specs.Band.{dominates_place}
use Rattle.search.specs.Laws.Search.{index-corners, found-at, found-below}
use Rattle.query.specs.Laws.Band.{dominators-first, dominators-next, dominators-over}
use Rattle.query.proofs.band.few_before.Goals.{else-exceeds, then-exceeds+else-found-most}
use Rattle.query.proofs.band.few_before.Goals as goal

-- The bounds are those of the move at place i.
bounds : (c d i : ℕ) (m costs q : List ℕ) → costs ≡ (move_in c d m i).costs → Lanes (bound (is_first d) costs) q → Lanes (bound (is_first d) (move_in c d m i).costs) q
bounds c d i m costs q e l = subst (λ (x : List ℕ). Lanes (bound (is_first d) x) q) e l

-- Whether the move at place j is somewhere less, as the code has it.
lower : (d : ℕ) {p p' q q' : List ℕ} {r : Bool} → p ≡ p' → q ≡ q' → r ≡ somewhere_less (take d p) (take d q) → somewhere_less (take d p') (take d q') ≡ r
lower d e f g = ap₂ (λ (x y : List ℕ). somewhere_less (take d x) (take d y)) (sym e) (sym f) ∙ sym g

pub next_within-next-requires : goal.next_within-next-requires
next_within-next-requires c = record { places = (omega arith, omega arith); corners = index-corners c.args.all.now c.requires.all (omega arith) }

pub next_within-next-requires-in-Some : goal.next_within-next-requires-in-Some
next_within-next-requires-in-Some c =
    record { places = (omega (arith, found-below c.args.i c.in-Some.is c.loop-next.invariant.2), omega arith); corners = index-corners c.args.all.now c.requires.all (omega arith) }

pub loop-next-init : goal.loop-next-init
unfolding Bytes
loop-next-init c =
    let a = c.args in
    let bytes : Bytes a.all.now.board.bytes.now = λ k. omega (arith, c.args.all.now.board.fits k) in
    let bound_at = bounds a.all.now.board.head.size a.all.now.board.head.dimension a.i a.all.now.board.bytes.now _ _ c.costs_at-costs.ensures c.bounds_of-q.ensures in
    let first = c.next_within-next.ensures in
    (dominators-first a.all.now.board.head.size a.all.now.board.head.dimension a.all.now.board.bytes.now c.args.all.now.board.readable.dimension bytes a.i c.bounds_of-q.result bound_at (omega arith) first.first, omega arith, first.below)

pub returns-then-found-most : goal.returns-then-found-most
unfolding Bytes
returns-then-found-most c =
    let a = c.args in
    let own = c.loop-next in
    let at = found-at a.i (λ (j : ℕ). CountedTo (fits All a.all.now.board.head.size a.all.now.board.bytes.now c.bounds_of-q.result) (dominates_place a.all.now.board.head.size a.all.now.board.head.dimension a.all.now.board.bytes.now a.i) a.i j own.found) c.in-Some.is own.invariant.0 in
    let before = found-below a.i c.in-Some.is own.invariant.2 in
    let bytes : Bytes a.all.now.board.bytes.now = λ k. omega (arith, c.args.all.now.board.fits k) in
    let bound_at = bounds a.all.now.board.head.size a.all.now.board.head.dimension a.i a.all.now.board.bytes.now _ _ c.costs_at-costs.ensures c.bounds_of-q.ensures in
    let less = lower a.all.now.board.head.dimension c.costs_at.ensures c.costs_at-costs.ensures c.exceeds.ensures in
    sym
    (dominators-over a.all.now.board.head.size a.all.now.board.head.dimension a.all.now.board.bytes.now c.args.all.now.board.readable.dimension bytes a.i c.bounds_of-q.result bound_at at a.most before
    (less ∙ c.if-exceeds.true) c.if-found-most.true)

pub loop-next-preserved : goal.loop-next-preserved
unfolding Bytes
loop-next-preserved c =
    let a = c.args in
    let own = c.loop-next in
    let at = found-at a.i (λ (j : ℕ). CountedTo (fits All a.all.now.board.head.size a.all.now.board.bytes.now c.bounds_of-q.result) (dominates_place a.all.now.board.head.size a.all.now.board.head.dimension a.all.now.board.bytes.now a.i) a.i j own.found) c.in-Some.is own.invariant.0 in
    let before = found-below a.i c.in-Some.is own.invariant.2 in
    let bytes : Bytes a.all.now.board.bytes.now = λ k. omega (arith, c.args.all.now.board.fits k) in
    let bound_at = bounds a.all.now.board.head.size a.all.now.board.head.dimension a.i a.all.now.board.bytes.now _ _ c.costs_at-costs.ensures c.bounds_of-q.ensures in
    let less = lower a.all.now.board.head.dimension c.costs_at.ensures c.costs_at-costs.ensures c.exceeds.ensures in
    let first = c.next_within-next-in-Some.ensures in
    let turn = dominators-next a.all.now.board.head.size a.all.now.board.head.dimension a.all.now.board.bytes.now c.args.all.now.board.readable.dimension bytes a.i c.bounds_of-q.result bound_at at in
    elim c.if-exceeds.branch [
      | then-exceeds+else-found-most w ↦ (turn true before (less ∙ w.if-exceeds.true) w.found-is first.first, omega (arith, w.if-found-most.false, w.found-is, own.invariant.1), first.below)
      | else-exceeds w ↦ (turn false before (less ∙ w.if-exceeds.false) (omega (arith, w.found-is)) first.first, omega (arith, w.found-is, own.invariant.1), first.below)
    ]
