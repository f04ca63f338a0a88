use Prim.Native.Nat.{ℕ}
use mathlib.Core.Bool.{Bool, not, ◌&&◌}
use mathlib.Core.Path.{sym, ap}
use native.Mathlib.Omega.{arith}
use lib.Dec.{eqb}
use Rattle.promises.specs.Run.{Bytes}
use Rattle.search.specs.Laws.Search.{first-among, found-at, found-none, found-below}
use Rattle.nodes.specs.Laws.Corners.{Sought, sought-first, sought-next, sought-found, sought-none}
use Rattle.nodes.proofs.nodes.corner_dominated.Goals as goal

pub loop-found-init : goal.loop-found-init
unfolding Bytes
loop-found-init c =
    let a = c.args in
    let b = a.listed.now.board in
    let first = first-among _ _ _ c.requires.listed c.next_within-found.ensures in (
      sought-first b.head.size b.head.dimension a.goes a.i b.bytes.now a.near c.bounds_of-q.result b.readable.dimension
          b.fits (omega arith) c.bounds_of-q.ensures _ first.first,
      first.below,
    )

pub returns-then-j-goes : goal.returns-then-j-goes
unfolding Bytes
returns-then-j-goes c =
    let a = c.args in
    let b = a.listed.now.board in
    let own = c.loop-found in
    let q = c.bounds_of-q in
    let at = found-at a.i (λ (k : ℕ). Sought b.head.size b.head.dimension a.goes a.i b.bytes.now a.near c.bounds_of-q.result k) c.in-Some.is own.invariant.0 in
    let number = c.number_at in
    let costs = c.costs_of-costs in
    let less = c.exceeds in
    sym
    (sought-found b.head.size b.head.dimension a.goes a.i b.bytes.now a.near q.result b.readable.dimension
    b.fits (omega (arith, c.well_formed)) q.ensures c.in-Some.j at
    number.result number.ensures.0 costs.result costs.ensures (not (eqb c.in-Some.j a.goes) && less.result) (ap (λ (t : Bool). not (eqb c.in-Some.j a.goes) && t) less.ensures) (found-below a.i c.in-Some.is own.invariant.1) c.if-j-goes.true)

pub loop-found-preserved : goal.loop-found-preserved
unfolding Bytes
loop-found-preserved c =
    let a = c.args in
    let b = a.listed.now.board in
    let own = c.loop-found in
    let q = c.bounds_of-q in
    let at = found-at a.i (λ (k : ℕ). Sought b.head.size b.head.dimension a.goes a.i b.bytes.now a.near c.bounds_of-q.result k) c.in-Some.is own.invariant.0 in
    let number = c.number_at in
    let costs = c.costs_of-costs in
    let less = c.exceeds in
    let first = first-among _ _ _ c.requires.listed c.next_within-found-in-Some.ensures in (
      sought-next b.head.size b.head.dimension a.goes a.i b.bytes.now a.near q.result b.readable.dimension
          b.fits (omega (arith, c.well_formed)) q.ensures c.in-Some.j at
          number.result number.ensures.0 costs.result costs.ensures (not (eqb c.in-Some.j a.goes) && less.result) (ap (λ (t : Bool). not (eqb c.in-Some.j a.goes) && t) less.ensures) c.if-j-goes.false _ first.first,
      first.below,
    )

pub returns : goal.returns
returns c =
    let a = c.args in
    let b = a.listed.now.board in
    let own = c.loop-found in
    sym (sought-none b.head.size b.head.dimension a.goes a.i b.bytes.now a.near c.bounds_of-q.result a.i
    (found-none a.i (λ (k : ℕ). Sought b.head.size b.head.dimension a.goes a.i b.bytes.now a.near c.bounds_of-q.result k) c.in_default.is own.invariant.0) (omega arith))
