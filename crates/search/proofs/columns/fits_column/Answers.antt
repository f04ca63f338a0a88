use Prim.Native.Nat.{ℕ}
use mathlib.Core.Bool.{Bool, cond}
use mathlib.Core.Path.{◌≡◌, ap, ◌∙◌}
use native.Mathlib.Omega.{arith}
use lib.Bits.{bit_or}
use lib.Dec.{eqb}
use Rattle.search.specs.Columns.{column_fits}
use Rattle.search.specs.Laws.Columns.{asked-none, asked-more}
use Rattle.search.proofs.columns.fits_column.Goals as goal

pub loop-k-init : goal.loop-k-init
loop-k-init c = let a = c.args in asked-none a.columns.now a.q a.j

pub loop-k-preserved : goal.loop-k-preserved
loop-k-preserved c =
    let a = c.args in
    let own = c.loop-k in
    ap (λ (x : ℕ). eqb (bit_or own.worse x) 0) c.over-worse.ensures ∙ asked-more a.columns.now a.q a.j own.worse own.k own.invariant

pub returns : goal.returns
returns c =
    let a = c.args in
    let own = c.loop-k in
    let all : own.k ≡ a.w = omega arith in
    c.zero.ensures ∙ ap (λ (t : Bool). cond t 1 0) (own.invariant ∙ ap (λ (w : ℕ). column_fits w a.columns.now a.q a.j) all)
