use Prim.Native.Nat.{ℕ, ◌+◌}
use mathlib.Core.Bool.{Bool, ◌&&◌}
use mathlib.Core.List.{List}
use mathlib.Core.Logic.{inl, inr}
use mathlib.Core.Path.{◌≡◌, sym, ap, ◌∙◌}
use native.Mathlib.Omega.{arith}
use lib.Dec.{leb}
use lib.ListN.{drop}
use borrow.Author.Tests.{ltb-true, ltb-false, le-leb, lt-leb}
use Rattle.model.specs.Basics.{within}
use Rattle.model.proofs.Laws.Tree.{within-true, within-false}
use Rattle.line.specs.Heights.{counts_from, counts_at}
use Rattle.promises.specs.Layout.{heights_from}
use Rattle.soundness.specs.Laws.Levels.{counts-first, counts-last, node-right, node-wrong, node-entry, node-inside}
use Rattle.soundness.proofs.heights.counts_right.Goals.{else-l-h+else-l-h-2, else-l-h+then-l-h-2, then-entries-lo-via-else-entries-lo+then-entries-gt8, then-entries-lo-via-then-entries-lo, then-l-h+else-entries-lo+else-entries-gt8}
use Rattle.soundness.proofs.heights.counts_right.Goals as goal

-- At the end the node at hand is left.
ended : (c n : ℕ) (m : List ℕ) (l lo k i : ℕ) → i ≡ n → counts_from l lo k (drop i (heights_from c n m)) ≡ counts_at l lo (heights_from c n m)
    → within lo 8 k ≡ counts_at l lo (heights_from c n m)
ended c n m l lo k i e h =
    sym (counts-last c m l lo k n) ∙ ap (λ (j : ℕ). counts_from l lo k (drop j (heights_from c n m))) (sym e) ∙ h

pub loop-i-init : goal.loop-i-init
loop-i-init c =
    let a = c.args in
    (omega arith, counts-first a.c a.m.now a.l a.lo a.n (omega arith))

pub returns-then-entries-lo : goal.returns-then-entries-lo
returns-then-entries-lo c =
    let a = c.args in
    let own = c.loop-i in
    sym
    (node-wrong a.c a.n a.m.now a.l a.lo own.entries own.i (omega arith) (omega arith)
    (within-false a.lo 8 own.entries (elim c.then-entries-lo.branch [ then-entries-lo-via-then-entries-lo w ↦ inl w.if-entries-lo.true | then-entries-lo-via-else-entries-lo+then-entries-gt8 w ↦ inr (omega (arith, ltb-true, w.if-entries-gt8.true)) ])))
    ∙ own.invariant.1

pub loop-i-preserved : goal.loop-i-preserved
loop-i-preserved c =
    let a = c.args in
    let own = c.loop-i in
    let left : ℕ → Bool = λ k. counts_from a.l a.lo k (drop (own.i + 1) (heights_from a.c a.n a.m.now)) in (
      elim c.if-l-h.branch [ then-l-h+else-entries-lo+else-entries-gt8 w ↦ omega (arith, w.entries-is) | else-l-h+then-l-h-2 w ↦ omega (arith, w.entries-is) | else-l-h+else-l-h-2 w ↦ omega (arith, w.entries-is) ],
      elim c.if-l-h.branch [ then-l-h+else-entries-lo+else-entries-gt8 w ↦ ap left w.entries-is ∙ sym (node-right a.c a.n a.m.now a.l a.lo own.entries own.i (omega arith) (omega (arith, w.if-l-h.true)) (within-true a.lo 8 own.entries (omega (arith, w.if-entries-lo.false)) (omega (arith, ltb-false, w.if-entries-gt8.false)))) | else-l-h+then-l-h-2 w ↦ ap left w.entries-is ∙ sym (node-entry a.c a.n a.m.now a.l a.lo own.entries own.i (omega arith) (omega (arith, w.if-l-h.false)) (omega (arith, w.if-l-h-2.true))) | else-l-h+else-l-h-2 w ↦ ap left w.entries-is ∙ sym (node-inside a.c a.n a.m.now a.l a.lo own.entries own.i (omega arith) (omega (arith, w.if-l-h-2.false))) ]
          ∙ own.invariant.1,
    )

pub returns-then-lo-entries : goal.returns-then-lo-entries
unfolding within
returns-then-lo-entries c =
    let a = c.args in
    let own = c.loop-i in
    ap (λ (b : Bool). b && leb own.entries 8) (sym (le-leb a.lo own.entries (omega arith)))
    ∙ ended a.c a.n a.m.now a.l a.lo own.entries own.i (omega arith) own.invariant.1

pub returns-else-lo-entries : goal.returns-else-lo-entries
unfolding within
returns-else-lo-entries c =
    let a = c.args in
    let own = c.loop-i in
    let low = lt-leb a.lo own.entries (omega arith) in
    low ∙ ap (λ (b : Bool). b && leb own.entries 8) (sym low)
    ∙ ended a.c a.n a.m.now a.l a.lo own.entries own.i (omega arith) own.invariant.1
