-- `judge::judge` meets its contract: each check by its answer. Assumes nothing.
use Prim.Native.Nat.{ℕ}
use mathlib.Core.Bool.{Bool, true, false, not, cond, beq}
use mathlib.Core.Path.{◌≡◌, refl, sym, ◌∙◌}
use native.Mathlib.Omega.{arith}
use borrow.Author.Tests.{le-leb, lt-leb}
use Rattle.zorder.specs.Refusal.{refusal}
use Rattle.model.proofs.Laws.Bool.{both_ways}
use Rattle.planning.specs.Kind.{asked_number}
use Rattle.planning.proofs.Laws.Judge.{judges-by}
use Rattle.planning.proofs.judge.judge.Goals as goal

-- The last check: a new number is not on the board, another is.
passes : (new on : Bool) → not (beq new on) ≡ true → ◌≡◌ {A = ℕ} 0 (cond (cond new on (not on)) (cond new 5 6) 0)
passes true true e = both_ways e refl
passes true false e = refl
passes false true e = refl
passes false false e = both_ways e refl

twice : (new on : Bool) → not (beq new on) ≡ false → on ≡ true → ◌≡◌ {A = ℕ} 5 (cond (cond new on (not on)) (cond new 5 6) 0)
twice true true e f = refl
twice true false e f = both_ways f refl
twice false true e f = both_ways refl e
twice false false e f = both_ways f refl

absent : (new on : Bool) → not (beq new on) ≡ false → on ≡ false → ◌≡◌ {A = ℕ} 6 (cond (cond new on (not on)) (cond new 5 6) 0)
absent true true e f = both_ways refl f
absent true false e f = both_ways refl e
absent false true e f = both_ways refl f
absent false false e f = refl

pub returns-then-h-number : goal.returns-then-h-number
unfolding refusal
returns-then-h-number c =
    let a = c.args in
    judges-by a.h a.x a.on true _ _ _ (le-leb a.h.size (asked_number a.x) (omega (arith, c.if-h-number.true, c.number.ensures))) refl refl refl refl

pub returns-then-gets_bad_block : goal.returns-then-gets_bad_block
unfolding refusal
returns-then-gets_bad_block c =
    let a = c.args in
    judges-by a.h a.x a.on false true _ _ (lt-leb a.h.size (asked_number a.x) (omega (arith, c.if-h-number.false, c.number.ensures)))
    (sym c.gets_bad_block.ensures ∙ c.if-gets_bad_block.true) refl refl refl

pub returns-then-gets_past_cost : goal.returns-then-gets_past_cost
unfolding refusal
returns-then-gets_past_cost c =
    let a = c.args in
    judges-by a.h a.x a.on false false true _ (lt-leb a.h.size (asked_number a.x) (omega (arith, c.if-h-number.false, c.number.ensures)))
    (sym c.gets_bad_block.ensures ∙ c.if-gets_bad_block.false) (sym c.gets_past_cost.ensures ∙ c.if-gets_past_cost.true) refl refl

pub returns-then-is_new-on : goal.returns-then-is_new-on
unfolding refusal
returns-then-is_new-on c =
    let a = c.args in
    judges-by a.h a.x a.on false false false _ (lt-leb a.h.size (asked_number a.x) (omega (arith, c.if-h-number.false, c.number.ensures)))
    (sym c.gets_bad_block.ensures ∙ c.if-gets_bad_block.false) (sym c.gets_past_cost.ensures ∙ c.if-gets_past_cost.false) (sym c.is_new.ensures)
    (passes c.is_new.result a.on c.if-is_new-on.true)

pub returns-then-on : goal.returns-then-on
unfolding refusal
returns-then-on c =
    let a = c.args in
    judges-by a.h a.x a.on false false false _ (lt-leb a.h.size (asked_number a.x) (omega (arith, c.if-h-number.false, c.number.ensures)))
    (sym c.gets_bad_block.ensures ∙ c.if-gets_bad_block.false) (sym c.gets_past_cost.ensures ∙ c.if-gets_past_cost.false) (sym c.is_new.ensures)
    (twice c.is_new.result a.on c.if-is_new-on.false c.if-on.true)

pub returns-else-on : goal.returns-else-on
unfolding refusal
returns-else-on c =
    let a = c.args in
    judges-by a.h a.x a.on false false false _ (lt-leb a.h.size (asked_number a.x) (omega (arith, c.if-h-number.false, c.number.ensures)))
    (sym c.gets_bad_block.ensures ∙ c.if-gets_bad_block.false) (sym c.gets_past_cost.ensures ∙ c.if-gets_past_cost.false) (sym c.is_new.ensures)
    (absent c.is_new.result a.on c.if-is_new-on.false c.if-on.false)
