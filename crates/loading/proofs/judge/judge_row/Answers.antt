-- `judge::judge_row` meets its contract: its tests are those of the definition, in their order. Assumes nothing.
use Rattle.std.specs.Prelude.{true, false, not, refl}
use Rattle.std.proofs.Common.{sym, ap, ◌∙◌, le-leb}
use Rattle.std.proofs.lemmas.Bool.{lt-leb}
use Rattle.zorder.specs.Refusal.{refusal, cost_past_bad}
use Rattle.promises.specs.Answers.{input_row}
use Rattle.loading.proofs.Judging.{row-judged}
use Rattle.loading.proofs.judge.judge_row.Goals as goal

pub returns-then-c-number : goal.returns-then-c-number
unfolding refusal
returns-then-c-number c =
    let number = c.number_of-number.ensures in
    row-judged number.1 true _ _ _ (rw (sym number.0) (le-leb _ _ c.if-c-number.true)) refl refl refl refl

pub returns-then-block_bad : goal.returns-then-block_bad
unfolding refusal
returns-then-block_bad c =
    let number = c.number_of-number.ensures in
    row-judged number.1 false true _ _ (rw (sym number.0) (lt-leb _ _ c.if-c-number.false)) (rw (sym c.block_of-block.ensures) (sym c.block_bad.ensures ∙ c.if-block_bad.true)) refl refl refl

pub returns-then-not-zero_past : goal.returns-then-not-zero_past
unfolding refusal cost_past_bad input_row
returns-then-not-zero_past c =
    let number = c.number_of-number.ensures in
    row-judged number.1 false false true _ (rw (sym number.0) (lt-leb _ _ c.if-c-number.false)) (rw (sym c.block_of-block.ensures) (sym c.block_bad.ensures ∙ c.if-block_bad.false))
    (rw (sym c.costs_from.ensures) (ap not (sym c.zero_past.ensures ∙ c.if-not-zero_past.true))) refl refl

pub returns-then-has : goal.returns-then-has
unfolding refusal cost_past_bad input_row
returns-then-has c =
    let number = c.number_of-number.ensures in
    row-judged number.1 false false false true (rw (sym number.0) (lt-leb _ _ c.if-c-number.false)) (rw (sym c.block_of-block.ensures) (sym c.block_bad.ensures ∙ c.if-block_bad.false))
    (rw (sym c.costs_from.ensures) (ap not (sym c.zero_past.ensures ∙ c.if-not-zero_past.false))) (rw (sym number.0) (sym c.has.ensures ∙ c.if-has.true)) refl

pub returns : goal.returns
unfolding refusal cost_past_bad input_row
returns c =
    let number = c.number_of-number.ensures in
    row-judged number.1 false false false false (rw (sym number.0) (lt-leb _ _ c.if-c-number.false)) (rw (sym c.block_of-block.ensures) (sym c.block_bad.ensures ∙ c.if-block_bad.false))
    (rw (sym c.costs_from.ensures) (ap not (sym c.zero_past.ensures ∙ c.if-not-zero_past.false))) (rw (sym number.0) (sym c.has.ensures ∙ c.if-has.false)) refl
