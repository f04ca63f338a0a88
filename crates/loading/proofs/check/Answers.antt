-- `check` meets its contract: its tests are those of the definition, in their order. Assumes nothing.
use Rattle.std.specs.Prelude.{true, false, ◌||◌, ◌≡◌, refl, ltb}
use Rattle.std.proofs.Common.{sym, ◌∙◌, arith, lt-ltb, le-ltb}
use Rattle.zorder.specs.Refusal.{refusal, cost_count_bad}
use Rattle.model.specs.Calls.{size_bad, memory_need}
use Rattle.model.proofs.Laws.Bool.{or_left, or_right}
use Rattle.loading.proofs.check.Goals.{then-size_bad-via-else-size_bad+then-cost_count_bad, then-size_bad-via-then-size_bad}
use Rattle.loading.proofs.check.Goals as goal

pub returns-then-size_bad : goal.returns-then-size_bad
unfolding refusal
returns-then-size_bad c =
    let a = c.args in
    let bad : (size_bad a.c || cost_count_bad a.d) ≡ true =
    elim c.then-size_bad.branch [
      | then-size_bad-via-then-size_bad w ↦ or_left (size_bad a.c) (cost_count_bad a.d) (sym c.size_bad.ensures ∙ w.if-size_bad.true)
      | then-size_bad-via-else-size_bad+then-cost_count_bad w ↦ or_right (size_bad a.c) (cost_count_bad a.d) (sym w.cost_count_bad.ensures ∙ w.if-cost_count_bad.true)
    ] in
    rw bad refl

pub memory_need-requires : goal.memory_need-requires
memory_need-requires c = sym c.size_bad.ensures ∙ c.if-size_bad.false

pub returns-then-bytes-memory_need : goal.returns-then-bytes-memory_need
unfolding refusal
returns-then-bytes-memory_need c =
    let a = c.args in
    let size : size_bad a.c ≡ false = sym c.size_bad.ensures ∙ c.if-size_bad.false in
    let costs : cost_count_bad a.d ≡ false = sym c.cost_count_bad.ensures ∙ c.if-cost_count_bad.false in
    let short : ltb a.bytes (memory_need a.c) ≡ true = lt-ltb _ _ (omega (arith, c.if-bytes-memory_need.true, c.memory_need.ensures)) in
    rw (size, costs, short) refl

pub returns : goal.returns
unfolding refusal
returns c =
    let a = c.args in
    let size : size_bad a.c ≡ false = sym c.size_bad.ensures ∙ c.if-size_bad.false in
    let costs : cost_count_bad a.d ≡ false = sym c.cost_count_bad.ensures ∙ c.if-cost_count_bad.false in
    let room : ltb a.bytes (memory_need a.c) ≡ false = le-ltb _ _ (omega (arith, c.if-bytes-memory_need.false, c.memory_need.ensures)) in
    rw (size, costs, room) refl
