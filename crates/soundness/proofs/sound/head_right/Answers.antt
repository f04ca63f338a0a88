-- `sound::head_right` meets its contract: each test is one of the definition's. Assumes nothing.
use mathlib.Core.Path.{sym, ap, ap₂, ◌∙◌}
use native.Mathlib.Omega.{arith}
use borrow.Author.Tests.{eqb-true, eq-eqb}
use lib.Dec.{leb}
use Rattle.zorder.specs.Refusal.{cost_count_bad}
use Rattle.model.specs.Calls.{size_bad, memory_need}
use Rattle.model.proofs.Laws.Bool.{both_ways}
use Rattle.promises.specs.Layout.{format_in, format_number}
use Rattle.soundness.specs.Laws.Head.{head-wrong, head-count}
use Rattle.soundness.proofs.sound.head_right.Goals as goal

pub returns-then-size_bad : goal.returns-then-size_bad
returns-then-size_bad c =
    let m = c.args.m.now in
    sym (head-wrong m (λ r. both_ways (sym c.size_bad.ensures ∙ c.if-size_bad.true) (ap size_bad c.requires.size ∙ r.size)))

pub returns-then-cost_count_bad : goal.returns-then-cost_count_bad
returns-then-cost_count_bad c =
    let m = c.args.m.now in
    sym (head-wrong m (λ r. both_ways (sym c.cost_count_bad.ensures ∙ c.if-cost_count_bad.true) (ap cost_count_bad c.requires.dimension ∙ r.dimension)))

pub returns-then-not-has_format : goal.returns-then-not-has_format
returns-then-not-has_format c =
    let m = c.args.m.now in
    let answer = c.has_format in
    sym (head-wrong m (λ r. both_ways (eq-eqb (format_in m) format_number r.format) (sym answer.ensures ∙ c.if-not-has_format.true)))

pub memory_need-requires : goal.memory_need-requires
memory_need-requires c = sym c.size_bad.ensures ∙ c.if-size_bad.false

pub returns-then-m-memory_need : goal.returns-then-m-memory_need
returns-then-m-memory_need c =
    let m = c.args.m.now in
    sym (head-wrong m (λ r. omega (arith, c.if-m-memory_need.true, c.memory_need.ensures, ap memory_need c.requires.size, r.room)))

pub returns : goal.returns
returns c =
    let m = c.args.m.now in
    let own = c.requires in
    let format = c.has_format in
    ap₂ leb own.count own.size
    ∙ sym
    (head-count m (λ l.
    record {
      size = ap size_bad (sym own.size) ∙ sym c.size_bad.ensures ∙ c.if-size_bad.false;
      dimension = ap cost_count_bad (sym own.dimension) ∙ sym c.cost_count_bad.ensures ∙ c.if-cost_count_bad.false;
      format = eqb-true (format_in m) format_number (sym format.ensures ∙ c.if-not-has_format.false);
      room = omega (arith, c.if-m-memory_need.false, c.memory_need.ensures, ap memory_need own.size);
      count = l;
    }))
