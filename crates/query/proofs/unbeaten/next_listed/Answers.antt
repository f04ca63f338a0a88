use mathlib.Core.Path.{sym, ◌∙◌}
use native.Mathlib.Omega.{arith}
use Rattle.memory.specs.Tests.{is_listed}
use Rattle.search.specs.Laws.Search.{none_more}
use Rattle.memory.specs.Laws.Turns.{listed_at}
use Rattle.query.proofs.unbeaten.next_listed.Goals as goal

pub returns-then-is_listed : goal.returns-then-is_listed
returns-then-is_listed c =
    let a = c.args in
    let own = c.loop-j in
    let number = c.number_at in
    record {
      first = record {
        from = omega arith;
        to = omega arith;
        passed = own.invariant;
        found = λ l. listed_at a.b.now.head.size a.b.now.bytes.now own.j number.result number.ensures.0 ∙ sym c.is_listed.ensures ∙ c.if-is_listed.true;
      };
      below = omega arith;
    }

pub loop-j-preserved : goal.loop-j-preserved
loop-j-preserved c =
    let a = c.args in
    let own = c.loop-j in
    let number = c.number_at in
    none_more (is_listed a.b.now.head.size a.b.now.bytes.now) a.i own.j own.invariant
    (listed_at a.b.now.head.size a.b.now.bytes.now own.j number.result number.ensures.0 ∙ sym c.is_listed.ensures ∙ c.if-is_listed.false)
