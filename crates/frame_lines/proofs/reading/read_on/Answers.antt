use Prim.Native.Nat.{ℕ, ◌<◌}
use mathlib.Core.Path.{◌≡◌, ap, subst}
use native.Mathlib.Omega.{arith}
use lib.ListN.{length, get_or}
use Rattle.std.specs.Prelude.{Option}
use Rattle.frame_lines.specs.Text.{line_end}
use Rattle.frame_lines.specs.Reading.{ReadOn, taken_of}
use Rattle.frame_lines.specs.Laws.Lines.{read_more}
use Rattle.frame_lines.proofs.reading.read_on.Goals as goal

pub returns-then-b-eq10 : goal.returns-then-b-eq10
unfolding taken_of
returns-then-b-eq10 c =
    let bytes = c.args.bytes.now in
    record {
      read = c.loop-i.invariant;
      ended = λ n e.
          subst (λ (k : ℕ). (k < length bytes) × (get_or bytes k 0 ≡ line_end))
          (ap (λ (o : Option ℕ). taken_of o bytes) e) (c.loop-i-test.true, c.if-b-eq10.true);
    }

pub loop-i-preserved : goal.loop-i-preserved
loop-i-preserved c =
    read_more _ _ c.loop-i-test.true c.loop-i.invariant c.if-b-eq10.false c.step-l.ensures

pub returns : goal.returns
unfolding taken_of
returns c =
    let whole : c.loop-i.i ≡ length c.args.bytes.now = omega arith in
    record {
      read = subst (λ (n : ℕ). ReadOn c.args.line c.args.bytes.now n c.loop-i.l) whole c.loop-i.invariant;
      ended = λ n e. absurd (cc e);
    }
