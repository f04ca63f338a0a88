-- `make::carry_out` meets its contract. Assumes nothing.
use Prim.Native.Nat.{ℕ}
use mathlib.Core.Path.{◌≡◌, refl, sym, ap, ◌∙◌}
use native.Mathlib.Omega.{arith}
use Rattle.promises.proofs.Laws.Answers.{ok-accepts, err-refuses}
use Rattle.memory.specs.Stores.{set_block}
use Rattle.planning.specs.Kind.{asked_number}
use Rattle.planning.proofs.Laws.Coming.{only, never}
use Rattle.board.specs.Laws.CarryOut.{carried-out}
use Rattle.board.proofs.make.carry_out.Goals as goal

pub returns-then-is_err : goal.returns-then-is_err
returns-then-is_err c =
    let refused = err-refuses c.args.p.verdict (sym c.is_err.ensures.value ∙ c.if-is_err.true) in
    record {
      between = c.args.m.now;
      refused = λ _. refl;
      moves = λ z. absurd (omega (arith, refused, z));
      given = λ z. absurd (omega (arith, refused, z));
      kept = λ z. absurd (omega (arith, refused, z));
    }

pub make_moves-requires : goal.make_moves-requires
make_moves-requires c = c.requires.moves (ok-accepts c.args.p.verdict (sym c.is_err.ensures.value ∙ c.if-is_err.false))

pub set_block-requires : goal.set_block-requires
set_block-requires c =
    let given = sym c.block.ensures ∙ c.in-Some.is in
    let able = c.requires.block (ok-accepts c.args.p.verdict (sym c.is_err.ensures.value ∙ c.if-is_err.false)) c.in-Some.block given in
    ((omega (arith, able.room, c.make_moves.ensures.length), able.room.1), omega (arith, able.number, c.number.ensures), omega (arith, able.block))

pub returns-in-Some : goal.returns-in-Some
returns-in-Some c =
    let a = c.args in
    let given = sym c.block.ensures ∙ c.in-Some.is in
    let number = ap (λ (n : ℕ). set_block a.p.head.size n c.in-Some.block c.make_moves.new.m) c.number.ensures in
    carried-out a.p (ok-accepts c.args.p.verdict (sym c.is_err.ensures.value ∙ c.if-is_err.false)) c.make_moves.ensures
    (λ block e.
    only (λ (k : ℕ). c.set_block.new.m ≡ set_block a.p.head.size (asked_number a.p.change) k c.make_moves.new.m) (c.set_block.ensures ∙ number) block (sym given ∙ e))
    (λ e. never (λ (k : ℕ). c.set_block.new.m ≡ c.make_moves.new.m) c.in-Some.block (sym e ∙ given))

pub returns-in_default : goal.returns-in_default
returns-in_default c =
    let a = c.args in
    carried-out a.p (ok-accepts c.args.p.verdict (sym c.is_err.ensures.value ∙ c.if-is_err.false)) c.make_moves.ensures
    (λ block e. absurd (c.in_default.not-Some block (c.block.ensures ∙ e))) (λ _. refl)
