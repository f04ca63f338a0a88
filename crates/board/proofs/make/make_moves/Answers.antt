-- `make::make_moves` meets its contract. Assumes nothing.
use mathlib.Core.Path.{refl}
use Rattle.planning.specs.Plan.{PreparedFor}
use Rattle.board.specs.Laws.CarryOut.{prepared-for, moves-made, withdraw-as}
use Rattle.board.proofs.make.make_moves.Goals as goal

pub returns-in_default : goal.returns-in_default
returns-in_default c = record { made = λ x e. absurd (c.in_default.not-Some x e); idle = λ _. refl; length = refl }

pub make_enter-requires : goal.make_enter-requires
unfolding PreparedFor
make_enter-requires c =
    prepared-for c.args.p c.args.m.now c.requires c.in-Some.places c.in-Some.is c.in-Enter.is

pub make_withdraw-requires : goal.make_withdraw-requires
unfolding PreparedFor
make_withdraw-requires c =
    (prepared-for c.args.p c.args.m.now c.requires c.in-Some.places c.in-Some.is c.in-Withdraw.is).0

pub make_recost-requires : goal.make_recost-requires
unfolding PreparedFor
make_recost-requires c =
    prepared-for c.args.p c.args.m.now c.requires c.in-Some.places c.in-Some.is c.in-Recost.is

pub returns-in-Enter : goal.returns-in-Enter
returns-in-Enter c =
    moves-made c.args.p c.args.m.now c.requires c.in-Some.places c.in-Some.is c.in-Enter.is (c.make_enter.ensures c.in-Enter.block)

pub returns-in-Withdraw : goal.returns-in-Withdraw
unfolding PreparedFor
returns-in-Withdraw c =
    let a = c.args in
    let number = (prepared-for a.p a.m.now c.requires c.in-Some.places c.in-Some.is c.in-Withdraw.is).1 in
    moves-made a.p a.m.now c.requires c.in-Some.places c.in-Some.is c.in-Withdraw.is
    (withdraw-as a.p.head.size c.in-Some.places.goes number c.make_withdraw.ensures)

pub returns-in-Recost : goal.returns-in-Recost
returns-in-Recost c =
    moves-made c.args.p c.args.m.now c.requires c.in-Some.places c.in-Some.is c.in-Recost.is (c.make_recost.ensures c.in-Recost.block)

pub shape_of-m-in-Enter : goal.shape_of-m-in-Enter
shape_of-m-in-Enter c = (returns-in-Enter c).length

pub shape_of-m-in-Withdraw : goal.shape_of-m-in-Withdraw
shape_of-m-in-Withdraw c = (returns-in-Withdraw c).length

pub shape_of-m-in-Recost : goal.shape_of-m-in-Recost
shape_of-m-in-Recost c = (returns-in-Recost c).length
