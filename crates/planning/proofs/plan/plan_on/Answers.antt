-- `plan::plan_on` meets its contract. Assumes nothing.
use mathlib.Core.Bool.{Bool, true, false, cond}
use mathlib.Core.Path.{◌≡◌, sym, ap, ◌∙◌, subst}
use native.Mathlib.Omega.{arith}
use Rattle.promises.specs.Answers.{check_number}
use Rattle.promises.specs.Run.{Bytes}
use Rattle.memory.specs.Laws.Held.{held-dimension, held-room, held-few, held-readable, held-ordered}
use Rattle.upkeep.specs.Change.{ChangeAsked, ComingPlace, Upkept}
use Rattle.dominance.specs.declared.Move.{Move}
use Rattle.model.specs.Calls.{change_refusal}
use Rattle.promises.specs.Layout.{board_in}
use Rattle.planning.specs.Kind.{JudgesBy, call_of, asked_number, CostsOf}
use Rattle.planning.specs.Plan.{alike, KeepsMoves}
use Rattle.std.specs.Prelude.{ℕ, Option, Err, unwrap_or}
use Rattle.std.proofs.Common.{rules}
use Rattle.promises.specs.declared.Refusal.{Refusal}
use Rattle.std.specs.Option.{is_some}
use Rattle.search.specs.Laws.Hiders.{found-before}
use Rattle.tree.specs.Withdraw.{PlaceOf}
use Rattle.planning.proofs.Laws.Judge.{judged}
use Rattle.planning.proofs.Laws.Notice.{upkeep-counted}
use Rattle.planning.proofs.Laws.Plan.{ready, plan-refused, plan-idle, plan-full}
use Rattle.planning.proofs.plan.plan_on.Goals.{After-coming}
use Rattle.planning.proofs.plan.plan_on.Goals as goal

-- What is known once no check turns the change down.
module _ (c : After-coming) where
  placed : PlaceOf c.args.h.size c.args.h.count (asked_number c.args.x) c.args.m.now c.unwrap_or-goes.result
  placed =
      subst (λ (n : ℕ). PlaceOf c.args.h.size c.args.h.count n c.args.m.now c.unwrap_or-goes.result) c.number.ensures
      (subst (PlaceOf c.args.h.size c.args.h.count c.number.result c.args.m.now) (sym c.unwrap_or-goes.ensures) c.place_of-found.ensures.place)

  bytes : Bytes c.args.m.now
  unfolding Bytes
  bytes i = omega (arith, c.type_inv.m i)

  costs : CostsOf c.args.x
  costs = c.coming.ensures.costs

  accepted : check_number c.judge.result ≡ 0
  accepted = search rules

  none : change_refusal (board_in c.args.m.now) (call_of c.args.x) ≡ 0
  none =
      sym
      (judged c.requires (subst (λ (n : ℕ). PlaceOf c.args.h.size c.args.h.count n c.args.m.now (unwrap_or c.place_of-found.result c.args.h.count)) c.number.ensures c.place_of-found.ensures.place)
      (subst (λ (on : Bool). JudgesBy c.args.h c.args.x on c.judge.result) (c.is_some.ensures ∙ sym (found-before c.args.h.count c.place_of-found.result c.place_of-found.ensures.below)) c.judge.ensures))
      ∙ accepted

  -- The exchange of moves is that of the change.
  asked : ChangeAsked c.args.h (record { goes = c.unwrap_or-goes.result; coming = c.coming.result }) c.args.m.now
  asked =
      subst (λ (o : Option Move). ChangeAsked c.args.h (record { goes = c.unwrap_or-goes.result; coming = o }) c.args.m.now) (sym c.coming.ensures.is)
      (ready c.requires bytes c.args.x costs placed none).asked

pub place_of-found-requires : goal.place_of-found-requires
place_of-found-requires c = let s = c.requires in record { room = held-room _ _ _ _ s; rows = held-few _ _ _ _ s }

pub judge-requires : goal.judge-requires
judge-requires c = held-dimension _ _ _ _ c.requires

pub returns-in-Err : goal.returns-in-Err
returns-in-Err c =
    let on = c.is_some.ensures ∙ sym (found-before c.args.h.count c.place_of-found.result c.place_of-found.ensures.below) in
    plan-refused c.requires
    (judged c.requires (subst (λ (n : ℕ). PlaceOf c.args.h.size c.args.h.count n c.args.m.now (unwrap_or c.place_of-found.result c.args.h.count)) c.number.ensures c.place_of-found.ensures.place) (subst (λ (on : Bool). JudgesBy c.args.h c.args.x on (Err c.in-Err.reason)) on c.in-Err.ensures))
    (subst (λ (r : Refusal). KeepsMoves c.args.h c.args.x (Err r) c.keeps_moves.result) c.from.ensures c.keeps_moves.ensures)

pub invariant_of-board : goal.invariant_of-board
invariant_of-board c = record { readable = held-readable c.requires; fits = λ k. omega (arith, c.type_inv.m k) }

pub returns-then-alike : goal.returns-then-alike
returns-then-alike c =
    let a = c.args in
    let made = (goal.at.returns-then-alike c).After-coming in
    plan-idle c.requires (bytes made) a.x (costs made) (placed made) (none made)
    (subst (λ (o : Option Move). alike a.h.size a.h.dimension a.h.count (record { goes = c.unwrap_or-goes.result; coming = o }) a.m.now ≡ true) c.coming.ensures.is (sym c.alike.ensures ∙ c.if-alike.true)) c.keeps_moves-then-alike.ensures

pub coming_place-comes-requires : goal.coming_place-comes-requires
coming_place-comes-requires c = held-ordered _ _ _ _ c.requires

pub upkeep_of-upkeep-requires : goal.upkeep_of-upkeep-requires
upkeep_of-upkeep-requires c = record {
  change_asked = asked (goal.at.upkeep_of-upkeep-requires c).After-coming;
  coming_place = c.coming_place-comes.ensures;
}

pub needed-need-requires : goal.needed-need-requires
needed-need-requires c = upkeep-counted (asked (goal.at.needed-need-requires c).After-coming) c.upkeep_of-upkeep.ensures

pub returns : goal.returns
returns c =
    let a = c.args in
    let up = c.upkeep_of-upkeep in
    let made = (goal.at.returns c).After-coming in
    let comes-as = c.is_some-2.ensures ∙ ap (λ (o : Option Move). is_some o) c.coming.ensures.is in
    plan-full c.requires (bytes made) a.x (costs made) (placed made) (none made)
    (subst (λ (o : Option Move). alike a.h.size a.h.dimension a.h.count (record { goes = c.unwrap_or-goes.result; coming = o }) a.m.now ≡ false) c.coming.ensures.is (sym c.alike.ensures ∙ c.if-alike.false))
    (subst (λ (o : Option Move). Upkept a.h (record { goes = c.unwrap_or-goes.result; coming = o }) a.m.now up.result) c.coming.ensures.is up.ensures)
    (subst (λ (o : Option Move). ComingPlace a.h (record { goes = c.unwrap_or-goes.result; coming = o }) a.m.now c.coming_place-comes.result) c.coming.ensures.is c.coming_place-comes.ensures)
    c.needed-need.ensures c.enough.result c.enough.ensures
    (c.reported.ensures ∙ ap (λ (t : Bool). cond t 0 up.result.opened) comes-as)
