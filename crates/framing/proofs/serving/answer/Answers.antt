-- `serving::answer` meets its contract. Assumes nothing.
use mathlib.Core.Path.{refl, ap}
use Rattle.framing.specs.Laws.Serving.{ready-most, answers-line, asked-now, serve-as, served-early, served-wrong}
use Rattle.frame_lines.specs.Reading.{as_frame, calling}
use Rattle.framing.proofs.serving.answer.Goals as goal

pub frame_of-requires : goal.frame_of-requires
frame_of-requires c = ready-most _ _ c.requires.holds_state

pub listed-answered-requires : goal.listed-answered-requires
unfolding calling
listed-answered-requires c =
    asked-now c.requires.holds_state c.frame_of.ensures.timely c.requires.lent c.in-List.is refl

pub change-answered-requires : goal.change-answered-requires
unfolding calling
change-answered-requires c =
    asked-now c.requires.holds_state c.frame_of.ensures.timely c.requires.lent c.in-Enter.is refl

pub change-answered-requires-in-Withdraw : goal.change-answered-requires-in-Withdraw
unfolding calling
change-answered-requires-in-Withdraw c =
    asked-now c.requires.holds_state c.frame_of.ensures.timely c.requires.lent c.in-Withdraw.is refl

pub change-answered-requires-in-Recost : goal.change-answered-requires-in-Recost
unfolding calling
change-answered-requires-in-Recost c =
    asked-now c.requires.holds_state c.frame_of.ensures.timely c.requires.lent c.in-Recost.is refl

pub returns-in-Load : goal.returns-in-Load
unfolding as_frame
returns-in-Load c =
    answers-line c.args.d c.args.line c.frame_of.result _ _ _ _ _ c.requires.holds_state c.frame_of.ensures
    (serve-as (ap as_frame c.in-Load.is) c.loaded.ensures)

pub returns-in-List : goal.returns-in-List
unfolding as_frame
returns-in-List c =
    answers-line c.args.d c.args.line c.frame_of.result _ _ _ _ _ c.requires.holds_state c.frame_of.ensures
    (serve-as (ap as_frame c.in-List.is) c.listed-answered.ensures)

pub returns-in-Early : goal.returns-in-Early
unfolding as_frame
returns-in-Early c =
    answers-line c.args.d c.args.line c.frame_of.result _ _ _ _ _ c.requires.holds_state c.frame_of.ensures
    (serve-as (ap as_frame c.in-Early.is) (served-early _ _ _ _ _ c.put_refusal-answered.ensures))

pub returns-in-Wrong : goal.returns-in-Wrong
unfolding as_frame
returns-in-Wrong c =
    answers-line c.args.d c.args.line c.frame_of.result _ _ _ _ _ c.requires.holds_state c.frame_of.ensures
    (serve-as (ap as_frame c.in-Wrong.is) (served-wrong _ _ _ _ _ c.put_refusal-answered-in-Wrong.ensures))

pub returns-in-Enter : goal.returns-in-Enter
unfolding as_frame
returns-in-Enter c =
    answers-line c.args.d c.args.line c.frame_of.result _ _ _ _ _ c.requires.holds_state c.frame_of.ensures
    (serve-as (ap as_frame c.in-Enter.is) c.change-answered.ensures)

pub returns-in-Withdraw : goal.returns-in-Withdraw
unfolding as_frame
returns-in-Withdraw c =
    answers-line c.args.d c.args.line c.frame_of.result _ _ _ _ _ c.requires.holds_state c.frame_of.ensures
    (serve-as (ap as_frame c.in-Withdraw.is) c.change-answered-in-Withdraw.ensures)

pub returns-in-Recost : goal.returns-in-Recost
unfolding as_frame
returns-in-Recost c =
    answers-line c.args.d c.args.line c.frame_of.result _ _ _ _ _ c.requires.holds_state c.frame_of.ensures
    (serve-as (ap as_frame c.in-Recost.is) c.change-answered-in-Recost.ensures)
