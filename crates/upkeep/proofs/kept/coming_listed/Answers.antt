-- `kept::coming_listed` meets its contract. Assumes nothing.
use mathlib.Core.Bool.{not}
use mathlib.Core.Path.{ap, ◌∙◌}
use Rattle.promises.specs.Run.{Bytes}
use Rattle.dominance.specs.Move.{as_move}
use Rattle.upkeep.specs.Laws.Change.{listed-law, unlisted-law}
use Rattle.upkeep.specs.Laws.Others.{new-place}
use Rattle.upkeep.proofs.kept.coming_listed.Goals as goal

pub returns-in_default : goal.returns-in_default
unfolding Bytes
returns-in_default c =
    let b = c.args.all.now.board in
    unlisted-law b.head.size b.head.dimension b.head.count c.args.k b.bytes.now c.requires.change_asked.sound b.fits c.in_default.is

pub returns : goal.returns
unfolding Bytes
returns c =
    let a = c.args in
    let b = a.all.now.board in
    let asked = c.requires.change_asked in
    let x = c.in-Some.x in
    ap not c.hidden_by_others.ensures
    ∙ listed-law b.head.size b.head.dimension b.head.count a.k b.bytes.now asked.sound b.fits x c.in-Some.is (asked.fit x c.in-Some.is)

pub hidden_by_others-requires-clause-parted : goal.hidden_by_others-requires-clause-parted
unfolding Bytes
hidden_by_others-requires-clause-parted c =
    let a = c.args in
    let b = a.all.now.board in
    let asked = c.requires.change_asked in
    let x = c.in-Some.x in
    new-place b.head.size b.head.dimension b.head.count b.bytes.now asked.sound b.fits (as_move x) (asked.fit x c.in-Some.is) a.place
    c.requires.coming_place.within (c.requires.coming_place.is x c.in-Some.is)
