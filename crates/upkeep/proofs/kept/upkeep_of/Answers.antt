-- `kept::upkeep_of` meets its contract: what its steps compute is what the list afterwards says. Assumes nothing.
use mathlib.Core.Path.{◌≡◌, subst}
use Rattle.memory.specs.declared.board.Board.{Board}
use Rattle.promises.specs.Run.{Bytes}
use Rattle.upkeep.specs.Change.{Entering, coming_listed}
use Rattle.upkeep.specs.Laws.Change.{upkept}
use Rattle.upkeep.proofs.kept.upkeep_of.Goals as goal

pub returns : goal.returns
unfolding Bytes
returns c =
    let k = c.args.k in
    let b = c.args.b.now in
    -- The index is of this board.
    let same = c.new-all.ensures.board in
    let find = c.find_entering-entered in
    let Enters : Board → Type 0 =
    λ x. Entering x.head.size x.head.dimension x.head.count k x.bytes.now c.find_leaving-left.new.changed find.new.changed find.result in
    let up = subst Enters same find.ensures in
    let listed =
    subst (λ (x : Board). c.coming_listed-listed.result ≡ coming_listed x.head.size x.head.dimension x.head.count k x.bytes.now) same
    c.coming_listed-listed.ensures in
    upkept b.head.size b.head.dimension b.head.count k b.bytes.now c.requires.change_asked.sound b.fits _ c.empty-changed.ensures
    c.find_leaving-left.ensures up.moves up.opened listed
