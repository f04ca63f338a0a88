-- `entering::find_entering` meets its contract. Assumes nothing.
use mathlib.Core.Path.{sym, ◌∙◌}
use Rattle.promises.specs.Run.{Bytes}
use Rattle.upkeep.specs.Laws.BroughtUp.{entering-none}
use Rattle.upkeep.proofs.entering.find_entering.Goals as goal

pub returns : goal.returns
unfolding Bytes
returns c =
    let a = c.args in
    let b = a.all.now.board in
    let bytes : Bytes b.bytes.now = b.fits in
    entering-none b.head.size b.head.dimension b.head.count b.bytes.now c.requires.sound_at bytes a.k a.changed.now (sym c.goes_listed.ensures ∙ c.if-goes_listed.false)

pub returns-then-goes_listed : goal.returns-then-goes_listed
returns-then-goes_listed c = c.find_in_leaves.ensures
