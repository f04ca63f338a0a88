-- `band::in_band` meets its contract. Assumes nothing.
use mathlib.Core.Path.{sym, ◌∙◌}
use Rattle.promises.specs.Run.{Bytes}
use Rattle.memory.specs.Laws.Turns.{listed_at}
use Rattle.query.specs.Laws.Band.{band-before, band-listed}
use Rattle.query.proofs.band.in_band.Goals as goal

pub returns-then-is_listed : goal.returns-then-is_listed
unfolding Bytes
returns-then-is_listed c =
    let a = c.args in
    let number = c.number_at in
    let bytes : Bytes a.all.now.board.bytes.now = c.args.all.now.board.fits in
    sym
    (band-listed c.requires.sound_at.0 bytes a.i c.requires.sound_at.1 a.most
    (listed_at a.all.now.board.head.size a.all.now.board.bytes.now a.i number.result number.ensures.0 ∙ sym c.is_listed.ensures ∙ c.if-is_listed.true))

pub returns : goal.returns
unfolding Bytes
returns c =
    let a = c.args in
    let bytes : Bytes a.all.now.board.bytes.now = c.args.all.now.board.fits in
    c.few_before.ensures ∙ sym (band-before c.requires.sound_at.0 bytes a.i c.requires.sound_at.1 a.most)
