-- `exchange::hidden_by_others` meets its contract. Assumes nothing.
use mathlib.Core.Path.{sym, ◌∙◌}
use native.Mathlib.Omega.{arith}
use Rattle.promises.specs.Run.{Bytes}
use Rattle.dominance.specs.Move.{as_move}
use Rattle.search.specs.Laws.Search.{first-among, first-at, first-end, found-below}
use Rattle.search.specs.Laws.Hiders.{found-before}
use Rattle.upkeep.specs.Laws.Others.{others-none, others-found, others-next}
use Rattle.upkeep.proofs.exchange.hidden_by_others.Goals as goal

pub returns-in_default : goal.returns-in_default
unfolding Bytes
returns-in_default c =
    let a = c.args in
    let b = a.all.now.board in
    let bytes : Bytes b.bytes.now = b.fits in
    let found = first-among _ _ _ c.requires.all c.next_within.ensures in
    sym
    (others-none b.head.size b.head.dimension b.head.count a.goes a.i (as_move a.x) c.bounds_of-q.result b.bytes.now b.readable.dimension bytes c.requires.parted
    c.bounds_of-q.ensures a.i (first-end found c.in_default.is) (omega arith))

pub returns-then-j-goes : goal.returns-then-j-goes
unfolding Bytes
returns-then-j-goes c =
    let a = c.args in
    let b = a.all.now.board in
    let bytes : Bytes b.bytes.now = b.fits in
    let found = first-among _ _ _ c.requires.all c.next_within.ensures in
    let within = found-below a.i c.in-Some.is found.below in
    sym
    (others-found b.head.size b.head.dimension b.head.count a.goes a.i (as_move a.x) c.bounds_of-q.result b.bytes.now b.readable.dimension bytes c.requires.parted
    c.bounds_of-q.ensures c.in-Some.j ((first-at found c.in-Some.is).found within) within c.if-j-goes.true)

pub returns : goal.returns
unfolding Bytes
returns c =
    let a = c.args in
    let b = a.all.now.board in
    let bytes : Bytes b.bytes.now = b.fits in
    let found = first-among _ _ _ c.requires.all c.next_within.ensures in
    let next = first-among _ _ _ c.requires.all c.next_within-2.ensures in
    c.is_some.ensures
    ∙ sym
    (others-next b.head.size b.head.dimension b.head.count a.goes a.i (as_move a.x) c.bounds_of-q.result b.bytes.now b.readable.dimension bytes c.requires.parted
    c.bounds_of-q.ensures c.in-Some.j _ (first-at found c.in-Some.is) c.if-j-goes.false next.first
    ∙ found-before a.i _ next.below)
