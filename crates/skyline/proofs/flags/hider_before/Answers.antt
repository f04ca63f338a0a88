-- `flags::hider_before` meets its contract. Assumes nothing.
use Prim.Native.Nat.{ℕ}
use mathlib.Core.List.{List}
use mathlib.Core.Path.{subst}
use Rattle.promises.specs.Run.{Bytes}
use Rattle.search.specs.Search.{ListedFound}
use Rattle.search.specs.Laws.Hiders.{hidden-found}
use Rattle.skyline.proofs.flags.hider_before.Goals as goal

pub returns-clause-hidden : goal.returns-clause-hidden
unfolding Bytes
returns-clause-hidden c =
    let a = c.args in
    let b = a.b.now in
    let asked = c.requires.place in
    hidden-found b.head.size b.head.dimension b.bytes.now b.readable.dimension b.fits b.head.count asked.0 a.i c.found_from.result asked.1
    (subst (λ (q : List ℕ). ListedFound b.head b.bytes.now q a.i c.found_from.result) c.bounds_at.ensures c.found_from.ensures)
