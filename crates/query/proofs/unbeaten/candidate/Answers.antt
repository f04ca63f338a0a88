-- `unbeaten::candidate` meets its contract, rule by rule. Assumes nothing.
use mathlib.Core.Path.{sym, subst}
use native.Mathlib.Omega.{arith}
use Rattle.promises.specs.Run.{Bytes}
use Rattle.query.specs.Unbeaten.{NextFound}
use Rattle.query.specs.Laws.Unbeaten.{passed-beat-not}
use Rattle.query.specs.declared.rule.Rule.{Rule}
use Rattle.search.specs.Laws.Search.{index-corners}
use Rattle.query.proofs.unbeaten.candidate.Goals as goal

pub next_within-requires : goal.next_within-requires
next_within-requires c = record { places = (c.requires.place, omega arith); corners = index-corners c.args.listed.now c.requires.listed (omega arith) }

pub returns-in-Chosen : goal.returns-in-Chosen
unfolding Bytes
returns-in-Chosen c =
    let a = c.args in
    let m = a.listed.now.board.bytes.now in
    let set = c.in-Chosen.set in
    let found = c.next_within.ensures in
    let bounds = c.chosen_bounds-q in
    let bytes : Bytes m = c.args.listed.now.board.fits in
    let next = found.first in
    subst (λ (rule : Rule). NextFound a.listed.now.board.head rule m a.costs a.j c.next_within.result) (sym c.in-Chosen.is)
    (record { next = record { from = next.from; to = next.to; passed = passed-beat-not a.listed.now.board.head.size a.listed.now.board.head.dimension m c.args.listed.now.board.readable.dimension bytes set a.costs bounds.result bounds.ensures next.passed }; below = found.below })
