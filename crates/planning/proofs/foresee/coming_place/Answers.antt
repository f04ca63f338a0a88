-- `foresee::coming_place` meets its contract. Assumes nothing.
use mathlib.Core.Path.{◌≡◌, sym, ◌∙◌}
use native.Mathlib.Omega.{arith}
use Rattle.line.specs.Enter.{place_for}
use Rattle.promises.specs.Layout.{line_from}
use Rattle.dominance.specs.Move.{as_move}
use Rattle.planning.proofs.Laws.Coming.{only}
use Rattle.planning.proofs.foresee.coming_place.Goals as goal

pub returns : goal.returns
returns c =
    let b = c.args.b.now in
    let place = c.place_for in
    record {
      within = place.ensures.1;
      is = λ y e.
          only (λ x. place.result ≡ place_for b.head.dimension (as_move x) (line_from b.head.size b.head.dimension b.head.count b.bytes.now))
          place.ensures.0 y (sym c.in-Some.is ∙ e);
    }

pub returns-in_default : goal.returns-in_default
returns-in_default c = record { within = omega arith; is = λ x e. absurd (c.in_default.not-Some x e) }
