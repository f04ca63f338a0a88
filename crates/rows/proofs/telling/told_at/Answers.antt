-- `telling::told_at` meets its contract. Assumes nothing.
use Rattle.std.specs.Prelude.{ℕ, ◌<◌, Bool, Some, ◌&&◌, ◌≡◌, refl}
use Rattle.std.proofs.Common.{arith, sym, ap, ◌∙◌}
use Rattle.search.specs.Search.{looks, looks_at}
use Rattle.numbers.specs.Set.{in_set}
use Rattle.promises.specs.Layout.{number_in}
use Rattle.rows.specs.Rows.{move_numbers}
use Rattle.rows.specs.Telling.{place_of, tells_place, told_at}
use Rattle.rows.specs.Laws.Telling.{place-below, place-told, place-row, entrant_row, coming-shown, told_some, told_none}
use Rattle.rows.proofs.telling.told_at.Goals.{After-place_at-p, else-has-via-then-has+else-looks, else-has-via-else-has}
use Rattle.rows.proofs.telling.told_at.Goals as goal

-- The place read is on the board, and the number there below C.
module _ (c : After-place_at-p) where
  is_place : c.place_at-p.result ≡ place_of c.args.t.coming.place c.args.i
  is_place = c.place_at-p.ensures

  other : c.args.i ≡ c.args.t.coming.place → ⊥
  other e = c.if-i-place.false e

  placed : c.place_at-p.result < c.args.t.head.count
  placed = omega (arith, place-below c.args.t.coming.place c.args.i c.args.t.head.count c.requires.0.place c.requires.1 other, is_place)

  module _ {number : ℕ} (is : number ≡ number_in c.args.t.head.size c.args.m.now c.place_at-p.result) where
    small : number < c.args.t.head.size
    small = omega (arith, is, c.requires.0.readable.numbers c.place_at-p.result placed)

    -- The answer by the two tests: in the set, and among those that are told.
    is-told : {own seen : Bool} → in_set c.args.numbers.now number ≡ own → looks c.args.t.among c.args.t.head.size c.args.m.now number ≡ seen
        → told_at c.args.t c.args.numbers.now c.args.m.now c.args.i ≡ (own && seen)
    unfolding tells_place looks_at
    is-told e f =
        place-told c.args.t c.args.numbers.now c.args.m.now c.args.i other c.place_at-p.result (sym is_place)
        ∙ (λ k. (ap (in_set c.args.numbers.now) (sym is) ∙ e) k && (ap (looks c.args.t.among c.args.t.head.size c.args.m.now) (sym is) ∙ f) k)

pub returns-then-i-place : goal.returns-then-i-place
returns-then-i-place c =
    let a = c.args in
    coming-shown a.t a.numbers.now a.m.now a.i c.if-i-place.true
    (ap Some c.row_of.ensures ∙ sym (ap (entrant_row a.t.mark) c.in_ok-x.was))

pub returns-in_err-x : goal.returns-in_err-x
returns-in_err-x c =
    let a = c.args in
    coming-shown a.t a.numbers.now a.m.now a.i c.if-i-place.true
    (c.from_residual.ensures ∙ sym (ap (entrant_row a.t.mark) c.in_err-x.was))

pub number_at-number-requires : goal.number_at-number-requires
number_at-number-requires c =
    let pre = c.requires.0.readable in
    (pre.room, omega (arith, placed (goal.at.number_at-number-requires c).After-place_at-p, pre.rows))

pub has-requires : goal.has-requires
has-requires c = omega (arith, small (goal.at.has-requires c).After-place_at-p c.number_at-number.ensures, c.requires.0.readable.room.1)

pub looks-requires : goal.looks-requires
looks-requires c = (c.requires.0.readable.room, small (goal.at.looks-requires c).After-place_at-p c.number_at-number.ensures)

pub move_at-requires : goal.move_at-requires
move_at-requires c =
    let at = (goal.at.move_at-requires c).After-place_at-p in
    let readable = c.requires.0.readable in
    (readable.room, omega (arith, placed at, readable.rows), readable.numbers c.place_at-p.result (placed at), readable.dimension)

pub returns-then-looks : goal.returns-then-looks
returns-then-looks c =
    let a = c.args in
    let at = (goal.at.returns-then-looks c).After-place_at-p in
    sym (told_some a.t a.numbers.now a.m.now a.i (is-told at c.number_at-number.ensures (sym c.has.ensures ∙ c.if-has.true) (sym c.looks.ensures ∙ c.if-looks.true))
    (place-row a.t a.numbers.now a.m.now a.i (other at) c.place_at-p.result (sym (is_place at)) ∙ sym (ap (move_numbers a.t.mark) c.move_at.ensures) ∙ sym c.row_of-then-looks.ensures))

pub returns : goal.returns
returns c =
    let a = c.args in
    let at = (goal.at.returns c).After-place_at-p in
    sym (told_none a.t a.numbers.now a.m.now a.i (elim c.else-has.branch [
      | else-has-via-then-has+else-looks w ↦ is-told at c.number_at-number.ensures (sym c.has.ensures ∙ w.if-has.true) (sym w.looks.ensures ∙ w.if-looks.false)
      | else-has-via-else-has w ↦ is-told at c.number_at-number.ensures (sym c.has.ensures ∙ w.if-has.false) refl
    ]))
