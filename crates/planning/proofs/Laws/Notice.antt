-- The notice of a change: how many rows it has, and that a telling of the change has them.
use Rattle.std.specs.Prelude.{ℕ, ◌+◌, ◌≤◌, ◌<◌, Bool, cond, List, ◌++◌, map, ◌≡◌}
use Rattle.std.proofs.Math.Path.{sym, ap}
use Rattle.std.proofs.Common.{arith}
use Rattle.std.proofs.Math.ListN.{length, length-append}
use Rattle.model.specs.Basics.{count, numbers_from}
use Rattle.std.specs.Option.{ForSome}
use Rattle.model.specs.Moves as model
use Rattle.model.specs.Moves.{Row, row_of, left, entered}
use Rattle.model.specs.Lists.{skyline}
use Rattle.model.proofs.Laws.Notice.{gone, notice-rows}
use Rattle.line.specs.Line.{moves_in}
use Rattle.promises.specs.Layout.{move_in, line_from}
use Rattle.promises.specs.Answers.{result_row}
use Rattle.promises.specs.Run.{Bytes}
use Rattle.dominance.specs.Move.{as_move}
use Rattle.dominance.specs.declared.Move.{Move}
use Rattle.memory.specs.declared.head.Head.{Head}
use Rattle.memory.specs.Laws.Held.{held-room, held-few}
use Rattle.upkeep.specs.Change.{AskedRows, UpkeptRows, PlaceRows, moves_after}
use Rattle.upkeep.specs.Laws.Places.{count-le}
use Rattle.rows.specs.Telling.{told_rows}
use Rattle.planning.specs.Plan.{leaving_by, entering_by, coming_if}
use Rattle.planning.proofs.Laws.Told.{left-told, left-number, entered-told, entered-number}
use Rattle.upkeep.specs.declared.exchange.Exchange.{Exchange}
use Rattle.upkeep.specs.declared.exchange.Upkeep.{Upkeep}
use Rattle.planning.specs.Change.{needed_rows, Counted, Other, notice_by}

module _ {c d n : ℕ} {k : Exchange} {m : List ℕ} (a : AskedRows c d n k m) where
  few-counted : (p : ℕ → Bool) (i : ℕ) → i ≡ count p (numbers_from 0 n) → i ≤ 4096
  few-counted p i e = omega (arith, e, count-le p n, held-few c d n m a.sound, (held-room c d n m a.sound).1)

  pub upkeep-counted : {u : Upkeep} → UpkeptRows c d n k m u → Counted u
  upkeep-counted {u} v = record { left = few-counted _ u.left v.left; entered = few-counted _ u.entered v.entered }

  module _ (b : Bytes m) (o : Other c d n k m) {u : Upkeep} (v : UpkeptRows c d n k m u) {p : ℕ} (q : PlaceRows c d n k m p) where
    other : ForSome k.coming (λ x. k.goes < n → move_in c d m k.goes ≡ as_move x → ⊥)
    unfolding move_in
    other x e l q = o.costs x e l (ap (λ (y : model.Move). y.costs) q)

    abbrev old : List model.Move
    old = skyline d (moves_in (line_from c d n m))

    abbrev new : List model.Move
    new = skyline d (moves_after d k (moves_in (line_from c d n m)))

    -- The rows that leave, and those that enter.
    abbrev pub left_rows : List Row
    left_rows = map (row_of left) (gone old new)

    abbrev pub entered_rows : List Row
    entered_rows = map (row_of entered) (gone new old)

    abbrev h : Head
    h = record { size = c; dimension = d; count = n }

    pub rows_left : map result_row (told_rows (leaving_by h) u.changed m) ≡ left_rows
    rows_left = left-told c d n k m a.sound b a other p q.within q.is u v

    pub rows-entered : map result_row (told_rows (entering_by h (coming_if u.listed p k.coming)) u.changed m) ≡ entered_rows
    rows-entered = entered-told c d n k m a.sound b a other p q.within q.is u v

    pub count_left : u.left ≡ length left_rows
    count_left = left-number c d n k m a.sound b a other p q.within q.is u v

    pub count-entered : u.entered + cond u.listed 1 0 ≡ length entered_rows
    count-entered = entered-number c d n k m a.sound b a other p q.within q.is u v

    pub rows-notice : left_rows ++ entered_rows ≡ notice_by c d n k m
    unfolding notice_by
    rows-notice = sym (notice-rows old new)

    pub rows-needed : needed_rows u ≡ length (notice_by c d n k m)
    unfolding needed_rows
    rows-needed = omega (arith, count_left, count-entered, length-append left_rows entered_rows, ap length rows-notice)
