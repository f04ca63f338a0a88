-- A tree's rows with a new move entered.
use Rattle.std.specs.Prelude.{ℕ, suc, ◌+◌, ◌≤◌, ◌<◌, ◌≡◌, length}
use mathlib.Core.List.{List, [], ◌∷◌, Memᴰ}
use Rattle.std.proofs.Common.{sym, ap₂, ◌∙◌, subst, add-one, arith}
use Rattle.std.proofs.Math.Path.{ap}
use Rattle.model.specs.Basics.{Each}
use Rattle.model.specs.Moves.{Move, no_move, move_before, ordered, insert}
use Rattle.model.specs.Tree.{Tree, moves_of}
use Rattle.model.specs.Entering.{enter_tree}
use Rattle.model.specs.Sound.{Fit}
use Rattle.model.proofs.Laws.Basics.{each_at}
use Rattle.model.proofs.Laws.Sorting.{StrictOrder, each-insert}
use Rattle.model.proofs.Laws.Order.{move-order, off-board}
use Rattle.model.proofs.Laws.Tree.{ruled-filled, ruled-ordered}
use Rattle.model.proofs.Laws.Entering.{enter-moves, enter-ruled}
use Rattle.line.specs.Line.{Placed, none, line_of, moves_in}
use Rattle.line.specs.Places.{height_at, insert_at}
use Rattle.line.specs.Enter.{place_for, placed, cascade, flat_enter}
use Rattle.line.specs.Laws.Line.{moves-line}
use Rattle.line.specs.Laws.Heights.{heights-right, heights-small}
use Rattle.line.specs.Laws.Enter.{enter-cons, flat-enter-ruled}
use Rattle.promises.specs.Layout.{height_in, move_in, placed_in, tab, line_from}
use Rattle.memory.specs.Room.{Numbers, Ordered}
use Rattle.memory.specs.Frame.{RowsOnly}
use Rattle.promises.proofs.Laws.Tab.{length-tab, get_or-tab}
use Rattle.memory.specs.Laws.Frames.{frame-refl, frame-trans, room-over}
use Rattle.memory.specs.Laws.Lines.{length-line, get_or-line, height_at-line, moves_in-line}
use Rattle.memory.specs.Laws.Ordered.{line-ordered}
use Rattle.tree.specs.Rows.{Inserted}
use Rattle.tree.specs.Split.{CascadeAsked, Cascaded}
use Rattle.tree.specs.Hold.{RowsHold, Enterable}
use Rattle.tree.specs.Enter.{PutAsked, RowPut, EnterAsked, Entered}
use Rattle.tree.specs.Laws.Putting.{placed-top, row_is}

-- ---- rows that hold a tree

-- The numbers of the rows are those of the tree's moves.
pub fit-numbers : (c d n : ℕ) (m : List ℕ) (t : Tree) → line_from c d n m ≡ line_of t → Each (Fit c d) (moves_of t) → Numbers c n m
unfolding move_in
fit-numbers c d n m t line fits i h =
    let moves : tab (move_in c d m) n ≡ moves_of t = sym (moves_in-line c d n m) ∙ ap moves_in line ∙ moves-line t in
    (subst (Fit c d) (get_or-tab (move_in c d m) no_move n i h)
    (each_at (Fit c d) (tab (move_in c d m) n) i no_move (omega (arith, length-tab (move_in c d m) n)) (subst (Each (Fit c d)) (sym moves) fits))
    ).number

-- Seven levels are enough.
pub holds-low : {c d n : ℕ} {m : List ℕ} {t : Tree} → RowsHold c d n m t → 0 < n → height_in c m 0 ≤ 7
unfolding placed_in
holds-low {c} {d} {n} {m} {t} h some =
    let count = length-line c d n m in
    let low = heights-small (line_of t) (heights-right t (ruled-filled d t h.rules)) (omega (arith, ap length h.line, h.readable.rows, h.readable.room)) in
    subst (λ (r : Placed). r.height ≤ 7) (get_or-line c d n m 0 some)
    (each_at (λ r. r.height ≤ 7) (line_from c d n m) 0 none (omega arith) (subst (Each (λ r. r.height ≤ 7)) (sym h.line) low))

pub holds-ordered : {c d n : ℕ} {m : List ℕ} {t : Tree} → RowsHold c d n m t → Ordered c d n m
holds-ordered {c} {d} {n} {m} {t} h =
    line-ordered c d n m (ap (λ (rs : List Placed). ordered d (moves_in rs)) h.line ∙ ap (ordered d) (moves-line t) ∙ ruled-ordered d t h.rules)

module _ {c d n : ℕ} {x : Move} {m m' : List ℕ} {t : Tree} (h : RowsHold c d n m t) (e : Enterable c d x m t) where
  holds-entered : n < c → RowsOnly c m m' → line_from c d (suc n) m' ≡ flat_enter d x (line_from c d n m) → RowsHold c d (suc n) m' (enter_tree d x t)
  unfolding insert
  holds-entered space f line =
      record {
        readable =
            record {
              room = room-over c f h.readable.room;
              rows = space;
              numbers = fit-numbers c d (suc n) m' (enter_tree d x t) line-is fits;
              dimension = h.readable.dimension;
            };
        line = line-is;
        rules = enter-ruled d (Fit c d) o x e.fit t h.rules h.fits new;
        fits = fits;
      }
    where
      o : StrictOrder (Fit c d) (move_before d)
      o = move-order d c h.readable.dimension

      new : ¬ Memᴰ x (moves_of t)
      new = off-board x (moves_of t) e.new

      line-is : line_from c d (suc n) m' ≡ line_of (enter_tree d x t)
      line-is = line ∙ ap (flat_enter d x) h.line ∙ sym (flat-enter-ruled d (Fit c d) o x e.fit t h.rules h.fits new)

      fits : Each (Fit c d) (moves_of (enter_tree d x t))
      fits =
          subst (Each (Fit c d)) (sym (enter-moves d (Fit c d) o x e.fit t h.rules h.fits))
          (each-insert (move_before d) (Fit c d) x (moves_of t) e.fit h.fits)

-- ---- the move entered

module _ {c d n : ℕ} {x : Move} {m : List ℕ} (asked : EnterAsked c d n x m) where
  abbrev rs : List Placed
  rs = line_from c d n m

  enterable : Enterable c d x m asked.tree.tree
  enterable = asked.enterable asked.tree.tree asked.tree.holds

  entered : {m' : List ℕ} → RowsOnly c m m' → line_from c d (suc n) m' ≡ flat_enter d x rs → Entered c d n x m m'
  entered f line = record { holds = λ t h. holds-entered h (asked.enterable t h) asked.space f line; frame = f }

  pub entered-first : {m' : List ℕ} → n ≡ 0 → Inserted c 0 0 x.number 1 m m' → Entered c d n x m m'
  unfolding line_from tab insert_at flat_enter
  entered-first {m'} none inserted =
      entered inserted.frame
      (ap (λ (k : ℕ). line_from c d (suc k) m') none
      ∙ inserted.line d
      ∙ ap (λ (r : Placed). r ∷ []) (row_is c d x 1 enterable.stored (frame-refl m))
      ∙ ap (λ (k : ℕ). flat_enter d x (line_from c d k m)) (sym none))

  module _ {p : ℕ} (some : 0 < n) (place : p ≤ n) where
    pub put-asked : PutAsked c d n p x m
    put-asked =
        let h = asked.tree.holds in
        record {
          asked = record { readable = h.readable; place = place };
          some = some;
          space = asked.space;
          number = enterable.fit.number;
          stored = enterable.stored;
        }

    module _ {m' : List ℕ} (put : RowPut c d n p x m m') where
      top : height_in c m' 0 ≡ height_at rs 0
      top =
          sym (height_at-line c d (suc n) m' 0 (omega arith))
          ∙ ap (λ (zs : List Placed). height_at zs 0) put.line
          ∙ placed-top d x p rs (omega (arith, length-line c d n m))

      pub cascade-asked : CascadeAsked c d (n + 1) p m'
      cascade-asked =
          let h = asked.tree.holds in
          record {
            readable =
                record {
                  room = room-over c put.frame h.readable.room;
                  rows = omega (arith, asked.space);
                  numbers = λ i k. put.numbers i (omega arith);
                  dimension = h.readable.dimension;
                };
            place = omega arith;
            low = omega (arith, top, height_at-line c d n m 0 some, holds-low h some);
          }

      pub entered-more : {m'' : List ℕ} → p ≡ place_for d x rs → Cascaded c d (n + 1) p m' m'' → Entered c d n x m m''
      entered-more {m''} is cascaded =
          entered (frame-trans put.frame cascaded.frame)
          (ap (λ (k : ℕ). line_from c d k m'') (sym (add-one n))
          ∙ cascaded.line
          ∙ ap₂ (λ (k : ℕ) (zs : List Placed). cascade d (suc k) 1 p zs) top (ap (λ (k : ℕ). line_from c d k m') (add-one n) ∙ put.line)
          ∙ ap (λ (q : ℕ). cascade d (suc (height_at rs 0)) 1 q (placed d x q rs)) is
          ∙ sym (enter-cons d x rs (omega (arith, length-line c d n m))))
