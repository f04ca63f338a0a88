-- A move taken out of the rows: what they hold then, and the moves to enter again.
use Prim.Native.Nat.{ℕ, suc, ◌+◌, ◌-◌, ◌<◌}
use Rattle.std.proofs.Math.Bool.{Bool, not}
use Rattle.std.specs.Prelude.{true, false, ◌≡◌, refl, eqb, take, drop}
use mathlib.Core.List.{List, ◌++◌, map}
use Rattle.std.proofs.Math.Path.{sym, ap, ap₂, subst}
use Rattle.std.proofs.Common.{◌∙◌, arith}
use Rattle.model.specs.Basics.{Each, select, distinct}
use Rattle.model.specs.Moves.{Move, no_move, move_before, ordered}
use Rattle.model.specs.Tree.{Entry, Tree, empty, rooted, moves_of, filled_tree, ruled}
use Rattle.model.specs.Calls.{on_board}
use Rattle.model.specs.Sound.{Fit}
use Rattle.model.specs.Withdrawing.{without, withdraw_node, settled, enter_all, withdraw_tree}
use Rattle.model.proofs.Laws.Basics.{each_left, each_right, each-select, select-map}
use Rattle.model.proofs.Laws.Sorting.{StrictOrder}
use Rattle.model.proofs.Laws.Order.{move-order, distinct-left, distinct-right, distinct-select}
use Rattle.model.proofs.Laws.Tree.{ruled-filled, ruled-ordered, both-ruled}
use Rattle.model.proofs.Laws.Withdrawing.{left-filled}
use Rattle.line.specs.Line.{Placed, line_of, moves_in}
use Rattle.line.specs.Places.{height_at}
use Rattle.line.specs.Withdraw as line
use Rattle.line.specs.Laws.Taken.{holds}
use Rattle.line.specs.Laws.Removed.{range_of, range_rows, flat-remove-own, Parted, parted}
use Rattle.line.specs.Laws.Withdraw.{ends-each, ends-rising, moves-in-order}
use Rattle.promises.specs.Layout.{number_in, height_in, costs_in, work_in, move_in, placed_in, line_from, tab}
use Rattle.memory.specs.Frame.{RowsOnly}
use Rattle.promises.proofs.Laws.Tab.{tab-ext, take-tab, drop-tab, map-tab, get_or-tab}
use Rattle.memory.specs.Laws.Places.{tab-each}
use Rattle.memory.specs.Laws.Frames.{frame-trans, room-over}
use Rattle.memory.specs.Laws.Fields.{work-over-rows, costs-over-rows, costs-over-work}
use Rattle.memory.specs.Laws.Lines.{height_at-line, heights_in-line, line-over-work}
use Rattle.tree.specs.Hold.{RowsHold, RowsTree, Enterable}
use Rattle.tree.specs.Withdraw.{others, Widened, Saved, CutOut, Lowered, saved_moves, SavedAsked, SavedEntered, Withdrawn}
use Rattle.tree.specs.Laws.Entered.{fit-numbers}
use Rattle.tree.specs.Laws.Again.{saved_move, same-moves}
use Rattle.tree.specs.Laws.Distinct.{numbers_apart, held-length, held-once, held_place, held_one, held-rest}

-- The tree without the rows that go with a move, and what is said of the saved moves.
record Removal (c d left k number : ℕ) (m : List ℕ) (t : Tree) : Type 0 where
  tree : Tree
  holds : RowsHold c d left m tree
  again : withdraw_tree d number t ≡ enter_all d (saved_moves c d k m) tree
  fit : Each (Fit c d) (saved_moves c d k m)
  new : Each (λ x. on_board x.number (moves_of tree) ≡ false) (saved_moves c d k m)
  once : distinct (map (λ x. x.number) (saved_moves c d k m)) ≡ true

module _ {c n p k : ℕ} {m m₁ m₂ m₃ : List ℕ} {from to : ℕ} (place : p < n) (g : Widened c n p from to m)
    (s : Saved c from to (number_in c m p) m m₁ k) (e : CutOut c n from to m₁ m₂)
    (l : Lowered c (n - (to - from)) m₂ m₃) where
  abbrev number : ℕ
  number = number_in c m p

  abbrev left : ℕ
  left = n - (to - from)

  abbrev count : ℕ
  count = to - from

  later : RowsOnly c m₁ m₃
  later = frame-trans e.frame l.frame

  module _ (d h : ℕ) (es : List (Entry h)) (held : RowsHold c d n m (rooted h es)) where
    abbrev t : Tree
    t = rooted h es

    abbrev tree : Tree
    tree = settled h (withdraw_node number h es).entries

    o : StrictOrder (Fit c d) (move_before d)
    o = move-order d c held.readable.dimension

    filled : filled_tree t ≡ true
    filled = ruled-filled d t held.rules

    one : holds number (suc h) es ≡ 1
    unfolding holds moves_of
    one = held_one held p place

    -- ---- the line

    range : range_of number (line_of t) ≡ record { from = from; to = to }
    unfolding range_of
    range =
        ap (range_of number) (sym held.line)
        ∙ ap₂ (λ (f q : ℕ). line.widened f 0 (record { from = q; to = suc q }) (line_from c d n m)) (height_at-line c d n m 0 (omega arith)) (sym (held_place held p place))
        ∙ ap (line.widened_among (height_in c m 0) 0 (record { from = p; to = suc p })) (heights_in-line c d n m)
        ∙ sym g.is

    tree-line : line_from c d left m₃ ≡ line_of tree
    unfolding line_of
    tree-line =
        let rows = line-over-work c d n s.frame held.readable.rows held.readable.dimension held.readable.numbers ∙ held.line in
        l.line d
        ∙ ap (λ (rs : List Placed). line.lowered (height_at rs 0) rs) (e.line d ∙ ap₂ line.cut_out (sym range) rows)
        ∙ sym (flat-remove-own number h es filled one)

    -- ---- the moves

    w : Parted number h es
    w = parted number h es filled one

    fits : Each (Fit c d) (w.before ++ (w.between ++ w.after))
    fits = subst (Each (Fit c d)) w.whole held.fits

    rises : ordered d (w.before ++ (w.between ++ w.after)) ≡ true
    rises = subst (λ (ms : List Move). ordered d ms ≡ true) w.whole (ruled-ordered d t held.rules)

    tree-fits : Each (Fit c d) (moves_of tree)
    unfolding ordered
    tree-fits = subst (Each (Fit c d)) (sym w.left) (ends-each (Fit c d) (move_before d) o w.before w.between w.after fits rises)

    tree-rules : ruled d tree ≡ true
    unfolding ordered
    tree-rules =
        both-ruled d tree (left-filled d number h es filled)
        (subst (λ (ms : List Move). ordered d ms ≡ true) (sym w.left) (ends-rising (Fit c d) (move_before d) o w.before w.between w.after fits rises))

    tree-held : RowsHold c d left m₃ tree
    tree-held =
        record {
          readable =
              record {
                room = room-over c later (room-over c s.frame held.readable.room);
                rows = omega (arith, held.readable.rows);
                numbers = fit-numbers c d left m₃ tree tree-line tree-fits;
                dimension = held.readable.dimension;
              };
          line = tree-line;
          rules = tree-rules;
          fits = tree-fits;
        }

    -- ---- the moves to enter again

    between-rows : tab (λ i. move_in c d m (from + i)) count ≡ w.between
    unfolding range_rows line_from moves_in placed_in
    between-rows =
        sym
        (ap₂ (λ (g : line.Range) (rs : List Placed). moves_in (take (g.to - g.from) (drop g.from rs))) range (sym held.line)
        ∙ ap (λ (rs : List Placed). moves_in (take count rs)) (drop-tab (placed_in c d m) n from (omega (arith, g.order, g.within)))
        ∙ ap moves_in (take-tab (λ i. placed_in c d m (from + i)) (n - from) count (omega (arith, g.order, g.within)))
        ∙ map-tab (λ (x : Placed). x.move) (λ i. placed_in c d m (from + i)) count)
        ∙ w.range

    abbrev made : ℕ → Move
    made v = record { number = v; costs = costs_in c d m₃ v }

    made_row : (i : ℕ) → i < n → made (number_in c m i) ≡ move_in c d m i
    unfolding move_in
    made_row i b =
        ap (λ (cs : List ℕ). record { number = number_in c m i; costs = cs })
        (costs-over-rows c later d (number_in c m i) ∙ costs-over-work c s.frame d (number_in c m i) held.readable.dimension (held.readable.numbers i b))

    saved-again : saved_moves c d k m₃ ≡ without number w.between
    unfolding saved_moves others without
    saved-again =
        let kept : Move → Bool = λ x. not (eqb x.number number) in
        let numbers : ℕ → ℕ = λ i. number_in c m (from + i) in
        sym (map-tab made (work_in c m₃) k)
        ∙ ap (map made) (tab-ext (work_in c m₃) (work_in c m₁) k (λ i b. work-over-rows c later i) ∙ s.numbers)
        ∙ sym (select-map kept made (tab numbers count))
        ∙ ap (select kept)
        (map-tab made numbers count
        ∙ tab-ext (λ i. made (numbers i)) (λ i. move_in c d m (from + i)) count (λ i b. made_row (from + i) (omega (arith, g.order, g.within)))
        ∙ between-rows)

    again : withdraw_tree d number t ≡ enter_all d (saved_moves c d k m₃) tree
    unfolding withdraw_tree
    again =
        ap (λ (ms : List Move). enter_all d ms tree)
        (moves-in-order d (Fit c d) o number h es w held.fits (ruled-ordered d t held.rules) ∙ ap (without number) w.range ∙ sym saved-again)

    -- What is so of every move of the range is so of the saved ones.
    saved-each : (P : Move → Type 0) → Each P w.between → Each P (saved_moves c d k m₃)
    unfolding without
    saved-each P q = subst (Each P) (sym saved-again) (each-select (λ x. not (eqb x.number number)) P w.between q)

    whole-once : distinct (map (λ x. x.number) (w.before ++ (w.between ++ w.after))) ≡ true
    whole-once = subst (λ (ms : List Move). distinct (map (λ x. x.number) ms) ≡ true) w.whole (held-once held)

    removed : Removal c d left k number m₃ t
    unfolding without
    removed =
        record {
          tree = tree;
          holds = tree-held;
          again = again;
          fit = saved-each (Fit c d) (each_left (Fit c d) w.between w.after (each_right (Fit c d) w.before (w.between ++ w.after) fits));
          new = saved-each (λ x. on_board x.number (moves_of tree) ≡ false)
              (subst (λ (ms : List Move). Each (λ y. on_board y.number ms ≡ false) w.between) (sym w.left) (numbers_apart w.before w.between w.after whole-once));
          once =
              ap (λ (ms : List Move). distinct (map (λ x. x.number) ms)) saved-again
              ∙ distinct-select (λ x. x.number) (λ x. not (eqb x.number number)) w.between
              (distinct-left (λ x. x.number) w.between w.after (distinct-right (λ x. x.number) w.before (w.between ++ w.after) whole-once));
        }

  removal : (d : ℕ) (t : Tree) → RowsHold c d n m t → Removal c d left k number m₃ t
  unfolding moves_of
  removal d empty held = absurd (omega (arith, held-length held))
  removal d (rooted h es) held = removed d h es held

  pub saved-asked : {d : ℕ} → RowsTree c d n m → SavedAsked c d left k m₃
  unfolding saved_moves
  saved-asked {d} t =
      let a = removal d t.tree t.holds in
      record {
        tree = record { tree = a.tree; holds = a.holds };
        space = omega (arith, s.few, g.order, g.within, t.holds.readable.rows);
        enterable = λ u h j b.
            subst (λ (x : Move). Enterable c d x m₃ u) (sym (get_or-tab (saved_move c d m₃) no_move k j b))
            (record {
              fit = tab-each (saved_move c d m₃) (Fit c d) k j b a.fit;
              stored = refl;
              new =
                  ap (on_board (work_in c m₃ j)) (same-moves h a.holds)
                  ∙ tab-each (saved_move c d m₃) (λ x. on_board x.number (moves_of a.tree) ≡ false) k j b a.new;
            });
        once = a.once;
      }

  pub withdrawn : {d : ℕ} {m' : List ℕ} → SavedEntered c d left k m₃ m' → Withdrawn c d n p m m'
  withdrawn {d} {m'} f =
      record {
        holds = λ t h.
            let a = removal d t h in
            let entered = subst (RowsHold c d (left + k) m') (sym a.again) (f.holds a.tree a.holds) in
            let rest : left + k ≡ n - 1 = omega (arith, held-length entered, held-rest h p place) in
            subst (λ (i : ℕ). RowsHold c d i m' (withdraw_tree d number t)) rest entered;
        saved = m₁;
        work = s.frame;
        rows = frame-trans later f.frame;
      }
