-- The saved moves entered again, one after the other.
use Prim.Native.Nat.{ℕ, suc, ◌+◌, ◌-◌, ◌≤◌, ◌<◌}
use Rattle.std.specs.Prelude.{true, false, List, [], ◌∷◌, ◌++◌, map, ◌≡◌, refl}
use Rattle.std.proofs.Common.{sym, ◌∙◌, add-zero, add-one}
use Rattle.std.proofs.Math.Path.{ap, subst, subst₂}
use native.Mathlib.Omega.{arith}
use Rattle.std.proofs.Math.Dec.{eqb}
use Rattle.model.specs.Basics.{distinct}
use Rattle.model.specs.Moves.{Move, no_move, move_before, insert}
use Rattle.model.specs.Tree.{Tree, moves_of}
use Rattle.model.specs.Calls.{on_board}
use Rattle.model.specs.Sound.{Fit}
use Rattle.model.specs.Entering.{enter_tree}
use Rattle.model.specs.Withdrawing.{enter_all}
use Rattle.model.proofs.Laws.Bool.{or-false-both}
use Rattle.model.proofs.Laws.Sorting.{any-insert}
use Rattle.model.proofs.Laws.Order.{move-path, move-order, distinct_head, distinct-right}
use Rattle.model.proofs.Laws.Entering.{enter-moves}
use Rattle.line.specs.Line.{moves_in}
use Rattle.line.specs.Laws.Line.{moves-line}
use Rattle.promises.specs.Layout.{costs_in, work_in, tab}
use Rattle.memory.specs.Frame.{RowsOnly}
use Rattle.promises.proofs.Laws.Tab.{get_or-tab, tab-append, tab-cons}
use Rattle.memory.specs.Laws.Places.{tab-each}
use Rattle.memory.specs.Laws.Frames.{frame-refl, frame-trans}
use Rattle.memory.specs.Laws.Fields.{costs-over-rows, work-over-rows}
use Rattle.tree.specs.Hold.{RowsHold}
use Rattle.tree.specs.Enter.{EnterAsked, Entered}
use Rattle.tree.specs.Withdraw.{saved_moves, SavedAsked, SavedEntered}

-- ---- lists

-- Where no number stands twice, two places have two numbers.
pub apart-tab : {A : Type 0} (g : A → ℕ) (f : ℕ → A) (n i j : ℕ) → distinct (map g (tab f n)) ≡ true → i < j → j < n → eqb (g (f i)) (g (f j)) ≡ false
apart-tab {A} g f n i j h l b =
    let rest : ℕ → A = λ k. f (i + suc k) in
    let count : n ≡ i + suc (n - suc i) = omega arith in
    let first : i + 0 ≡ i = omega arith in
    let second : i + suc (j - suc i) ≡ j = omega arith in
    let parts : tab f n ≡ tab f i ++ f (i + 0) ∷ tab rest (n - suc i) =
    ap (tab f) count ∙ tab-append f i (suc (n - suc i)) ∙ ap (λ (xs : List A). tab f i ++ xs) (tab-cons (λ k. f (i + k)) (n - suc i)) in
    let behind = distinct-right g (tab f i) (f (i + 0) ∷ tab rest (n - suc i)) (subst (λ (xs : List A). distinct (map g xs) ≡ true) parts h) in
    subst₂ (λ (x y : ℕ). eqb (g (f x)) (g (f y)) ≡ false) first second
    (tab-each rest (λ y. eqb (g (f (i + 0))) (g y) ≡ false) (n - suc i) (j - suc i) (omega arith) (distinct_head g (f (i + 0)) (tab rest (n - suc i)) behind))

pub enter-last : (d : ℕ) (ms : List Move) (x : Move) (t : Tree) → enter_all d (ms ++ x ∷ []) t ≡ enter_tree d x (enter_all d ms t)
unfolding enter_all
enter-last d [] x t = refl
enter-last d (m ∷ ms) x t = enter-last d ms x (enter_tree d m t)

-- ---- the moves of the work area

abbrev pub saved_move : ℕ → ℕ → List ℕ → ℕ → Move
saved_move c d m j = record { number = work_in c m j; costs = costs_in c d m (work_in c m j) }

-- The moves before the saved one of place j are entered, and those after it are not among the rows.
pub record Entering (c d n k j : ℕ) (m₀ m : List ℕ) : Type 0 where
  pub done : j ≤ k
  pub frame : RowsOnly c m₀ m
  pub holds : (t : Tree) → RowsHold c d n m₀ t → RowsHold c d (n + j) m (enter_all d (saved_moves c d j m₀) t)
  pub new : (t : Tree) → RowsHold c d n m₀ t → (i : ℕ) → j ≤ i → i < k → on_board (work_in c m₀ i) (moves_of (enter_all d (saved_moves c d j m₀) t)) ≡ false

pub same-moves : {c d n : ℕ} {m : List ℕ} {t u : Tree} → RowsHold c d n m t → RowsHold c d n m u → moves_of t ≡ moves_of u
same-moves {t = t} {u = u} h k = sym (moves-line t) ∙ ap moves_in (sym h.line ∙ k.line) ∙ moves-line u

module _ {c d n k : ℕ} {m₀ : List ℕ} (asked : SavedAsked c d n k m₀) where
  pub entering-none : Entering c d n k 0 m₀ m₀
  unfolding saved_moves tab enter_all
  entering-none =
      record {
        done = omega arith;
        frame = frame-refl m₀;
        holds = λ t h. subst (λ (i : ℕ). RowsHold c d i m₀ t) (sym (add-zero n)) h;
        new = λ t h i l b. subst (λ (x : Move). on_board x.number (moves_of t) ≡ false) (get_or-tab (saved_move c d m₀) no_move k i b) (asked.enterable t h i b).new;
      }

  module _ {j : ℕ} {m : List ℕ} (s : Entering c d n k j m₀ m) (more : j < k) where
    abbrev x : Move
    x = saved_move c d m₀ j

    fit : Fit c d x
    unfolding saved_moves
    fit = subst (Fit c d) (get_or-tab (saved_move c d m₀) no_move k j more) (asked.enterable asked.tree.tree asked.tree.holds j more).fit

    pub entering-low : work_in c m j < c
    entering-low = omega (arith, fit.number, work-over-rows c s.frame j)

    -- The move that is read for place j.
    pub entering-read : (y : Move) → y.number ≡ work_in c m j → y.costs ≡ costs_in c d m y.number → x ≡ y
    entering-read y number costs =
        let same : y.number ≡ work_in c m₀ j = number ∙ work-over-rows c s.frame j in
        move-path x y (sym same, sym (costs ∙ costs-over-rows c s.frame d y.number ∙ ap (costs_in c d m₀) same))

    pub entering-asked : EnterAsked c d (n + j) x m
    entering-asked =
        let held = asked.tree.holds in
        record {
          tree = record { tree = enter_all d (saved_moves c d j m₀) asked.tree.tree; holds = s.holds asked.tree.tree held };
          space = omega (arith, asked.space);
          enterable = λ t h.
              record {
                fit = fit;
                stored = costs-over-rows c s.frame d (work_in c m₀ j);
                new =
                    ap (on_board (work_in c m₀ j)) (same-moves h (s.holds asked.tree.tree held))
                    ∙ s.new asked.tree.tree held j (omega arith) more;
              };
        }

    entered-last : (t : Tree) → enter_all d (saved_moves c d (j + 1) m₀) t ≡ enter_tree d x (enter_all d (saved_moves c d j m₀) t)
    unfolding saved_moves tab
    entered-last t = ap (λ (i : ℕ). enter_all d (saved_moves c d i m₀) t) (add-one j) ∙ enter-last d (saved_moves c d j m₀) x t

    still-new : (v : ℕ) (t : Tree) {i : ℕ} → RowsHold c d i m t → eqb (work_in c m₀ j) v ≡ false → on_board v (moves_of t) ≡ false → on_board v (moves_of (enter_tree d x t)) ≡ false
    unfolding on_board insert
    still-new v t h ne new =
        ap (on_board v) (enter-moves d (Fit c d) (move-order d c h.readable.dimension) x fit t h.rules h.fits)
        ∙ any-insert (move_before d) (λ y. eqb y.number v) x (moves_of t)
        ∙ or-false-both (eqb (work_in c m₀ j) v) (on_board v (moves_of t)) ne new

    pub entering-more : (m' : List ℕ) → Entered c d (n + j) x m m' → Entering c d n k (j + 1) m₀ m'
    unfolding saved_moves
    entering-more m' e =
        let next : suc (n + j) ≡ n + (j + 1) = omega arith in
        record {
          done = omega arith;
          frame = frame-trans s.frame e.frame;
          holds = λ t h. subst₂ (λ (i : ℕ) (u : Tree). RowsHold c d i m' u) next (sym (entered-last t)) (e.holds (enter_all d (saved_moves c d j m₀) t) (s.holds t h));
          new = λ t h i l b.
              ap (λ (u : Tree). on_board (work_in c m₀ i) (moves_of u)) (entered-last t)
              ∙ still-new (work_in c m₀ i) (enter_all d (saved_moves c d j m₀) t) (s.holds t h)
              (apart-tab (λ y. y.number) (saved_move c d m₀) k j i asked.once (omega arith) b)
              (s.new t h i (omega arith) b);
        }

  pub entering-all : (m : List ℕ) → Entering c d n k k m₀ m → SavedEntered c d n k m₀ m
  entering-all m s = record { holds = s.holds; frame = s.frame }
