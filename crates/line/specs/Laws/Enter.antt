-- The flat enter computes the nested one.
use Rattle.std.specs.Prelude.{ℕ, suc, ◌<◌, true, ◌≡◌, refl, length}
use Rattle.std.proofs.Common.{inl, inr, ◌∙◌, subst, add-zero, le_refl, arith}
use Rattle.std.proofs.Math.Path.{sym, ap, ap₂}
use mathlib.Core.List.{List, [], ◌∷◌, ◌++◌, append-nil, flat_map, Memᴰ}
use Rattle.model.specs.Basics.{Each, rising}
use Rattle.model.specs.Moves.{Move, move_before, ordered}
use Rattle.model.specs.Tree.{Entry, Tree, empty, rooted, moves_under, moves_of, filled_tree, ruled}
use Rattle.model.specs.Entering.{enter_tree}
use Rattle.model.proofs.Laws.Bool.{by_cases}
use Rattle.model.proofs.Laws.Basics.{each-mono, each_both}
use Rattle.model.proofs.Laws.Sorting.{StrictOrder, BeforeEach, rising-tail, asym, connex, before-first}
use Rattle.model.proofs.Laws.Tree.{tree-full, root_least-range, ruled-filled, ruled-ordered}
use Rattle.line.specs.Line.{Placed, line_at, line_of}
use Rattle.line.specs.Places.{height_at, set_height, insert_at}
use Rattle.line.specs.Enter.{place_for, placed, cascade, flat_enter}
use Rattle.line.specs.Laws.Line.{row, Whole, tree-whole, line-moves}
use Rattle.line.specs.Laws.Places.{height-right, insert_seam}
use Rattle.line.specs.Laws.Entries.{line-pos, line-size, set_first, height-first}
use Rattle.line.specs.Laws.Standing.{After, Front, Stand, before, around, after, stand}
use Rattle.line.specs.Laws.Descent.{place_node, place_in}
use Rattle.line.specs.Laws.Placing.{lead, place-lead, before-line, before-place, after_line, after-place}
use Rattle.line.specs.Laws.Placed.{placed_first, placed-low}
use Rattle.line.specs.Laws.Way.{lead-place, rows}
use Rattle.line.specs.Laws.Cascade.{cascade-root}

-- ---- the root with the new move

module _ (d : ℕ) (x : Move) (h : ℕ) (es : List (Entry h)) (w : Whole (suc h) es) where
  abbrev line : List Placed
  line = line_at (suc h) (suc h) es

  line-end : height_at line (length line) ≡ 0
  unfolding height_at
  line-end =
      ap₂ height_at (sym (append-nil line)) (sym (add-zero (length line))) ∙ height-right line [] 0

  line-more : insert_at (length line) (row x 0) line ≡ line ++ row x 0 ∷ []
  line-more = ap (insert_at (length line) (row x 0)) (sym (append-nil line)) ∙ insert_seam line [] (row x 0)

  top : height_at line 0 ≡ suc h
  top = ap (λ (zs : List Placed). height_at zs 0) (sym (append-nil line)) ∙ height-first (suc h) (suc h) es [] w

  zeroed : set_height 0 0 line ≡ line_at (suc h) 0 es
  zeroed =
      ap (set_height 0 0) (sym (append-nil line)) ∙ set_first (suc h) 0 (suc h) es [] w ∙ append-nil (line_at (suc h) 0 es)

  root-row : Stand d x (suc h) es [] → placed d x (place_in d h x es) line ≡ line_at (suc h) (suc h) (place_node d h x es)
  unfolding insert_at
  root-row (before bs f) =
      ap (λ (p : ℕ). placed d x p line) (before-place d x h es w bs ∙ sym (line-size (suc h) (suc h) es))
      ∙ placed-low d x line (length line) (line-pos (suc h) (suc h) es w) line-end
      ∙ line-more
      ∙ sym (before-line d x h es (suc h) w bs)
  root-row (around m rs) = rows d x h es w m (suc h) (le_refl (suc h))
  root-row (after rs f) =
      ap (λ (p : ℕ). placed d x p line) (after-place d x h es w rs)
      ∙ placed_first d x line
      ∙ ap₂ (λ (n : ℕ) (zs : List Placed). row x n ∷ zs) top zeroed
      ∙ sym (after_line d x h es (suc h) w rs)

  root-placed : Front d x (moves_under (suc h) es) → placed d x (place_in d h x es) line ≡ line_at (suc h) (suc h) (place_node d h x es)
  root-placed f = root-row (stand d x (suc h) es [] w (subst (Front d x) (sym (append-nil (moves_under (suc h) es))) f))

  root-place : Front d x (moves_under (suc h) es) → place_for d x line ≡ place_in d h x es
  root-place f = place-lead d x line ∙ ap (lead d x) (line-moves (suc h) (suc h) es) ∙ lead-place d x h es w f

-- ---- the tree

pub enter-cons : (d : ℕ) (x : Move) (rs : List Placed) → 0 < length rs
    → flat_enter d x rs ≡ cascade d (suc (height_at rs 0)) 1 (place_for d x rs) (placed d x (place_for d x rs) rs)
unfolding flat_enter height_at
enter-cons d x [] g = absurd (omega arith)
enter-cons d x (r ∷ rs) g = refl

pub flat-enter : (d : ℕ) (x : Move) (t : Tree) → filled_tree t ≡ true → Front d x (moves_of t) → line_of (enter_tree d x t) ≡ flat_enter d x (line_of t)
unfolding enter_tree line_of moves_of flat_enter line_at flat_map
flat-enter d x empty g f = refl
flat-enter d x (rooted h es) g f =
    let w = tree-whole (rooted h es) g in
    let full = tree-full h es g in
    let rs = line_at (suc h) (suc h) es in
    sym
    (enter-cons d x rs (line-pos (suc h) (suc h) es w)
    ∙ ap₂ (λ (n p : ℕ). cascade d (suc n) 1 p (placed d x p rs)) (top d x h es w) (root-place d x h es w f)
    ∙ ap (cascade d (suc (suc h)) 1 (place_in d h x es)) (root-placed d x h es w f)
    ∙ cascade-root d h x es (record { least = omega (arith, full.least, root_least-range h); most = full.most; under = full.under }))

-- ---- by the order of the moves

module _ (d : ℕ) (P : Move → Type 0) (o : StrictOrder P (move_before d)) (x : Move) (px : P x) where
  all-after : (ms : List Move) → Each P ms → BeforeEach (move_before d) x ms → Each (After d x) ms
  all-after ms ps bs =
      each-mono (λ m. P m × (move_before d x m ≡ true)) (After d x) ms (λ m q. (asym P (move_before d) o x m px q.0 q.1, q.1))
      (each_both P (λ m. move_before d x m ≡ true) ms ps bs)

  rising-front : (ms : List Move) → Each P ms → rising (move_before d) ms ≡ true → ¬ Memᴰ x ms → Front d x ms
  rising-front [] ps r n = tt
  rising-front (m ∷ ms) ps r n =
      by_cases (move_before d m x)
      (λ b. inl (
        (b, asym P (move_before d) o m x ps.0 px b),
        rising-front ms ps.1 (rising-tail (move_before d) m ms r) (λ i. n (Memᴰ.tail i)),
      ))
      (λ b.
      let l = connex P (move_before d) o m x ps.0 px b (λ e. n (Memᴰ.head (sym e))) in
      inr (all-after (m ∷ ms) ps (before-first P (move_before d) o x m ms px ps.0 ps.1 l r)))

  pub flat-enter-ordered : (t : Tree) → filled_tree t ≡ true → ordered d (moves_of t) ≡ true → Each P (moves_of t) → ¬ Memᴰ x (moves_of t)
      → line_of (enter_tree d x t) ≡ flat_enter d x (line_of t)
  unfolding ordered
  flat-enter-ordered t g r ps n = flat-enter d x t g (rising-front (moves_of t) ps r n)

  pub flat-enter-ruled : (t : Tree) → ruled d t ≡ true → Each P (moves_of t) → ¬ Memᴰ x (moves_of t) → line_of (enter_tree d x t) ≡ flat_enter d x (line_of t)
  flat-enter-ruled t k = flat-enter-ordered t (ruled-filled d t k) (ruled-ordered d t k)
