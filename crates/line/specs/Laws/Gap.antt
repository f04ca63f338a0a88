-- The new move in the gap between two entries of a node.
use Rattle.std.specs.Prelude.{ℕ, suc, ◌+◌, ◌-◌, ◌≤◌, ◌<◌, true, false, ◌≡◌, length}
use Rattle.std.proofs.Math.Bool.{Bool}
use Rattle.std.proofs.Math.Path.{sym, ap, ap₂}
use Rattle.std.proofs.Common.{◌∙◌, subst, add-zero, le_refl, arith, length-append}
use mathlib.Core.List.{List, [], ◌∷◌, ◌++◌, append_assoc, append-nil}
use borrow.Author.Tests.{leb-true, leb-false, lt-ltb, le-ltb}
use Rattle.std.proofs.Math.Dec.{ltb}
use Rattle.std.proofs.Math.Seq.{append_snoc}
use Rattle.zorder.specs.Between.{side_of}
use Rattle.model.specs.Basics.{Each}
use Rattle.model.specs.Moves.{Move, move_before, insert}
use Rattle.model.specs.Tree.{Entry, moves_under, first_move, last_move}
use Rattle.model.specs.Entering.{earlier_in_gap}
use Rattle.model.proofs.Laws.Bool.{by_cases}
use Rattle.model.proofs.Laws.Basics.{each-mono, each_right}
use Rattle.model.proofs.Laws.Sorting.{insert-here, insert-append-right}
use Rattle.model.proofs.Laws.Tree.{leaf-moves}
use Rattle.line.specs.Line.{Placed, line_at}
use Rattle.line.specs.Places.{move_at, height_at, node_start, node_end, set_height, insert_at}
use Rattle.line.specs.Enter.{later_in_gap, placed}
use Rattle.line.specs.Laws.Line.{row, Whole}
use Rattle.line.specs.Laws.Places.{FirstAtLeast, height-right, insert_seam, set-right}
use Rattle.line.specs.Laws.Entries.{following, following-more, following-least, line-append, line-seam, line-one, line-more, line-pos, line-size, set_first, height-first, node-start-at, node-end-at, first-at, last-at, lines_start}
use Rattle.line.specs.Laws.Standing.{Before, After, AllBefore, AllAfter, child-earlier, child-later}
use Rattle.line.specs.Laws.Descent.{place_node, place_in, place-line, place-in}
use Rattle.line.specs.Laws.Placing.{before-line, before-place, after_line, after-place}
use Rattle.line.specs.Laws.Placed.{placed-low, placed-gap}

-- ---- what the flat form compares

-- Rows xs, an entry e, an entry f, rows ys.
module _ (d : ℕ) (x : Move) (h k : ℕ) (e f : Entry (suc h)) (we : Whole (suc h) e) (wf : Whole (suc h) f) (t : suc h ≤ k)
    (xs ys : List Placed) (s : FirstAtLeast (suc h) ys) where
  abbrev left : List Placed
  left = xs ++ line_at (suc h) k e

  abbrev right : List Placed
  right = line_at (suc h) (suc h) f ++ ys

  abbrev side_left : ℕ
  side_left = side_of d (first_move (suc h) e).costs x.costs

  abbrev side_right : ℕ
  side_right = side_of d x.costs (last_move (suc h) f).costs

  gap-height : height_at (left ++ right) (length left) ≡ suc h
  gap-height =
      ap (height_at (left ++ right)) (sym (add-zero (length left)))
      ∙ height-right left right 0
      ∙ height-first (suc h) (suc h) f ys wf

  gap-last : move_at (left ++ right) (node_end (suc h) (length left) (left ++ right) - 1) ≡ last_move (suc h) f
  gap-last =
      ap (λ (i : ℕ). move_at (left ++ right) (i - 1))
      (ap (λ (i : ℕ). node_end (suc h) i (left ++ right)) (sym (add-zero (length left)))
      ∙ node-end-at (suc h) (suc h) f wf left ys 0 (line-pos (suc h) (suc h) f wf) s)
      ∙ last-at (suc h) (suc h) f wf left ys

  gap-first : move_at (left ++ right) (node_start (suc h) (length left - 1) (left ++ right)) ≡ first_move (suc h) e
  gap-first =
      let u = line_at (suc h) k e in
      let g = line-pos (suc h) k e we in
      ap₂ (λ (i : ℕ) (rs : List Placed). move_at rs (node_start (suc h) i rs)) (omega (arith, length-append xs u, g)) (append_assoc xs u right)
      ∙ ap (move_at (xs ++ (u ++ right))) (node-start-at (suc h) k e we xs right (length u - 1) (omega (arith, g)) t)
      ∙ first-at (suc h) k e we xs right

  gap-later : later_in_gap d x (length left) (left ++ right) ≡ ltb side_right side_left
  unfolding later_in_gap
  gap-later =
      ap (λ (j : ℕ). later (move_at (left ++ right) (node_start j (length left - 1) (left ++ right))) (move_at (left ++ right) (node_end j (length left) (left ++ right) - 1)))
      gap-height
      ∙ ap₂ later gap-first gap-last
    where
      later : Move → Move → Bool
      later a b = ltb (side_of d x.costs b.costs) (side_of d a.costs x.costs)

  later-false : earlier_in_gap d (suc h) x e f ≡ true → later_in_gap d x (length left) (left ++ right) ≡ false
  unfolding earlier_in_gap
  later-false b = gap-later ∙ le-ltb side_right side_left (leb-true side_left side_right b)

  later-true : earlier_in_gap d (suc h) x e f ≡ false → later_in_gap d x (length left) (left ++ right) ≡ true
  unfolding earlier_in_gap
  later-true b = gap-later ∙ lt-ltb side_right side_left (leb-false side_left side_right b)

  left-pos : 0 < length left
  left-pos = omega (arith, length-append xs (line_at (suc h) k e), line-pos (suc h) k e we)

  pub gap-earlier-row : earlier_in_gap d (suc h) x e f ≡ true → placed d x (length left) (left ++ right) ≡ left ++ row x 0 ∷ right
  gap-earlier-row b =
      placed-gap d x (left ++ right) (length left) left-pos h false gap-height (later-false b) ∙ insert_seam left right (row x 0)

  pub gap-later-row : earlier_in_gap d (suc h) x e f ≡ false
      → placed d x (length left) (left ++ right) ≡ left ++ row x (suc h) ∷ (line_at (suc h) 0 f ++ ys)
  gap-later-row b =
      placed-gap d x (left ++ right) (length left) left-pos h true gap-height (later-true b)
      ∙ ap (insert_at (length left) (row x (suc h)))
      (ap (λ (i : ℕ). set_height i 0 (left ++ right)) (sym (add-zero (length left)))
      ∙ set-right left right 0 0
      ∙ ap (λ (rs : List Placed). left ++ rs) (set_first (suc h) 0 (suc h) f ys wf))
      ∙ insert_seam left (line_at (suc h) 0 f ++ ys) (row x (suc h))

-- ---- between two nodes

module _ (d h : ℕ) (x : Move) (k : ℕ) (us : List (Entry (suc h))) (e f : List (Entry h)) (vs : List (Entry (suc h)))
    (w : Each (Whole (suc h)) (us ++ e ∷ f ∷ vs)) (t : suc h ≤ k) (bs : Each (AllBefore d x (suc h)) us) (b : AllBefore d x (suc h) e)
    (a : AllAfter d x (suc h) f) (rs : Each (AllAfter d x (suc h)) vs) where
  abbrev es : List (Entry (suc h))
  es = us ++ e ∷ f ∷ vs

  abbrev j : ℕ
  j = following k (suc h) us

  abbrev u : List Placed
  u = line_at (suc (suc h)) k us

  abbrev v : List Placed
  v = line_at (suc (suc h)) (suc h) vs

  we : Whole (suc h) e
  we = (each_right (Whole (suc h)) us (e ∷ f ∷ vs) w).0

  wf : Whole (suc h) f
  wf = (each_right (Whole (suc h)) us (e ∷ f ∷ vs) w).1.0

  wv : Each (Whole (suc h)) vs
  wv = (each_right (Whole (suc h)) us (e ∷ f ∷ vs) w).1.1

  before-seam : line_at (suc (suc h)) k (us ++ e ∷ []) ≡ u ++ line_at (suc h) j e
  before-seam = line-append (suc h) k us (e ∷ []) ∙ ap (λ (zs : List Placed). u ++ zs) (line-one (suc h) j e)

  shape : line_at (suc (suc h)) k es ≡ (u ++ line_at (suc h) j e) ++ (line_at (suc h) (suc h) f ++ v)
  shape =
      ap (line_at (suc (suc h)) k) (sym (append_snoc us e (f ∷ vs)))
      ∙ line-seam (suc h) k (us ++ e ∷ []) (f ∷ vs) (omega (arith, length-append us (e ∷ [])))
      ∙ ap₂ (λ (ps qs : List Placed). ps ++ qs) before-seam (line-more (suc h) (suc h) f vs)

  starts : FirstAtLeast (suc h) v
  starts = subst (FirstAtLeast (suc h)) (append-nil v) (lines_start (suc h) (suc h) (suc h) vs [] wv (le_refl (suc h)) tt)

  high : suc h ≤ j
  high = following-least (suc h) k (suc h) us t (le_refl (suc h))

  seam-length : length (u ++ line_at (suc h) j e) ≡ length (moves_under (suc (suc h)) us) + length (moves_under (suc h) e)
  seam-length = omega (arith, length-append u (line_at (suc h) j e), line-size (suc (suc h)) k us, line-size (suc h) j e)

  earlier-place : earlier_in_gap d (suc h) x e f ≡ true → place_in d (suc h) x es ≡ length (u ++ line_at (suc h) j e)
  earlier-place c =
      omega (arith, place-in d h x us e (f ∷ vs) (child-earlier d (suc h) x us e f vs w bs b a rs c), before-place d x h e we b, seam-length)

  later-place : earlier_in_gap d (suc h) x e f ≡ false → place_in d (suc h) x es ≡ length (u ++ line_at (suc h) j e)
  later-place c =
      ap (place_in d (suc h) x) (sym (append_snoc us e (f ∷ vs)))
      ∙ place-in d h x (us ++ e ∷ []) f vs (child-later d (suc h) x us e f vs w bs b a rs c)
      ∙ (omega (arith, after-place d x h f wf a, line-size (suc (suc h)) k (us ++ e ∷ []), ap length before-seam))

  pub gap-place : place_in d (suc h) x es ≡ length (moves_under (suc (suc h)) us) + length (moves_under (suc h) e)
  gap-place = by_cases (earlier_in_gap d (suc h) x e f) earlier-place later-place ∙ seam-length

  earlier-line : earlier_in_gap d (suc h) x e f ≡ true
      → line_at (suc (suc h)) k (place_node d (suc h) x es) ≡ (u ++ line_at (suc h) j e) ++ row x 0 ∷ (line_at (suc h) (suc h) f ++ v)
  earlier-line c =
      let l = line_at (suc h) j e in
      let r = line_at (suc h) (suc h) f ++ v in
      place-line d h x us e (f ∷ vs) (child-earlier d (suc h) x us e f vs w bs b a rs c) k
      ∙ ap₂ (λ (ps qs : List Placed). u ++ (ps ++ qs)) (before-line d x h e j we b) (line-more (suc h) (suc h) f vs)
      ∙ ap (λ (ps : List Placed). u ++ ps) (append_snoc l (row x 0) r)
      ∙ sym (append_assoc u l (row x 0 ∷ r))

  later-line : earlier_in_gap d (suc h) x e f ≡ false
      → line_at (suc (suc h)) k (place_node d (suc h) x es) ≡ (u ++ line_at (suc h) j e) ++ row x (suc h) ∷ (line_at (suc h) 0 f ++ v)
  later-line c =
      ap (λ (gs : List (Entry (suc h))). line_at (suc (suc h)) k (place_node d (suc h) x gs)) (sym (append_snoc us e (f ∷ vs)))
      ∙ place-line d h x (us ++ e ∷ []) f vs (child-later d (suc h) x us e f vs w bs b a rs c) k
      ∙ ap₂ (λ (ps qs : List Placed). ps ++ (qs ++ v)) before-seam
      (ap (λ (i : ℕ). line_at (suc h) i (place_node d h x f)) (following-more k (suc h) (us ++ e ∷ []) (omega (arith, length-append us (e ∷ []))))
      ∙ after_line d x h f (suc h) wf a)

  pub gap-line : placed d x (place_in d (suc h) x es) (line_at (suc (suc h)) k es) ≡ line_at (suc (suc h)) k (place_node d (suc h) x es)
  gap-line =
      by_cases (earlier_in_gap d (suc h) x e f)
      (λ c. ap₂ (placed d x) (earlier-place c) shape ∙ gap-earlier-row d x h j e f we wf high u v starts c ∙ sym (earlier-line c))
      (λ c. ap₂ (placed d x) (later-place c) shape ∙ gap-later-row d x h j e f we wf high u v starts c ∙ sym (later-line c))

-- ---- between two moves

module _ (d : ℕ) (x : Move) (k : ℕ) (ms : List Move) (n : Move) (ns : List Move)
    (g : 0 < length ms) (bs : Each (Before d x) ms) (rs : Each (After d x) (n ∷ ns)) where
  leaf-insert : insert d x (ms ++ n ∷ ns) ≡ ms ++ x ∷ n ∷ ns
  unfolding insert
  leaf-insert =
      insert-append-right (move_before d) x ms (n ∷ ns) (each-mono (Before d x) (λ m. move_before d x m ≡ false) ms (λ m b. b.1) bs)
      ∙ ap (λ (zs : List Move). ms ++ zs) (insert-here (move_before d) x n ns rs.0.1)

  leaf-shape : line_at 1 k (ms ++ n ∷ ns) ≡ line_at 1 k ms ++ line_at 1 0 (n ∷ ns)
  leaf-shape = line-seam 0 k ms (n ∷ ns) g

  leaf-length : length (line_at 1 k ms) ≡ length ms
  leaf-length = line-size 1 k ms ∙ ap length (leaf-moves ms)

  leaf-low : height_at (line_at 1 k ms ++ line_at 1 0 (n ∷ ns)) (length (line_at 1 k ms)) ≡ 0
  unfolding line_at height_at
  leaf-low =
      ap (height_at (line_at 1 k ms ++ line_at 1 0 (n ∷ ns))) (sym (add-zero (length (line_at 1 k ms))))
      ∙ height-right (line_at 1 k ms) (line_at 1 0 (n ∷ ns)) 0

  pub leaf-line : placed d x (length ms) (line_at 1 k (ms ++ n ∷ ns)) ≡ line_at 1 k (insert d x (ms ++ n ∷ ns))
  unfolding line_at
  leaf-line =
      let l = line_at 1 k ms in
      let r = line_at 1 0 (n ∷ ns) in
      ap₂ (placed d x) (sym leaf-length) leaf-shape
      ∙ placed-low d x (l ++ r) (length l) (omega (arith, leaf-length)) leaf-low
      ∙ insert_seam l r (row x 0)
      ∙ ap (λ (ps : List Placed). l ++ ps) (sym (line-more 0 0 x (n ∷ ns)))
      ∙ sym (line-seam 0 k ms (x ∷ n ∷ ns) g)
      ∙ ap (line_at 1 k) (sym leaf-insert)
