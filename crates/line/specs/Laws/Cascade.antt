-- The nodes of nine split from the leaf up, on the line as in the nest.
use Rattle.std.specs.Prelude.{ℕ, zero, suc, ◌+◌, ◌-◌, ◌≤◌, ◌<◌, Bool, ◌≡◌, refl, ltb}
use Rattle.std.proofs.Math.Bool.{true, false, cond}
use Rattle.std.proofs.Common.{sym, ◌∙◌, subst, zero-add, le_refl, arith, length-append}
use Rattle.std.proofs.Math.Path.{ap, ap₂}
use mathlib.Core.List.{List, [], ◌∷◌, ◌++◌, append-nil}
use borrow.Author.Tests.{ltb-true, ltb-false, lt-ltb, le-ltb, ne_eqb, eq-eqb}
use Rattle.std.proofs.Math.ListN.{length}
use Rattle.model.specs.Basics.{Each}
use Rattle.model.specs.Moves.{Move}
use Rattle.model.specs.Tree.{Entry, moves_under}
use Rattle.model.specs.Entering.{child_place, split, enter_node, root_of}
use Rattle.model.proofs.Laws.Bool.{by_cases}
use Rattle.model.proofs.Laws.Basics.{each-mono, each_left, each_right}
use Rattle.model.proofs.Laws.Tree.{Filled, Full, filled-full}
use Rattle.model.proofs.Laws.Entering.{enter_node-length, enter_node-filled, split-length, split-filled, split_moves}
use Rattle.line.specs.Line.{Placed, line_at, line_of}
use Rattle.line.specs.Places.{height_at, node_start, node_end, entries, entry_at, set_height}
use Rattle.line.specs.Enter.{cut_entry, split_at, cascade}
use Rattle.line.specs.Laws.Line.{Whole, line-cons, filled-whole}
use Rattle.line.specs.Laws.Places.{FirstAtLeast, starts-lower, entries_between}
use Rattle.line.specs.Laws.Entries.{following, following-least, regroup, line-one, set_first, height-first, line-size, node-start-at, node-end-at, lines_start, count_entries}
use Rattle.line.specs.Laws.Descent.{place_node, place_in, place-line, enter-node, enter-line, place-in, by-child, place_inside}
use Rattle.line.specs.Laws.Split.{split-nine, split-few, split-line}

-- ---- one level

module _ (d h k : ℕ) (xs : List Placed) (es : List (Entry h)) (ys : List Placed) (w : Whole (suc h) es) (t : suc h ≤ k) (s : FirstAtLeast (suc h) ys)
    (q : ℕ) (l : q < length (line_at (suc h) k es)) where
  abbrev here : List Placed
  here = xs ++ (line_at (suc h) k es ++ ys)

  abbrev at : ℕ
  at = length xs + q

  start-here : node_start (suc h) at here ≡ length xs
  start-here = node-start-at (suc h) k es w xs ys q l t

  end-here : node_end (suc h) at here ≡ length xs + length (line_at (suc h) k es)
  end-here = node-end-at (suc h) k es w xs ys q l s

  entries-here : entries (suc h - 1) (node_start (suc h) at here) (node_end (suc h) at here) here ≡ length es
  entries-here =
      ap₂ (λ (i j : ℕ). entries (suc h - 1) i j here) start-here end-here
      ∙ ap (λ (m : ℕ). entries m (length xs) (length xs + length (line_at (suc h) k es)) here) (omega arith)
      ∙ entries_between h xs (line_at (suc h) k es) ys
      ∙ count_entries h k es w.1 (omega arith)

  cut-here : 8 < length es
      → (let i = node_start (suc h) at here in let j = node_end (suc h) at here in
      set_height (entry_at (suc h - 1) i (cut_entry d (suc h) i j here) here) (suc h) here)
      ≡ xs ++ (line_at (suc (suc h)) k (split d h es) ++ ys)
  cut-here g =
      ap₂ (λ (i j : ℕ). set_height (entry_at (suc h - 1) i (cut_entry d (suc h) i j here) here) (suc h) here) start-here end-here
      ∙ split-line d h k xs es ys w.1 (starts-lower h (suc h) ys (omega arith) s) g

  split_below : 8 < length es → (height_at here 0 ≡ suc h → ⊥) → split_at d (suc h) at here ≡ xs ++ (line_at (suc (suc h)) k (split d h es) ++ ys)
  unfolding split_at
  split_below g n =
      ap₂ (λ (b : Bool) (rs : List Placed). cond b (set_height 0 (suc (suc h)) rs) rs) (ne_eqb (height_at here 0) (suc h) n) (cut-here g)

  split-top : 8 < length es → height_at here 0 ≡ suc h
      → split_at d (suc h) at here ≡ set_height 0 (suc (suc h)) (xs ++ (line_at (suc (suc h)) k (split d h es) ++ ys))
  unfolding split_at
  split-top g n =
      ap₂ (λ (b : Bool) (rs : List Placed). cond b (set_height 0 (suc (suc h)) rs) rs) (eq-eqb (height_at here 0) (suc h) n) (cut-here g)

  stays : (f : ℕ) → length es ≤ 8 → cascade d (suc f) (suc h) at here ≡ here
  unfolding cascade
  stays f g =
      ap (λ (b : Bool). elim b [ true ↦ cascade d f (suc (suc h)) at (split_at d (suc h) at here) | false ↦ here ])
      (ap (ltb 8) entries-here ∙ le-ltb 8 (length es) g)

  goes_on : (f : ℕ) → 8 < length es → cascade d (suc f) (suc h) at here ≡ cascade d f (suc (suc h)) at (split_at d (suc h) at here)
  unfolding cascade
  goes_on f g =
      ap (λ (b : Bool). elim b [ true ↦ cascade d f (suc (suc h)) at (split_at d (suc h) at here) | false ↦ here ])
      (ap (ltb 8) entries-here ∙ lt-ltb 8 (length es) g)

-- ---- from the leaf up

-- The fuel that is left at the leaf, if f is to be left above level h.
unfoldable pub climb : ℕ → ℕ → ℕ
climb zero f = suc f
climb (suc h) f = climb h (suc f)

pub climb-is : (h f : ℕ) → climb h f ≡ suc (h + f)
unfolding climb
climb-is zero f = omega arith
climb-is (suc h) f = climb-is h (suc f) ∙ (omega arith)

-- The height of a line's first row, of a part with height k behind the rows xs.
unfoldable pub top_height : List Placed → ℕ → ℕ
top_height [] k = k
top_height (r ∷ rs) k = r.height

top-here : (h k : ℕ) (c : Entry h) (xs ys : List Placed) → Whole h c → height_at (xs ++ (line_at h k c ++ ys)) 0 ≡ top_height xs k
unfolding top_height height_at
top-here h k c [] ys w = height-first h k c ys w
top-here h k c (x ∷ xs) ys w = refl

top_within : (h k : ℕ) (xs : List Placed) (us : List (Entry h)) → Each (Whole h) us → top_height (xs ++ line_at (suc h) k us) (following k h us) ≡ top_height xs k
unfolding top_height line_at
top_within h k [] [] w = refl
top_within h k [] (u ∷ us) w = ap (λ (rs : List Placed). top_height rs h) (line-cons (suc h) k (u ∷ us) (omega arith, w))
top_within h k (x ∷ xs) us w = refl

pub filled-each : (h : ℕ) (es : List (Entry h)) → Each (Filled h) es → Each (Whole h) es
filled-each h es = each-mono (Filled h) (Whole h) es (filled-whole h)

entered-whole : (d h : ℕ) (x : Move) (es : List (Entry h)) → Full 1 h es → Whole (suc h) (enter_node d h x es)
entered-whole d h x es f =
    (omega (arith, enter_node-length d x h es f.least, f.least), filled-each h (enter_node d h x es) (enter_node-filled d x h es f.under))

-- The cascade from the leaf up to a node comes to the node as the nest has it.
abbrev pub Climbs : ℕ → (h : ℕ) → Move → List (Entry h) → Type 0
Climbs d h x es =
    (f k : ℕ) (xs ys : List Placed) → Full 1 h es → suc h ≤ k → suc h ≤ top_height xs k → FirstAtLeast (suc h) ys
    → cascade d (climb h f) 1 (length xs + place_in d h x es) (xs ++ (line_at (suc h) k (place_node d h x es) ++ ys))
    ≡ cascade d (suc f) (suc h) (length xs + place_in d h x es) (xs ++ (line_at (suc h) k (enter_node d h x es) ++ ys))

module _ (d h : ℕ) (x : Move) (us : List (Entry (suc h))) (c : List (Entry h)) (vs : List (Entry (suc h)))
    (e : child_place d (suc h) x (us ++ c ∷ vs) ≡ length us) (f k : ℕ) (xs ys : List Placed)
    (full : Full 1 (suc h) (us ++ c ∷ vs)) (t : suc (suc h) ≤ k) (top : suc (suc h) ≤ top_height xs k) (s : FirstAtLeast (suc (suc h)) ys) where
  -- The child's line in the whole, before and after it is entered.
  abbrev k' : ℕ
  k' = following k (suc h) us

  abbrev xs' : List Placed
  xs' = xs ++ line_at (suc (suc h)) k us

  abbrev ys' : List Placed
  ys' = line_at (suc (suc h)) (suc h) vs ++ ys

  abbrev c' : List (Entry h)
  c' = enter_node d h x c

  abbrev es : List (Entry (suc h))
  es = us ++ c ∷ vs

  abbrev es' : List (Entry (suc h))
  es' = enter_node d (suc h) x es

  place : length xs + place_in d (suc h) x es ≡ length xs' + place_in d h x c
  place = omega (arith, place-in d h x us c vs e, length-append xs (line_at (suc (suc h)) k us), line-size (suc (suc h)) k us)

  placed-line : xs ++ (line_at (suc (suc h)) k (place_node d (suc h) x es) ++ ys) ≡ xs' ++ (line_at (suc h) k' (place_node d h x c) ++ ys')
  placed-line =
      ap (λ (rs : List Placed). xs ++ (rs ++ ys)) (place-line d h x us c vs e k)
      ∙ regroup xs (line_at (suc (suc h)) k us) (line_at (suc h) k' (place_node d h x c)) (line_at (suc (suc h)) (suc h) vs) ys

  entered-line : xs ++ (line_at (suc (suc h)) k es' ++ ys) ≡ xs' ++ (line_at (suc (suc h)) k' (split d h c') ++ ys')
  entered-line =
      ap (λ (rs : List Placed). xs ++ (rs ++ ys)) (enter-line d h x us c vs e k)
      ∙ regroup xs (line_at (suc (suc h)) k us) (line_at (suc (suc h)) k' (split d h c')) (line_at (suc (suc h)) (suc h) vs) ys

  whole : Each (Whole (suc h)) es
  whole = filled-each (suc h) es full.under

  child : Full 1 h c
  child =
      let g = filled-full h c (each_right (Filled (suc h)) us (c ∷ vs) full.under).0 in
      record { least = omega (arith, g.least); most = g.most; under = g.under }

  child-top : suc h ≤ k'
  child-top = following-least (suc h) k (suc h) us (omega arith) (le_refl (suc h))

  child-below : suc (suc h) ≤ top_height xs' k'
  child-below = subst (λ (n : ℕ). suc (suc h) ≤ n) (sym (top_within (suc h) k xs us (each_left (Whole (suc h)) us (c ∷ vs) whole))) top

  child-starts : FirstAtLeast (suc h) ys'
  child-starts =
      lines_start (suc h) (suc h) (suc h) vs ys (each_right (Whole (suc h)) us (c ∷ vs) whole).1 (le_refl (suc h))
      (starts-lower (suc h) (suc (suc h)) ys (omega arith) s)

  child-whole : Whole (suc h) c'
  child-whole = entered-whole d h x c child

  child-inside : place_in d h x c < length (line_at (suc h) k' c')
  child-inside = omega (arith, place_inside d x h c (child.least, filled-each h c child.under), line-size (suc h) k' c')

  inside : place_in d (suc h) x es < length (line_at (suc (suc h)) k es')
  inside = omega (arith, place_inside d x (suc h) es (full.least, whole), line-size (suc (suc h)) k es')

  few : length c' ≤ 8 → length es' ≤ 8
  few g =
      omega (
        arith,
        ap length (enter-node d h x us c vs e),
        length-append us (split d h c' ++ vs),
        length-append (split d h c') vs,
        ap length (split-few d h c' g),
        length-append us (c ∷ vs),
        full.most,
      )

  on-over : 8 < length c' → cascade d (suc (suc f)) (suc h) (length xs' + place_in d h x c) (xs' ++ (line_at (suc h) k' c' ++ ys'))
      ≡ cascade d (suc f) (suc (suc h)) (length xs + place_in d (suc h) x es) (xs ++ (line_at (suc (suc h)) k es' ++ ys))
  on-over g =
      let q = place_in d h x c in
      goes_on d h k' xs' c' ys' child-whole child-top child-starts q child-inside (suc f) g
      ∙ ap (cascade d (suc f) (suc (suc h)) (length xs' + q))
      (split_below d h k' xs' c' ys' child-whole child-top child-starts q child-inside g
      (λ n. omega (arith, child-below, top-here (suc h) k' c' xs' ys' child-whole)))
      ∙ sym (ap₂ (cascade d (suc f) (suc (suc h))) place entered-line)

  on-under : length c' ≤ 8 → cascade d (suc (suc f)) (suc h) (length xs' + place_in d h x c) (xs' ++ (line_at (suc h) k' c' ++ ys'))
      ≡ cascade d (suc f) (suc (suc h)) (length xs + place_in d (suc h) x es) (xs ++ (line_at (suc (suc h)) k es' ++ ys))
  on-under g =
      let q = place_in d h x c in
      stays d h k' xs' c' ys' child-whole child-top child-starts q child-inside (suc f) g
      ∙ ap (λ (rs : List Placed). xs' ++ (rs ++ ys'))
      (sym (line-one (suc h) k' c') ∙ ap (line_at (suc (suc h)) k') (sym (split-few d h c' g)))
      ∙ sym entered-line
      ∙ sym (stays d (suc h) k xs es' ys (entered-whole d (suc h) x es full) t s (place_in d (suc h) x es) inside f (few g))

  climb-step : Climbs d h x c
      → cascade d (climb (suc h) f) 1 (length xs + place_in d (suc h) x es) (xs ++ (line_at (suc (suc h)) k (place_node d (suc h) x es) ++ ys))
      ≡ cascade d (suc f) (suc (suc h)) (length xs + place_in d (suc h) x es) (xs ++ (line_at (suc (suc h)) k es' ++ ys))
  unfolding climb
  climb-step ih =
      ap₂ (cascade d (climb h (suc f)) 1) place placed-line
      ∙ ih (suc f) k' xs' ys' child child-top (omega (arith, child-below)) child-starts
      ∙ by_cases (ltb 8 (length c')) (λ b. on-over (ltb-true 8 (length c') b)) (λ b. on-under (ltb-false 8 (length c') b))

pub climbs : (d : ℕ) (x : Move) (h : ℕ) (es : List (Entry h)) → Climbs d h x es
unfolding climb place_node enter_node
climbs d x zero ms f k xs ys full t top s = refl
climbs d x (suc h) es f k xs ys full t top s =
    by-child d h x es full.least
    (λ es. Full 1 (suc h) es
    → cascade d (climb (suc h) f) 1 (length xs + place_in d (suc h) x es) (xs ++ (line_at (suc (suc h)) k (place_node d (suc h) x es) ++ ys))
    ≡ cascade d (suc f) (suc (suc h)) (length xs + place_in d (suc h) x es) (xs ++ (line_at (suc (suc h)) k (enter_node d (suc h) x es) ++ ys)))
    (λ us c vs e full. climb-step d h x us c vs e f k xs ys full t top s (climbs d x h c))
    full

-- ---- the root

module _ (d h : ℕ) (x : Move) (es : List (Entry h)) (full : Full 1 h es) where
  abbrev root' : List (Entry h)
  root' = enter_node d h x es

  abbrev p : ℕ
  p = 0 + place_in d h x es

  root-whole : Whole (suc h) root'
  root-whole = entered-whole d h x es full

  root-inside : place_in d h x es < length (line_at (suc h) (suc h) root')
  root-inside = omega (arith, place_inside d x h es (full.least, filled-each h es full.under), line-size (suc h) (suc h) root')

  root-stays : length root' ≤ 8 → cascade d 2 (suc h) p (line_at (suc h) (suc h) root' ++ []) ≡ line_of (root_of h (split d h root'))
  unfolding root_of line_of
  root-stays g =
      stays d h (suc h) [] root' [] root-whole (le_refl (suc h)) tt (place_in d h x es) root-inside 1 g
      ∙ append-nil (line_at (suc h) (suc h) root')
      ∙ ap (λ (gs : List (List (Entry h))). line_of (root_of h gs)) (sym (split-few d h root' g))

  abbrev parts : List (List (Entry h))
  parts = split d h root'

  parts_whole : 8 < length root' → Whole (suc (suc h)) parts
  parts_whole g =
      let l = enter_node-length d x h es full.least in
      let f = split-filled d h root' (omega (arith, l.1, full.most)) (enter_node-filled d x h es full.under) (omega arith) in
      ((split-length d h root').0, filled-each (suc h) parts f)

  parts-inside : place_in d h x es < length (line_at (suc (suc h)) (suc (suc h)) parts)
  unfolding moves_under
  parts-inside =
      omega (arith, root-inside, line-size (suc h) (suc h) root', line-size (suc (suc h)) (suc (suc h)) parts, ap length (split_moves d h root'))

  root-splits : 8 < length root' → cascade d 2 (suc h) p (line_at (suc h) (suc h) root' ++ []) ≡ line_of (root_of h parts)
  unfolding root_of line_of top_height
  root-splits g =
      let q = place_in d h x es in
      let v = parts_whole g in
      goes_on d h (suc h) [] root' [] root-whole (le_refl (suc h)) tt q root-inside 1 g
      ∙ ap (cascade d 1 (suc (suc h)) p)
      (split-top d h (suc h) [] root' [] root-whole (le_refl (suc h)) tt q root-inside g (top-here (suc h) (suc h) root' [] [] root-whole)
      ∙ set_first (suc (suc h)) (suc (suc h)) (suc h) parts [] v)
      ∙ stays d (suc h) (suc (suc h)) [] parts [] v (le_refl (suc (suc h))) tt q parts-inside 0 (omega (arith, (split-length d h root').1))
      ∙ append-nil (line_at (suc (suc h)) (suc (suc h)) parts)
      ∙ ap (line_at (suc (suc h)) (suc (suc h))) (split-nine d h root' g)
      ∙ ap (λ (gs : List (List (Entry h))). line_of (root_of h gs)) (sym (split-nine d h root' g))

  pub cascade-root : cascade d (suc (suc h)) 1 (place_in d h x es) (line_at (suc h) (suc h) (place_node d h x es))
      ≡ line_of (root_of h (split d h root'))
  unfolding top_height
  cascade-root =
      ap (λ (n : ℕ). cascade d n 1 (place_in d h x es) (line_at (suc h) (suc h) (place_node d h x es))) (sym (climb-is h 1 ∙ (omega arith)))
      ∙ ap₂ (cascade d (climb h 1) 1) (sym (zero-add (place_in d h x es))) (sym (append-nil (line_at (suc h) (suc h) (place_node d h x es))))
      ∙ climbs d x h es 1 (suc h) [] [] full (le_refl (suc h)) (le_refl (suc h)) tt
      ∙ by_cases (ltb 8 (length root')) (λ b. root-splits (ltb-true 8 (length root') b)) (λ b. root-stays (ltb-false 8 (length root') b))
