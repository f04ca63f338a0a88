-- A node of nine splits on the line as in the nest: one height is set.
use Prim.Native.Nat.{ℕ, suc, ◌+◌, ◌-◌, ◌≤◌, ◌<◌}
use Rattle.std.specs.Prelude.{Bool, ◌≡◌, refl, ltb, take}
use Rattle.std.proofs.Math.Bool.{cond}
use Rattle.std.proofs.Common.{sym, ◌∙◌, subst, arith, lt-ltb, le-ltb, length-append, length-drop, take-append-drop}
use Rattle.std.proofs.Math.Path.{ap, ap₂, subst₂}
use mathlib.Core.List.{List, [], ◌∷◌, ◌++◌, append_assoc}
use Rattle.std.proofs.Math.ListN.{length, drop, length-take}
use Rattle.zorder.specs.Between.{side_of}
use Rattle.model.specs.Basics.{Each}
use Rattle.model.specs.Moves.{Move}
use Rattle.model.specs.Tree.{Entry, first_move, last_move, node_side}
use Rattle.model.specs.Entering.{sides_at, least_by, left_part, split}
use Rattle.model.proofs.Laws.Bool.{cond_cases}
use Rattle.model.proofs.Laws.Basics.{each_left, each_right}
use Rattle.model.proofs.Laws.Entering.{left_part-range}
use Rattle.line.specs.Line.{Placed, line_at}
use Rattle.line.specs.Places.{move_at, entry_at, side_at, set_height}
use Rattle.line.specs.Enter.{cut_sides, cut_entry}
use Rattle.line.specs.Laws.Line.{row, Whole, rest_at, line-cons}
use Rattle.line.specs.Laws.Places.{FirstAtLeast, set-seam}
use Rattle.line.specs.Laws.Entries.{line-seam, line-one, line-more, first-at, last-at, entry-at}

-- ---- the lesser sum

pub same-least : (f g : ℕ → ℕ) (k : ℕ) (js : List ℕ) → f k ≡ g k → Each (λ j. f j ≡ g j) js → least_by f k js ≡ least_by g k js
unfolding least_by
same-least f g k [] e es = refl
same-least f g k (j ∷ js) e es =
    ap₂ (λ (a b : ℕ). least_by f (cond (ltb a b) j k) js) es.0 e
    ∙ same-least f g (cond (ltb (g j) (g k)) j k) js (cond_cases (λ i. f i ≡ g i) (ltb (g j) (g k)) (λ t. es.0) (λ t. e)) es.1

-- ---- a node in two parts, between the rows before and after it

module _ (h k : ℕ) (xs : List Placed) (es fs : List (Entry h)) (ys : List Placed) (we : Whole (suc h) es) (wf : Whole (suc h) fs) where
  parts-line : xs ++ (line_at (suc h) k (es ++ fs) ++ ys) ≡ xs ++ (line_at (suc h) k es ++ (line_at (suc h) h fs ++ ys))
  parts-line =
      ap (λ (rs : List Placed). xs ++ (rs ++ ys)) (line-seam h k es fs we.0)
      ∙ ap (λ (rs : List Placed). xs ++ rs) (append_assoc (line_at (suc h) k es) (line_at (suc h) h fs) ys)

  seam-line : xs ++ (line_at (suc h) k (es ++ fs) ++ ys) ≡ (xs ++ line_at (suc h) k es) ++ (line_at (suc h) h fs ++ ys)
  seam-line = parts-line ∙ sym (append_assoc xs (line_at (suc h) k es) (line_at (suc h) h fs ++ ys))

  parts-length : length (line_at (suc h) k (es ++ fs)) ≡ length (line_at (suc h) k es) + length (line_at (suc h) h fs)
  parts-length = ap length (line-seam h k es fs we.0) ∙ length-append (line_at (suc h) k es) (line_at (suc h) h fs)

  seam-length : length xs + length (line_at (suc h) k es) ≡ length (xs ++ line_at (suc h) k es)
  seam-length = sym (length-append xs (line_at (suc h) k es))

  -- The row at the seam is raised.
  raised-line : set_height (length xs + length (line_at (suc h) k es)) (suc h) (xs ++ (line_at (suc h) k (es ++ fs) ++ ys))
      ≡ xs ++ (line_at (suc (suc h)) k (es ∷ fs ∷ []) ++ ys)
  raised-line =
      let u = line_at (suc h) k es in
      ap₂ (λ (i : ℕ) (rs : List Placed). set_height i (suc h) rs) seam-length
      (seam-line ∙ ap (λ (rs : List Placed). (xs ++ u) ++ (rs ++ ys)) (line-cons (suc h) h fs wf))
      ∙ set-seam (xs ++ u) (rest_at (suc h) fs ++ ys) (row (first_move (suc h) fs) h) (suc h)
      ∙ ap (λ (rs : List Placed). (xs ++ u) ++ (rs ++ ys)) (sym (line-cons (suc h) (suc h) fs wf))
      ∙ append_assoc xs u (line_at (suc h) (suc h) fs ++ ys)
      ∙ ap (λ (rs : List Placed). xs ++ rs) (sym (append_assoc u (line_at (suc h) (suc h) fs) ys))
      ∙ ap (λ (rs : List Placed). xs ++ (rs ++ ys))
      (ap (λ (rs : List Placed). u ++ rs) (sym (line-one (suc h) (suc h) fs)) ∙ sym (line-more (suc h) k es (fs ∷ [])))

  first-left : move_at (xs ++ (line_at (suc h) k (es ++ fs) ++ ys)) (length xs) ≡ first_move (suc h) es
  first-left = ap (λ (rs : List Placed). move_at rs (length xs)) parts-line ∙ first-at (suc h) k es we xs (line_at (suc h) h fs ++ ys)

  last-left : move_at (xs ++ (line_at (suc h) k (es ++ fs) ++ ys)) (length xs + length (line_at (suc h) k es) - 1) ≡ last_move (suc h) es
  last-left =
      ap (λ (rs : List Placed). move_at rs (length xs + length (line_at (suc h) k es) - 1)) parts-line
      ∙ last-at (suc h) k es we xs (line_at (suc h) h fs ++ ys)

  first-right : move_at (xs ++ (line_at (suc h) k (es ++ fs) ++ ys)) (length xs + length (line_at (suc h) k es)) ≡ first_move (suc h) fs
  first-right = ap₂ move_at seam-line seam-length ∙ first-at (suc h) h fs wf (xs ++ line_at (suc h) k es) ys

  last-right : move_at (xs ++ (line_at (suc h) k (es ++ fs) ++ ys)) (length xs + length (line_at (suc h) k (es ++ fs)) - 1) ≡ last_move (suc h) fs
  last-right =
      ap₂ move_at seam-line (omega (arith, parts-length, seam-length)) ∙ last-at (suc h) h fs wf (xs ++ line_at (suc h) k es) ys

  module _ (d : ℕ) (s : FirstAtLeast h ys) where
    abbrev whole : List Placed
    whole = xs ++ (line_at (suc h) k (es ++ fs) ++ ys)

    seam-entry : entry_at (suc h - 1) (length xs) (length es) whole ≡ length xs + length (line_at (suc h) k es)
    seam-entry =
        ap (λ (l : ℕ). entry_at l (length xs) (length es) whole) (omega arith) ∙ entry-at h xs k es fs ys we.1 wf.1 s

    cut-sides : cut_sides d (suc h) (length xs) (length xs + length (line_at (suc h) k (es ++ fs))) whole (length es) ≡ node_side d h es + node_side d h fs
    unfolding cut_sides side_at node_side
    cut-sides =
        let rs = whole in
        let i = length xs in
        let j = length xs + length (line_at (suc h) k (es ++ fs)) in
        ap (λ (q : ℕ). sides (move_at rs i) (move_at rs (q - 1)) (move_at rs q) (move_at rs (j - 1))) seam-entry
        ∙ ap₂ (λ (a b : Move). sides a b (move_at rs (i + length (line_at (suc h) k es))) (move_at rs (j - 1))) first-left last-left
        ∙ ap₂ (λ (a b : Move). sides (first_move (suc h) es) (last_move (suc h) es) a b) first-right last-right
      where
        sides : Move → Move → Move → Move → ℕ
        sides a b u v = side_of d a.costs b.costs + side_of d u.costs v.costs

-- ---- the node split

module _ (d h : ℕ) (es : List (Entry h)) where
  pub split-nine : 8 < length es → split d h es ≡ take (left_part d h es) es ∷ drop (left_part d h es) es ∷ []
  unfolding split
  split-nine g =
      ap (λ (b : Bool). cond b (take (left_part d h es) es ∷ drop (left_part d h es) es ∷ []) (es ∷ [])) (lt-ltb 8 (length es) g)

  pub split-few : length es ≤ 8 → split d h es ≡ es ∷ []
  unfolding split
  split-few g =
      ap (λ (b : Bool). cond b (take (left_part d h es) es ∷ drop (left_part d h es) es ∷ []) (es ∷ [])) (le-ltb 8 (length es) g)

module _ (d h k : ℕ) (xs : List Placed) (es : List (Entry h)) (ys : List Placed) (w : Each (Whole h) es) (s : FirstAtLeast h ys) where
  abbrev at_node : List Placed
  at_node = xs ++ (line_at (suc h) k es ++ ys)

  whole_parts : (j : ℕ) → 0 < j → j < length es → Whole (suc h) (take j es) × Whole (suc h) (drop j es)
  whole_parts j g l =
      let v = subst (Each (Whole h)) (sym (take-append-drop j es)) w in (
        (omega (arith, length-take j es), each_left (Whole h) (take j es) (drop j es) v),
        (omega (arith, length-drop j es), each_right (Whole h) (take j es) (drop j es) v),
      )

  sides-agree : (j : ℕ) → 0 < j → j < length es
      → cut_sides d (suc h) (length xs) (length xs + length (line_at (suc h) k es)) at_node j ≡ sides_at d h es j
  unfolding sides_at
  sides-agree j g l =
      let v = whole_parts j g l in
      subst₂ (λ (gs : List (Entry h)) (i : ℕ). cut_sides d (suc h) (length xs) (length xs + length (line_at (suc h) k gs)) (xs ++ (line_at (suc h) k gs ++ ys)) i
      ≡ node_side d h (take j es) + node_side d h (drop j es))
      (take-append-drop j es) (omega (arith, length-take j es))
      (cut-sides h k xs (take j es) (drop j es) ys v.0 v.1 d s)

  cut-agrees : 6 < length es → cut_entry d (suc h) (length xs) (length xs + length (line_at (suc h) k es)) at_node ≡ left_part d h es
  unfolding cut_entry left_part
  cut-agrees g =
      let f = cut_sides d (suc h) (length xs) (length xs + length (line_at (suc h) k es)) at_node in
      same-least f (sides_at d h es) 3 (4 ∷ 5 ∷ 6 ∷ [])
      (sides-agree 3 (omega arith) (omega arith))
      (sides-agree 4 (omega arith) (omega arith), (sides-agree 5 (omega arith) (omega arith), (sides-agree 6 (omega arith) (omega arith), tt)))

  cut_line : (j : ℕ) → 0 < j → j < length es
      → set_height (entry_at (suc h - 1) (length xs) j at_node) (suc h) at_node ≡ xs ++ (line_at (suc (suc h)) k (take j es ∷ drop j es ∷ []) ++ ys)
  cut_line j g l =
      let v = whole_parts j g l in
      subst₂ (λ (gs : List (Entry h)) (i : ℕ). let rs = xs ++ (line_at (suc h) k gs ++ ys) in
      set_height (entry_at (suc h - 1) (length xs) i rs) (suc h) rs ≡ xs ++ (line_at (suc (suc h)) k (take j es ∷ drop j es ∷ []) ++ ys))
      (take-append-drop j es) (omega (arith, length-take j es))
      (ap (λ (i : ℕ). set_height i (suc h) (xs ++ (line_at (suc h) k (take j es ++ drop j es) ++ ys)))
      (seam-entry h k xs (take j es) (drop j es) ys v.0 v.1 d s)
      ∙ raised-line h k xs (take j es) (drop j es) ys v.0 v.1)

  -- One height is set where the right part starts.
  pub split-line : 8 < length es
      → set_height (entry_at (suc h - 1) (length xs) (cut_entry d (suc h) (length xs) (length xs + length (line_at (suc h) k es)) at_node) at_node) (suc h) at_node
      ≡ xs ++ (line_at (suc (suc h)) k (split d h es) ++ ys)
  split-line g =
      let r = left_part-range d h es in
      ap (λ (j : ℕ). set_height (entry_at (suc h - 1) (length xs) j at_node) (suc h) at_node) (cut-agrees (omega arith))
      ∙ cut_line (left_part d h es) (omega (arith, r.0)) (omega (arith, r.1))
      ∙ ap (λ (gs : List (List (Entry h))). xs ++ (line_at (suc (suc h)) k gs ++ ys)) (sym (split-nine d h es g))
