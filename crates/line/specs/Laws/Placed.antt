-- The new move in its row: the flat form finds the gap of the whole descent, and puts it where the nest does.
use Rattle.std.specs.Prelude.{ℕ, suc, ◌+◌, ◌-◌, ◌≤◌, ◌<◌, ◌≡◌, eqb, length}
use Rattle.std.proofs.Math.Bool.{Bool, true, false, cond}
use Rattle.std.proofs.Math.Path.{refl, sym, ap, ap₂}
use Rattle.std.proofs.Common.{◌∙◌, arith, ne_eqb, eq-eqb}
use mathlib.Core.List.{List, ◌∷◌, ◌++◌}
use Rattle.std.proofs.Math.Dec.{ltb}
use Rattle.zorder.specs.Between.{side_of}
use Rattle.model.specs.Moves.{Move}
use Rattle.model.proofs.Laws.Bool.{cond_map}
use Rattle.line.specs.Line.{Placed, heights_in}
use Rattle.line.specs.Places.{move_at, height_at, node_start, node_end, set_height, insert_at}
use Rattle.line.specs.Enter.{later_in_gap, takes_over, placed}
use Rattle.line.specs.Laws.Line.{row, Low}
use Rattle.line.specs.Laws.Places.{FirstAtLeast, starts-lower, height-left, height-right, move-left, move-right, insert-left, insert-right, set-left, set-right, length-set_height, low-at, start-le, start_left, start_right, end-le, end-past, end-left, end-right}

-- ---- within a node that holds the place and does not start there

module _ (d : ℕ) (x : Move) (l : ℕ) (us : List Placed) (r : Placed) (rs vs : List Placed) (low : Low l rs) (t : l ≤ r.height) (s : FirstAtLeast l vs)
    (q : ℕ) (m : q < length rs) where
  abbrev part : List Placed
  part = r ∷ rs

  abbrev all : List Placed
  all = us ++ (part ++ vs)

  abbrev at : ℕ
  at = length us + suc q

  same-height : height_at all at ≡ height_at part (suc q)
  same-height = height-right us (part ++ vs) (suc q) ∙ height-left part vs (suc q) (omega arith)

  height-low : height_at part (suc q) < l
  unfolding height_at
  height-low = low-at l rs q low m

  same-move : (i : ℕ) → i < length part → move_at all (length us + i) ≡ move_at part i
  same-move i h = move-right us (part ++ vs) i ∙ move-left part vs i h

  module _ (k : ℕ) (lt : k < l) where
    same-last : move_at all (node_end k at all - 1) ≡ move_at part (node_end k (suc q) part - 1)
    same-last =
        let e = end-right k us (part ++ vs) (suc q) ∙ ap (λ (n : ℕ). length us + n) (end-left k part vs (suc q) (starts-lower k l vs (omega arith) s) (omega arith)) in
        let p = end-past k (suc q) (heights_in part) in
        ap (move_at all) (omega (arith, e, p)) ∙ same-move (node_end k (suc q) part - 1) (omega (arith, p, end-le k (suc q) part (omega arith)))

    same_first : move_at all (node_start k (at - 1) all) ≡ move_at part (node_start k (suc q - 1) part)
    same_first =
        ap (λ (i : ℕ). move_at all (node_start k i all)) (omega arith)
        ∙ ap (move_at all) (start_right k us r (rs ++ vs) q (omega arith) ∙ ap (λ (n : ℕ). length us + n) (start_left k part vs q (omega arith)))
        ∙ same-move (node_start k q part) (omega (arith, start-le k q (heights_in part)))
        ∙ ap (λ (i : ℕ). move_at part (node_start k i part)) (omega arith)

  same_gap : later_in_gap d x at all ≡ later_in_gap d x (suc q) part
  unfolding later_in_gap
  same_gap =
      let k = height_at part (suc q) in
      ap (λ (j : ℕ). later (move_at all (node_start j (at - 1) all)) (move_at all (node_end j at all - 1))) same-height
      ∙ ap₂ later (same_first k height-low) (same-last k height-low)
    where
      later : Move → Move → Bool
      later e f = ltb (side_of d x.costs f.costs) (side_of d e.costs x.costs)

  same_takes : takes_over d x at all ≡ takes_over d x (suc q) part
  unfolding takes_over
  same_takes =
      ap (λ (b : Bool). cond b true (cond (eqb (height_at all at) 0) false (later_in_gap d x at all)))
      (ne_eqb at 0 (λ e. omega arith) ∙ sym (ne_eqb (suc q) 0 (λ e. omega arith)))
      ∙ ap₂ (λ (n : ℕ) (b : Bool). cond (eqb (suc q) 0) true (cond (eqb n 0) false b)) same-height same_gap

  same_set : set_height at 0 all ≡ us ++ (set_height (suc q) 0 part ++ vs)
  same_set = set-right us (part ++ vs) (suc q) 0 ∙ ap (λ (zs : List Placed). us ++ zs) (set-left part vs (suc q) 0 (omega arith))

  same-insert : (ps : List Placed) (p : Placed) → length ps ≡ length part → insert_at at p (us ++ (ps ++ vs)) ≡ us ++ (insert_at (suc q) p ps ++ vs)
  same-insert ps p e = insert-right us (ps ++ vs) (suc q) p ∙ ap (λ (zs : List Placed). us ++ zs) (insert-left ps vs (suc q) p (omega arith))

  pub placed-within : placed d x at all ≡ us ++ (placed d x (suc q) part ++ vs)
  unfolding placed
  placed-within =
      let k = height_at part (suc q) in
      ap₂ (λ (b : Bool) (n : ℕ). cond b (insert_at at (row x n) (set_height at 0 all)) (insert_at at (row x 0) all)) same_takes same-height
      ∙ ap₂ (λ (us' vs' : List Placed). cond (takes_over d x (suc q) part) us' vs')
      (ap (insert_at at (row x k)) same_set ∙ same-insert (set_height (suc q) 0 part) (row x k) (length-set_height (suc q) 0 part))
      (same-insert part (row x 0) refl)
      ∙ sym (cond_map (λ (zs : List Placed). us ++ (zs ++ vs)) (takes_over d x (suc q) part)
      (insert_at (suc q) (row x k) (set_height (suc q) 0 part)) (insert_at (suc q) (row x 0) part))

-- ---- by the height of the row at the place

module _ (d : ℕ) (x : Move) (rs : List Placed) where
  pub placed_first : placed d x 0 rs ≡ insert_at 0 (row x (height_at rs 0)) (set_height 0 0 rs)
  unfolding placed takes_over
  placed_first = refl

  module _ (p : ℕ) (g : 0 < p) where
    takes-past : takes_over d x p rs ≡ cond (eqb (height_at rs p) 0) false (later_in_gap d x p rs)
    unfolding takes_over
    takes-past = ap (λ (b : Bool). cond b true (cond (eqb (height_at rs p) 0) false (later_in_gap d x p rs))) (ne_eqb p 0 (λ e. omega arith))

    pub placed-low : height_at rs p ≡ 0 → placed d x p rs ≡ insert_at p (row x 0) rs
    unfolding placed
    placed-low e =
        ap (λ (b : Bool). cond b (insert_at p (row x (height_at rs p)) (set_height p 0 rs)) (insert_at p (row x 0) rs))
        (takes-past ∙ ap (λ (b : Bool). cond b false (later_in_gap d x p rs)) (eq-eqb (height_at rs p) 0 e))

    pub placed-gap : (h : ℕ) (b : Bool) → height_at rs p ≡ suc h → later_in_gap d x p rs ≡ b
        → placed d x p rs ≡ cond b (insert_at p (row x (suc h)) (set_height p 0 rs)) (insert_at p (row x 0) rs)
    unfolding placed
    placed-gap h b e f =
        ap₂ (λ (c : Bool) (n : ℕ). cond c (insert_at p (row x n) (set_height p 0 rs)) (insert_at p (row x 0) rs))
        (takes-past ∙ ap₂ (λ (c c' : Bool). cond c false c') (ne_eqb (height_at rs p) 0 (λ o. omega (arith, e, o))) f) e
