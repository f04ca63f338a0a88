-- A node's line by its entries: where each starts and ends, how many there are, the first and last move of each.
use Prim.Native.Nat.{ℕ, zero, suc, ◌+◌, ◌-◌, ◌≤◌, ◌<◌}
use Rattle.std.specs.Prelude.{Bool, cond, ◌≡◌}
use Rattle.std.proofs.Math.Path.{refl, sym, ap, ap₂, subst}
use Rattle.std.proofs.Common.{◌∙◌, add-zero, le_refl, arith, le-leb}
use mathlib.Core.List.{List, [], ◌∷◌, ◌++◌, append_assoc, append-nil, flat_map}
use Rattle.std.proofs.Math.Nat.{suc_inj}
use Rattle.std.proofs.Math.ListN.{length, length-append}
use Rattle.std.proofs.lemmas.List.{length-map}
use Rattle.model.specs.Basics.{Each, select, count, last_or}
use Rattle.model.specs.Moves.{Move, no_move}
use Rattle.model.specs.Tree.{Entry, moves_under, first_move, last_move}
use Rattle.model.proofs.Laws.Basics.{each_append, count-append, count-cons}
use Rattle.model.proofs.Laws.Tree.{flat_map-append}
use Rattle.line.specs.Line.{Placed, line_at, moves_in, heights_in}
use Rattle.line.specs.Places.{move_at, height_at, node_start, node_end, entry_among, entry_at, set_height}
use Rattle.line.specs.Laws.Line.{row, Whole, rest_at, rest-low, line-cons, line-moves}
use Rattle.line.specs.Laws.Places.{FirstAtLeast, at_least, move-left, move-right, set-seam, node-start, node-end, count_low, entry_next}

-- ---- entries one after another

-- The height of the first row of what follows some entries of a node whose first row has height k.
abbrev pub following : {A : Type 0} → ℕ → ℕ → List A → ℕ
following k h [] = k
following k h (e ∷ es) = h

pub following-more : {A : Type 0} (k h : ℕ) (es : List A) → 0 < length es → following k h es ≡ h
following-more k h [] g = absurd (omega arith)
following-more k h (e ∷ es) g = refl

pub following-least : {A : Type 0} (l k h : ℕ) (es : List A) → l ≤ k → l ≤ h → l ≤ following k h es
following-least l k h [] i j = i
following-least l k h (e ∷ es) i j = j

module _ (h : ℕ) where
  pub line-flat : (es : List (Entry h)) → line_at (suc h) h es ≡ flat_map (line_at h h) es
  unfolding line_at flat_map
  line-flat [] = refl
  line-flat (e ∷ es) = refl

  pub line-append : (k : ℕ) (es fs : List (Entry h)) → line_at (suc h) k (es ++ fs) ≡ line_at (suc h) k es ++ line_at (suc h) (following k h es) fs
  unfolding line_at
  line-append k [] fs = refl
  line-append k (e ∷ es) fs =
      ap (λ (rs : List Placed). line_at h k e ++ rs) (flat_map-append (line_at h h) es fs)
      ∙ sym (append_assoc (line_at h k e) (flat_map (line_at h h) es) (flat_map (line_at h h) fs))
      ∙ ap (λ (rs : List Placed). line_at h k e ++ flat_map (line_at h h) es ++ rs) (sym (line-flat fs))

  pub line-seam : (k : ℕ) (es fs : List (Entry h)) → 0 < length es → line_at (suc h) k (es ++ fs) ≡ line_at (suc h) k es ++ line_at (suc h) h fs
  line-seam k es fs g =
      line-append k es fs ∙ ap (λ (j : ℕ). line_at (suc h) k es ++ line_at (suc h) j fs) (following-more k h es g)

  -- Some entries between others.
  pub line-middle : (k : ℕ) (us es vs : List (Entry h)) → 0 < length es
      → line_at (suc h) k (us ++ (es ++ vs)) ≡ line_at (suc h) k us ++ (line_at (suc h) (following k h us) es ++ line_at (suc h) h vs)
  line-middle k us es vs g =
      line-append k us (es ++ vs) ∙ ap (λ (rs : List Placed). line_at (suc h) k us ++ rs) (line-seam (following k h us) es vs g)

  pub line-one : (k : ℕ) (e : Entry h) → line_at (suc h) k (e ∷ []) ≡ line_at h k e
  unfolding line_at flat_map
  line-one k e = append-nil (line_at h k e)

  pub line-more : (k : ℕ) (e : Entry h) (es : List (Entry h)) → line_at (suc h) k (e ∷ es) ≡ line_at h k e ++ line_at (suc h) h es
  unfolding line_at
  line-more k e es = ap (λ (rs : List Placed). line_at h k e ++ rs) (sym (line-flat es))

-- What stands within a part, behind xs and before ys.
pub regroup : {A : Type 0} (xs us ms vs ys : List A) → xs ++ ((us ++ (ms ++ vs)) ++ ys) ≡ (xs ++ us) ++ (ms ++ (vs ++ ys))
regroup {A} xs us ms vs ys =
    ap (λ (zs : List A). xs ++ zs) (append_assoc us (ms ++ vs) ys ∙ ap (λ (zs : List A). us ++ zs) (append_assoc ms vs ys))
    ∙ sym (append_assoc xs us (ms ++ (vs ++ ys)))

-- ---- one entry

pub line-pos : (l k : ℕ) (c : Entry l) → Whole l c → 0 < length (line_at l k c)
line-pos l k c w = subst (λ (rs : List Placed). 0 < length rs) (sym (line-cons l k c w)) (omega arith)

pub line-size : (h k : ℕ) (e : Entry h) → length (line_at h k e) ≡ length (moves_under h e)
unfolding moves_in
line-size h k e = sym (length-map (line_at h k e) (λ r. r.move)) ∙ ap length (line-moves h k e)

pub line-starts : (h k l : ℕ) (c : Entry h) (ys : List Placed) → Whole h c → l ≤ k → FirstAtLeast l (line_at h k c ++ ys)
line-starts h k l c ys w t = subst (λ (rs : List Placed). FirstAtLeast l (rs ++ ys)) (sym (line-cons h k c w)) t

pub set_first : (l j k : ℕ) (c : Entry l) (ys : List Placed) → Whole l c → set_height 0 j (line_at l k c ++ ys) ≡ line_at l j c ++ ys
set_first l j k c ys w =
    ap (λ (rs : List Placed). set_height 0 j (rs ++ ys)) (line-cons l k c w)
    ∙ set-seam [] (rest_at l c ++ ys) (row (first_move l c) k) j
    ∙ ap (λ (rs : List Placed). rs ++ ys) (sym (line-cons l j c w))

pub height-first : (l k : ℕ) (c : Entry l) (ys : List Placed) → Whole l c → height_at (line_at l k c ++ ys) 0 ≡ k
unfolding height_at
height-first l k c ys w = ap (λ (rs : List Placed). height_at (rs ++ ys) 0) (line-cons l k c w)

last_row : (z : Move) (rs : List Placed) (n : ℕ) → length rs ≡ suc n → move_at rs n ≡ last_or z (moves_in rs)
unfolding move_at moves_in last_or
last_row z [] n e = absurd (omega arith)
last_row z (r ∷ []) zero e = refl
last_row z (r ∷ []) (suc n) e = absurd (omega arith)
last_row z (r ∷ s ∷ rs) zero e = absurd (omega arith)
last_row z (r ∷ s ∷ rs) (suc n) e = last_row r.move (s ∷ rs) n (suc_inj e)

-- An entry between the rows before and after it.
module _ (l k : ℕ) (c : Entry l) (w : Whole l c) (xs ys : List Placed) where
  pub node-start-at : (q : ℕ) → q < length (line_at l k c) → l ≤ k → node_start l (length xs + q) (xs ++ (line_at l k c ++ ys)) ≡ length xs
  node-start-at =
      subst (λ (rs : List Placed). (q : ℕ) → q < length rs → l ≤ k → node_start l (length xs + q) (xs ++ (rs ++ ys)) ≡ length xs)
      (sym (line-cons l k c w))
      (λ q h t. node-start l xs (row (first_move l c) k) (rest_at l c) ys q (rest-low l c) (omega arith) t)

  pub node-end-at : (q : ℕ) → q < length (line_at l k c) → FirstAtLeast l ys
      → node_end l (length xs + q) (xs ++ (line_at l k c ++ ys)) ≡ length xs + length (line_at l k c)
  node-end-at =
      subst (λ (rs : List Placed). (q : ℕ) → q < length rs → FirstAtLeast l ys → node_end l (length xs + q) (xs ++ (rs ++ ys)) ≡ length xs + length rs)
      (sym (line-cons l k c w))
      (λ q h s. node-end l xs (row (first_move l c) k) (rest_at l c) ys q (rest-low l c) (omega arith) s)

  pub first-at : move_at (xs ++ (line_at l k c ++ ys)) (length xs) ≡ first_move l c
  unfolding move_at
  first-at =
      ap (move_at (xs ++ (line_at l k c ++ ys))) (sym (add-zero (length xs)))
      ∙ move-right xs (line_at l k c ++ ys) 0
      ∙ ap (λ (rs : List Placed). move_at (rs ++ ys) 0) (line-cons l k c w)

  pub last-at : move_at (xs ++ (line_at l k c ++ ys)) (length xs + length (line_at l k c) - 1) ≡ last_move l c
  unfolding last_move
  last-at =
      let u = line_at l k c in
      let n = length u - 1 in
      let e : length u ≡ suc n = omega (arith, line-pos l k c w) in
      ap (move_at (xs ++ (u ++ ys))) (omega arith)
      ∙ move-right xs (u ++ ys) n
      ∙ move-left u ys n (omega arith)
      ∙ last_row no_move u n e
      ∙ ap (last_or no_move) (line-moves l k c)

-- ---- the entries of a node

module _ (h : ℕ) where
  pub lines_start : (k l : ℕ) (es : List (Entry h)) (ys : List Placed) → Each (Whole h) es → l ≤ k → FirstAtLeast l ys → FirstAtLeast l (line_at (suc h) k es ++ ys)
  unfolding line_at
  lines_start k l [] ys w t s = s
  lines_start k l (e ∷ es) ys w t s =
      subst (FirstAtLeast l) (sym (append_assoc (line_at h k e) (flat_map (line_at h h) es) ys))
      (line-starts h k l e (flat_map (line_at h h) es ++ ys) w.0 t)

  count-entry : (k : ℕ) (e : Entry h) → Whole h e → h ≤ k → count (at_least h) (line_at h k e) ≡ 1
  count-entry k e w t =
      ap (count (at_least h)) (line-cons h k e w)
      ∙ count-cons (at_least h) (row (first_move h e) k) (rest_at h e)
      ∙ ap₂ (λ (b : Bool) (n : ℕ). cond b (suc n) n) (le-leb h k t) (count_low h (rest_at h e) (rest-low h e))

  pub count_entries : (k : ℕ) (es : List (Entry h)) → Each (Whole h) es → h ≤ k → count (at_least h) (line_at (suc h) k es) ≡ length es
  unfolding line_at count select
  count_entries k [] w t = refl
  count_entries k (e ∷ es) w t =
      ap (count (at_least h)) (line-more h k e es)
      ∙ count-append (at_least h) (line_at h k e) (line_at (suc h) h es)
      ∙ ap₂ ◌+◌ (count-entry k e w.0 t) (count_entries h es w.1 (le_refl h))
      ∙ (omega arith)

  pub entry-at : (xs : List Placed) (k : ℕ) (es fs : List (Entry h)) (ys : List Placed) → Each (Whole h) es → Each (Whole h) fs → FirstAtLeast h ys
      → entry_at h (length xs) (length es) (xs ++ (line_at (suc h) k (es ++ fs) ++ ys)) ≡ length xs + length (line_at (suc h) k es)
  unfolding entry_among line_at
  entry-at xs k [] fs ys w v s = sym (add-zero (length xs))
  entry-at xs k (e ∷ es) fs ys w v s =
      let u = line_at h k e in
      let rest = line_at (suc h) h (es ++ fs) ++ ys in
      let shape = ap (λ (rs : List Placed). rs ++ ys) (line-more h k e (es ++ fs)) ∙ append_assoc u (line_at (suc h) h (es ++ fs)) ys in
      let next = lines_start h h (es ++ fs) ys (each_append (Whole h) es fs w.1 v) (le_refl h) s in
      ap (λ (rs : List Placed). entry_at h (length xs) (suc (length es)) (xs ++ rs)) shape
      ∙ entry_next h (length xs) (length es) (heights_in (xs ++ (u ++ rest)))
      ∙ ap (λ (i : ℕ). entry_at h i (length es) (xs ++ (u ++ rest)))
      (ap (λ (i : ℕ). node_end h i (xs ++ (u ++ rest))) (sym (add-zero (length xs)))
      ∙ node-end-at h k e w.0 xs rest 0 (line-pos h k e w.0) next
      ∙ sym (length-append xs u))
      ∙ ap (entry_at h (length (xs ++ u)) (length es)) (sym (append_assoc xs u rest))
      ∙ entry-at (xs ++ u) h es fs ys w.1 v s
      ∙ (omega (arith, length-append xs u, ap length (line-more h k e es), length-append u (line_at (suc h) h es)))
