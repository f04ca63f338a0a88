-- The tests of the heights, place by place.
use Prim.Native.Nat.{ℕ, zero, suc, ◌+◌, ◌-◌, ◌≤◌, ◌<◌}
use Rattle.std.specs.Prelude.{Bool, ◌&&◌, ◌≡◌, leb, drop}
use Rattle.std.proofs.Math.Bool.{true, false, cond}
use mathlib.Core.List.{List, [], ◌∷◌}
use Rattle.std.proofs.Math.Path.{refl, ap}
use Rattle.std.proofs.Common.{sym, ap₂, ◌∙◌, add-one, drop-cons, le-leb, lt-ltb, le-ltb}
use native.Mathlib.Omega.{arith}
use Rattle.std.proofs.Math.Dec.{ltb}
use Rattle.std.proofs.Math.Seq.{drop-length}
use Rattle.std.proofs.lemmas.Bool.{lt-leb}
use Rattle.model.specs.Basics.{within}
use Rattle.model.proofs.Laws.Bool.{and_both, and-false-right}
use Rattle.line.specs.Heights.{first_highest, counts_from, counts_at, root_count, levels_right, heights_right}
use Rattle.promises.specs.Layout.{height_in, tab, heights_from}
use Rattle.memory.specs.Tests.{all_to}
use Rattle.promises.proofs.Laws.Tab.{tab-cons}
use Rattle.memory.specs.Laws.Lines.{length-heights_from, get_or-heights_from}
use Rattle.memory.specs.Laws.Places.{all_to-fails, all_to-next, all-tab}

-- The place after i is lower than the first.
abbrev pub lower_next : ℕ → List ℕ → ℕ → Bool
lower_next c m i = ltb (height_in c m (suc i)) (height_in c m 0)

pub lower-next : (c : ℕ) (m : List ℕ) (i : ℕ) → 0 < i → all_to (lower_next c m) (i - 1) ≡ true → height_in c m i < height_in c m 0 → all_to (lower_next c m) (i + 1 - 1) ≡ true
lower-next c m i l h g =
    let e : suc (i - 1) ≡ i = omega arith in
    all_to-next (lower_next c m) i l h
    (ap (λ (j : ℕ). ltb (height_in c m j) (height_in c m 0)) e ∙ lt-ltb (height_in c m i) (height_in c m 0) g)

-- ---- the line by places

module _ (c : ℕ) (m : List ℕ) where
  line_first : (n : ℕ) → heights_from c (suc n) m ≡ height_in c m 0 ∷ tab (λ i. height_in c m (suc i)) n
  unfolding heights_from
  line_first n = tab-cons (height_in c m) n

  drop-line : (n i : ℕ) → i < n → drop i (heights_from c n m) ≡ height_in c m i ∷ drop (i + 1) (heights_from c n m)
  drop-line n i l =
      drop-cons (heights_from c n m) i 0 (omega (arith, length-heights_from c n m))
      ∙ ap₂ (λ (k j : ℕ). k ∷ drop j (heights_from c n m)) (get_or-heights_from c n m i l) (sym (add-one i))

  drop_all : (n : ℕ) → drop n (heights_from c n m) ≡ []
  drop_all n = ap (λ (k : ℕ). drop k (heights_from c n m)) (sym (length-heights_from c n m)) ∙ drop-length (heights_from c n m)

  -- ---- the first is the highest

  highest-places : (n : ℕ) → 0 < n → first_highest (heights_from c n m) ≡ (ltb 0 (height_in c m 0) && all_to (lower_next c m) (n - 1))
  unfolding first_highest
  highest-places zero l = absurd (omega arith)
  highest-places (suc n) l =
      let e : suc n - 1 ≡ n = omega arith in
      ap first_highest (line_first n)
      ∙ ap (λ (b : Bool). ltb 0 (height_in c m 0) && b) (all-tab (λ i. height_in c m (suc i)) (λ r. ltb r (height_in c m 0)) n)
      ∙ ap (λ (k : ℕ). ltb 0 (height_in c m 0) && all_to (lower_next c m) k) (sym e)

  pub highest-none : (n : ℕ) → n ≡ 0 → first_highest (heights_from c n m) ≡ true
  unfolding first_highest heights_from tab
  highest-none n e = ap (λ (k : ℕ). first_highest (heights_from c k m)) e

  module _ (n : ℕ) (l : 0 < n) where
    pub highest-found : 0 < height_in c m 0 → all_to (lower_next c m) (n - 1) ≡ true → first_highest (heights_from c n m) ≡ true
    highest-found h e =
        highest-places n l ∙ and_both (ltb 0 (height_in c m 0)) (all_to (lower_next c m) (n - 1)) (lt-ltb 0 (height_in c m 0) h) e

    pub highest-flat : height_in c m 0 ≡ 0 → first_highest (heights_from c n m) ≡ false
    highest-flat e =
        highest-places n l ∙ ap (λ (k : ℕ). ltb 0 k && all_to (lower_next c m) (n - 1)) e

    pub highest-lost : (i : ℕ) → 0 < i → i < n → height_in c m 0 ≤ height_in c m i → first_highest (heights_from c n m) ≡ false
    highest-lost i k f g =
        let e : suc (i - 1) ≡ i = omega arith in
        highest-places n l
        ∙ and-false-right (ltb 0 (height_in c m 0)) (all_to (lower_next c m) (n - 1))
        (all_to-fails (lower_next c m) (n - 1) (i - 1) (omega arith)
        (ap (λ (j : ℕ). ltb (height_in c m j) (height_in c m 0)) e ∙ le-ltb (height_in c m i) (height_in c m 0) g))

  -- ---- the numbers of entries

  pub counts-first : (l lo n : ℕ) → 0 < n → counts_from l lo 1 (drop 1 (heights_from c n m)) ≡ counts_at l lo (heights_from c n m)
  unfolding counts_at
  counts-first l lo zero h = absurd (omega arith)
  counts-first l lo (suc n) h =
      ap (λ (rs : List ℕ). counts_from l lo 1 (drop 1 rs)) (line_first n) ∙ ap (counts_at l lo) (sym (line_first n))

  pub counts-last : (l lo k n : ℕ) → counts_from l lo k (drop n (heights_from c n m)) ≡ within lo 8 k
  unfolding counts_from
  counts-last l lo k n = ap (counts_from l lo k) (drop_all n)

  -- ---- the whole test

  pub heights-none : (n : ℕ) → n ≡ 0 → heights_right (heights_from c n m) ≡ true
  unfolding heights_right heights_from tab
  heights-none n e = ap (λ (k : ℕ). heights_right (heights_from c k m)) e

  heights-places : (n : ℕ) → 0 < n
      → heights_right (heights_from c n m) ≡ (first_highest (heights_from c n m) && levels_right (height_in c m 0) (height_in c m 0) (heights_from c n m))
  unfolding heights_right
  heights-places zero l = absurd (omega arith)
  heights-places (suc n) l =
      ap heights_right (line_first n)
      ∙ ap (λ (rs : List ℕ). first_highest rs && levels_right (height_in c m 0) (height_in c m 0) rs) (sym (line_first n))

  pub heights-by : (n : ℕ) → 0 < n → (highest : Bool) → first_highest (heights_from c n m) ≡ highest
      → heights_right (heights_from c n m) ≡ (highest && levels_right (height_in c m 0) (height_in c m 0) (heights_from c n m))
  heights-by n l highest e =
      heights-places n l ∙ ap (λ (b : Bool). b && levels_right (height_in c m 0) (height_in c m 0) (heights_from c n m)) e

-- ---- one row of a level

module _ (l lo k : ℕ) (r : ℕ) (rs : List ℕ) where
  -- by the three tests that the definition makes
  counts-row : (node entry right : Bool) → leb l (r) ≡ node → leb (l - 1) (r) ≡ entry → within lo 8 k ≡ right
      → counts_from l lo k (r ∷ rs) ≡ cond node (right && counts_from l lo 1 rs) (cond entry (counts_from l lo (k + 1) rs) (counts_from l lo k rs))
  unfolding counts_from
  counts-row node entry right e f g =
      λ i. cond (e i) (g i && counts_from l lo 1 rs) (cond (f i) (counts_from l lo (sym (add-one k) i) rs) (counts_from l lo k rs))

module _ (c n : ℕ) (m : List ℕ) (l lo k i : ℕ) (h : i < n) where
  rest : List ℕ
  rest = drop (i + 1) (heights_from c n m)

  counts-here : counts_from l lo k (drop i (heights_from c n m)) ≡ counts_from l lo k (height_in c m i ∷ rest)
  unfolding rest
  counts-here = ap (counts_from l lo k) (drop-line c m n i h)

  -- The row starts a node, ..
  pub node-right : l ≤ height_in c m i → within lo 8 k ≡ true → counts_from l lo k (drop i (heights_from c n m)) ≡ counts_from l lo 1 (drop (i + 1) (heights_from c n m))
  unfolding rest
  node-right f g = counts-here ∙ counts-row l lo k (height_in c m i) rest true _ true (le-leb l (height_in c m i) f) refl g

  pub node-wrong : l ≤ height_in c m i → within lo 8 k ≡ false → counts_from l lo k (drop i (heights_from c n m)) ≡ false
  unfolding rest
  node-wrong f g = counts-here ∙ counts-row l lo k (height_in c m i) rest true _ false (le-leb l (height_in c m i) f) refl g

  -- .. an entry of the node at hand, ..
  pub node-entry : height_in c m i < l → l ≤ height_in c m i + 1 → counts_from l lo k (drop i (heights_from c n m)) ≡ counts_from l lo (k + 1) (drop (i + 1) (heights_from c n m))
  unfolding rest
  node-entry f g =
      counts-here
      ∙ counts-row l lo k (height_in c m i) rest false true _ (lt-leb l (height_in c m i) f) (le-leb (l - 1) (height_in c m i) (omega arith)) refl

  -- .. or stands within one.
  pub node-inside : height_in c m i + 1 < l → counts_from l lo k (drop i (heights_from c n m)) ≡ counts_from l lo k (drop (i + 1) (heights_from c n m))
  unfolding rest
  node-inside f =
      counts-here
      ∙ counts-row l lo k (height_in c m i) rest false false _ (lt-leb l (height_in c m i) (omega arith)) (lt-leb (l - 1) (height_in c m i) (omega arith)) refl

-- ---- one level

level : (top l : ℕ) (rs : List ℕ) → 0 < l → levels_right top l rs ≡ (counts_at l (cond (leb top l) (root_count l) 3) rs && levels_right top (l - 1) rs)
unfolding levels_right
level top zero rs h = absurd (omega arith)
level top (suc l) rs h =
    let e : suc l - 1 ≡ l = omega arith in
    ap (λ (k : ℕ). counts_at (suc l) (cond (leb top (suc l)) (root_count (suc l)) 3) rs && levels_right top k rs) (sym e)

module _ (top l : ℕ) (rs : List ℕ) (h : 0 < l) where
  pub level-right : counts_at l (cond (leb top l) (root_count l) 3) rs ≡ true → levels_right top l rs ≡ levels_right top (l - 1) rs
  level-right e = level top l rs h ∙ ap (λ (b : Bool). b && levels_right top (l - 1) rs) e

  pub level-wrong : counts_at l (cond (leb top l) (root_count l) 3) rs ≡ false → levels_right top l rs ≡ false
  level-wrong e = level top l rs h ∙ ap (λ (b : Bool). b && levels_right top (l - 1) rs) e
