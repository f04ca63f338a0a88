-- The test of a line's heights passes exactly where the line is that of a tree whose nodes have the right numbers of entries.
use Rattle.std.specs.Prelude.{ℕ, zero, suc, ◌+◌, ◌-◌, ◌≤◌, ◌<◌, Bool, true, false, ◌&&◌, ◌≡◌, refl, leb, ltb}
use Rattle.std.proofs.Math.Bool.{cond, and-true, and-false, and_assoc}
use mathlib.Core.List.{List, [], ◌∷◌}
use Rattle.std.proofs.Math.Path.{sym, ap, ap₂, fun_ext}
use Rattle.std.proofs.Common.{◌∙◌, le_refl, add-zero, zero-lt-suc, one-add, arith, leb-true, le-leb, ltb-true, lt-ltb}
use Rattle.std.proofs.lemmas.Bool.{lt-leb}
use Rattle.std.proofs.Math.ListN.{length}
use Rattle.model.specs.Basics.{Each, cons_if, all, within}
use Rattle.model.specs.Tree.{Entry, Tree, empty, rooted, first_move, filled, root_least, filled_tree}
use Rattle.model.proofs.Laws.Bool.{test_cases, and_left, and_right, and_both}
use Rattle.model.proofs.Laws.Basics.{each-mono}
use Rattle.line.specs.Line.{Placed, line_of, heights_in}
use Rattle.line.specs.Heights.{first_highest, counts_from, counts_at, root_count, levels_right, heights_right}
use Rattle.line.specs.Laws.Line.{row, Low, tree-whole, tree-depth, rest_at, rest-low, line-cons}
use Rattle.line.specs.Places.{tail_of}
use Rattle.line.specs.Laws.Decode.{starts, entry_of, root_of, tree_of, entry-line, line-rooted}

-- ---- a test of every entry of a level

-- Whether each row that starts an entry of level l passes with its tail.
unfoldable all_starts : (Placed → List Placed → Bool) → ℕ → List Placed → Bool
all_starts p l [] = true
all_starts p l (r ∷ rs) = cond (leb l r.height) (p r (tail_of l rs) && all_starts p l rs) (all_starts p l rs)

all-cons_if : {A : Type 0} (p : A → Bool) (b : Bool) (x : A) (xs : List A) → all p (cons_if b x xs) ≡ cond b (p x && all p xs) (all p xs)
unfolding all
all-cons_if p true x xs = refl
all-cons_if p false x xs = refl

all-starts : {A : Type 0} (p : A → Bool) (f : Placed → List Placed → A) (l : ℕ) (rs : List Placed)
    → all p (starts f l rs) ≡ all_starts (λ r t. p (f r t)) l rs
unfolding all starts all_starts
all-starts p f l [] = refl
all-starts p f l (r ∷ rs) =
    all-cons_if p (leb l r.height) (f r (tail_of l rs)) (starts f l rs)
    ∙ ap (λ (b : Bool). cond (leb l r.height) (p (f r (tail_of l rs)) && b) b) (all-starts p f l rs)

and-pairs : (a b c d : Bool) → ((a && b) && (c && d)) ≡ ((a && c) && (b && d))
and-pairs true true c d = refl
and-pairs true false c d = sym (and-false c)
and-pairs false b c d = refl

all_starts-and : (p q : Placed → List Placed → Bool) (l : ℕ) (rs : List Placed)
    → all_starts (λ r t. p r t && q r t) l rs ≡ (all_starts p l rs && all_starts q l rs)
unfolding all_starts
all_starts-and p q l [] = refl
all_starts-and p q l (r ∷ rs) =
    let t = tail_of l rs in
    let both = all_starts (λ r t. p r t && q r t) l rs in
    test_cases
    (λ b. cond b ((p r t && q r t) && both) both ≡ (cond b (p r t && all_starts p l rs) (all_starts p l rs) && cond b (q r t && all_starts q l rs) (all_starts q l rs)))
    (leb l r.height)
    (λ e. ap (λ (b : Bool). (p r t && q r t) && b) (all_starts-and p q l rs) ∙ and-pairs (p r t) (q r t) (all_starts p l rs) (all_starts q l rs))
    (λ e. all_starts-and p q l rs)

all_starts-low : (p : Placed → List Placed → Bool) (l : ℕ) (rs : List Placed) → Low l rs → all_starts p l rs ≡ true
unfolding all_starts
all_starts-low p l [] g = refl
all_starts-low p l (r ∷ rs) g =
    ap (λ (b : Bool). cond b (p r (tail_of l rs) && all_starts p l rs) (all_starts p l rs)) (lt-leb l r.height g.0) ∙ all_starts-low p l rs g.1

all_starts-true : (p : Placed → List Placed → Bool) → ((r : Placed) (t : List Placed) → p r t ≡ true) → (l : ℕ) (rs : List Placed)
    → all_starts p l rs ≡ true
unfolding all_starts
all_starts-true p f l [] = refl
all_starts-true p f l (r ∷ rs) =
    test_cases (λ b. cond b (p r (tail_of l rs) && all_starts p l rs) (all_starts p l rs) ≡ true) (leb l r.height)
    (λ e. and_both (p r (tail_of l rs)) (all_starts p l rs) (f r (tail_of l rs)) (all_starts-true p f l rs))
    (λ e. all_starts-true p f l rs)

tail-whole : (l : ℕ) (rs : List Placed) → Low l rs → tail_of l rs ≡ rs
unfolding tail_of
tail-whole l [] g = refl
tail-whole l (r ∷ rs) g = ap₂ (λ (b : Bool) (ss : List Placed). cond b [] (r ∷ ss)) (lt-leb l r.height g.0) (tail-whole l rs g.1)

tail-tail : (h : ℕ) (rs : List Placed) → tail_of h (tail_of (suc h) rs) ≡ tail_of h rs
unfolding tail_of
tail-tail h [] = refl
tail-tail h (r ∷ rs) =
    test_cases (λ b. tail_of h (cond b [] (r ∷ tail_of (suc h) rs)) ≡ cond (leb h r.height) [] (r ∷ tail_of h rs)) (leb (suc h) r.height)
    (λ e. ap (λ (b : Bool). cond b [] (r ∷ tail_of h rs)) (sym (le-leb h r.height (omega (arith, leb-true (suc h) r.height e)))))
    (λ e. ap (λ (ss : List Placed). cond (leb h r.height) [] (r ∷ ss)) (tail-tail h rs))

-- Node by node: the entries of the first node, then those of each later one.
all_starts-nodes : (p : Placed → List Placed → Bool) (h : ℕ) (rs : List Placed)
    → all_starts p h rs ≡ (all_starts p h (tail_of (suc h) rs) && all_starts (λ r t. p r (tail_of h t) && all_starts p h t) (suc h) rs)
unfolding all_starts tail_of
all_starts-nodes p h [] = refl
all_starts-nodes p h (r ∷ rs) =
    test_cases
    (λ b. cond (leb h r.height) (p r (tail_of h rs) && all_starts p h rs) (all_starts p h rs)
    ≡ (all_starts p h (cond b [] (r ∷ under)) && cond b ((p r (tail_of h under) && all_starts p h under) && later) later))
    (leb (suc h) r.height)
    (λ e.
    ap (λ (b : Bool). cond b (p r (tail_of h rs) && all_starts p h rs) (all_starts p h rs)) (le-leb h r.height (omega (arith, leb-true (suc h) r.height e)))
    ∙ here (all_starts-nodes p h rs))
    (λ e.
    test_cases
    (λ b. cond b (p r (tail_of h rs) && all_starts p h rs) (all_starts p h rs)
    ≡ (cond b (p r (tail_of h under) && all_starts p h under) (all_starts p h under) && later))
    (leb h r.height)
    (λ f. here (all_starts-nodes p h rs))
    (λ f. all_starts-nodes p h rs))
  where
    under : List Placed
    under = tail_of (suc h) rs

    later : Bool
    later = all_starts (λ r t. p r (tail_of h t) && all_starts p h t) (suc h) rs

    here : all_starts p h rs ≡ (all_starts p h under && later)
        → (p r (tail_of h rs) && all_starts p h rs) ≡ ((p r (tail_of h under) && all_starts p h under) && later)
    here ih =
        ap₂ (λ (ss : List Placed) (b : Bool). p r ss && b) (sym (tail-tail h rs)) ih
        ∙ sym (and_assoc (p r (tail_of h under)) (all_starts p h under) later)

-- ---- the numbers of entries

-- How many entries of level h start in these rows.
abbrev in_tail : ℕ → List Placed → ℕ
in_tail h rs = length (starts (entry_of h) h rs)

module _ (h lo : ℕ) where
  abbrev counted : Placed → List Placed → Bool
  counted r t = within lo 8 (suc (in_tail h t))

  counts-from : (n : ℕ) (rs : List Placed) → counts_from (suc h) lo n (heights_in rs) ≡ (within lo 8 (n + in_tail h (tail_of (suc h) rs)) && all_starts counted (suc h) rs)
  unfolding counts_from tail_of all_starts starts heights_in
  counts-from n [] = sym (and-true (within lo 8 (n + 0)) ∙ ap (within lo 8) (add-zero n))
  counts-from n (r ∷ rs) =
      test_cases
      (λ b. cond b (within lo 8 n && counts_from (suc h) lo 1 (heights_in rs)) (cond (leb (suc h - 1) r.height) (counts_from (suc h) lo (suc n) (heights_in rs)) (counts_from (suc h) lo n (heights_in rs)))
      ≡ (within lo 8 (n + in_tail h (cond b [] (r ∷ under))) && cond b (counted r under && later) later))
      (leb (suc h) r.height)
      (λ e.
      ap₂ (λ (k : ℕ) (b : Bool). within lo 8 k && b) (sym (add-zero n))
      (counts-from 1 rs ∙ ap (λ (k : ℕ). within lo 8 k && later) (one-add (in_tail h under))))
      (λ e.
      ap (λ (k : ℕ). cond (leb k r.height) (counts_from (suc h) lo (suc n) (heights_in rs)) (counts_from (suc h) lo n (heights_in rs))) (omega arith)
      ∙ test_cases
      (λ b. cond b (counts_from (suc h) lo (suc n) (heights_in rs)) (counts_from (suc h) lo n (heights_in rs))
      ≡ (within lo 8 (n + length (cons_if b (entry_of h r (tail_of h under)) (starts (entry_of h) h under))) && later))
      (leb h r.height)
      (λ f. counts-from (suc n) rs ∙ ap (λ (k : ℕ). within lo 8 k && later) (omega arith))
      (λ f. counts-from n rs))
    where
      under : List Placed
      under = tail_of (suc h) rs

      later : Bool
      later = all_starts counted (suc h) rs

-- ---- all levels

filled_at : (h : ℕ) → Placed → List Placed → Bool
filled_at h r t = filled h (entry_of h r t)

filled_under : (h : ℕ) → Placed → List Placed → Bool
filled_under h r t = filled_at h r (tail_of h t) && all_starts (filled_at h) h t

filled-suc : (h : ℕ) (r : Placed) (t : List Placed) → filled_at (suc h) r t ≡ (counted h 3 r t && filled_under h r t)
unfolding filled_at filled_under filled entry_of all
filled-suc h r t = ap (λ (b : Bool). counted h 3 r t && (filled h (entry_of h r (tail_of h t)) && b)) (all-starts (filled h) (entry_of h) h t)

and-nodes : (a b c d e : Bool) → ((a && b) && (c && (d && e))) ≡ ((a && (c && d)) && (b && e))
and-nodes true true c d e = sym (and_assoc c d e)
and-nodes true false c d e = sym (and-false (c && d))
and-nodes false b c d e = refl

levels-filled : (top h : ℕ) (r : Placed) (rs : List Placed) → h < top
    → levels_right top h (heights_in (r ∷ rs)) ≡ (filled_at h r (tail_of h rs) && all_starts (filled_at h) h rs)
unfolding levels_right counts_at filled_at filled_under filled heights_in
levels-filled top zero r rs g = sym (all_starts-true (filled_at 0) (λ r t. refl) 0 rs)
levels-filled top (suc h) r rs g =
    ap₂ ◌&&◌ numbers (levels-filled top h r rs (omega arith) ∙ below)
    ∙ and-nodes (counted h 3 r first) counts (filled_at h r (tail_of h first)) (all_starts (filled_at h) h first) under
    ∙ ap₂ ◌&&◌ (sym (filled-suc h r first)) nodes
  where
    first : List Placed
    first = tail_of (suc h) rs

    counts : Bool
    counts = all_starts (counted h 3) (suc h) rs

    under : Bool
    under = all_starts (filled_under h) (suc h) rs

    numbers : counts_from (suc h) (cond (leb top (suc h)) (root_count (suc h)) 3) 1 (heights_in rs) ≡ (counted h 3 r first && counts)
    numbers =
        ap (λ (b : Bool). counts_from (suc h) (cond b (root_count (suc h)) 3) 1 (heights_in rs)) (lt-leb top (suc h) g)
        ∙ counts-from h 3 1 rs
        ∙ ap (λ (n : ℕ). within 3 8 n && counts) (one-add (in_tail h first))

    below : (filled_at h r (tail_of h rs) && all_starts (filled_at h) h rs) ≡ (filled_at h r (tail_of h first) && (all_starts (filled_at h) h first && under))
    below = ap₂ (λ (ss : List Placed) (b : Bool). filled_at h r ss && b) (sym (tail-tail h rs)) (all_starts-nodes (filled_at h) h rs)

    nodes : (counts && under) ≡ all_starts (filled_at (suc h)) (suc h) rs
    nodes =
        sym (all_starts-and (counted h 3) (filled_under h) (suc h) rs)
        ∙ ap (λ (p : Placed → List Placed → Bool). all_starts p (suc h) rs) (fun_ext (λ r. fun_ext (λ t. sym (filled-suc h r t))))

root-count : (h : ℕ) → root_count (suc h) ≡ root_least h
unfolding root_count root_least
root-count zero = refl
root-count (suc h) = refl

root-filled : (h : ℕ) (r : Placed) (rs : List Placed) → Low (suc h) rs → levels_right (suc h) (suc h) (heights_in (r ∷ rs)) ≡ filled_tree (root_of (suc h) r rs)
unfolding levels_right counts_at root_of filled_tree entry_of all filled_at heights_in
root-filled h r rs g =
    ap₂ ◌&&◌ numbers
    (levels-filled (suc h) h r rs (le_refl (suc h)) ∙ ap (λ (b : Bool). filled_at h r (tail_of h rs) && b) (sym (all-starts (filled h) (entry_of h) h rs)))
  where
    lo : ℕ
    lo = root_count (suc h)

    numbers : counts_from (suc h) (cond (leb (suc h) (suc h)) lo 3) 1 (heights_in rs) ≡ within (root_least h) 8 (suc (in_tail h rs))
    numbers =
        ap (λ (b : Bool). counts_from (suc h) (cond b lo 3) 1 (heights_in rs)) (le-leb (suc h) (suc h) (le_refl (suc h)))
        ∙ counts-from h lo 1 rs
        ∙ ap₂ (λ (n : ℕ) (b : Bool). within lo 8 n && b)
        (one-add (in_tail h (tail_of (suc h) rs)) ∙ ap (λ (ss : List Placed). suc (in_tail h ss)) (tail-whole (suc h) rs g))
        (all_starts-low (counted h lo) (suc h) rs g)
        ∙ and-true (within lo 8 (suc (in_tail h rs)))
        ∙ ap (λ (n : ℕ). within n 8 (suc (in_tail h rs))) (root-count h)

-- ---- the whole test

low-all : (l : ℕ) (rs : List Placed) → Low l rs → all (λ k. ltb k l) (heights_in rs) ≡ true
unfolding heights_in all
low-all l [] g = refl
low-all l (r ∷ rs) g = and_both (ltb r.height l) (all (λ k. ltb k l) (heights_in rs)) (lt-ltb r.height l g.0) (low-all l rs g.1)

all-low : (l : ℕ) (rs : List Placed) → all (λ k. ltb k l) (heights_in rs) ≡ true → Low l rs
unfolding heights_in all
all-low l [] e = tt
all-low l (r ∷ rs) e =
    (ltb-true r.height l (and_left (ltb r.height l) (all (λ k. ltb k l) (heights_in rs)) e), all-low l rs (and_right (ltb r.height l) (all (λ k. ltb k l) (heights_in rs)) e))

pub heights-right : (t : Tree) → filled_tree t ≡ true → heights_right (heights_in (line_of t)) ≡ true
unfolding heights_right first_highest line_of root_of heights_in
heights-right empty f = refl
heights-right (rooted h es) f =
    let w = tree-whole (rooted h es) f in
    let r = row (first_move (suc h) es) (suc h) in
    let rs = rest_at (suc h) es in
    ap (λ (ss : List Placed). heights_right (heights_in ss)) (line-cons (suc h) (suc h) es w)
    ∙ and_both (first_highest (heights_in (r ∷ rs))) (levels_right (suc h) (suc h) (heights_in (r ∷ rs)))
    (and_both (ltb 0 (suc h)) (all (λ k. ltb k (suc h)) (heights_in rs)) (lt-ltb 0 (suc h) (zero-lt-suc h)) (low-all (suc h) rs (rest-low (suc h) es)))
    (root-filled h r rs (rest-low (suc h) es) ∙ ap (λ (u : List (Entry h)). filled_tree (rooted h u)) (entry-line (suc h) (suc h) es w) ∙ f)

-- A line that passes: its first row is the highest, and the tree of that depth has the right numbers of entries.
record Rooted (r : Placed) (rs : List Placed) : Type 0 where
  above : ℕ
  depth : r.height ≡ suc above
  low : Low (suc above) rs
  full : filled_tree (rooted above (entry_of (suc above) r rs)) ≡ true

rooted-at : (h : ℕ) (r : Placed) (rs : List Placed) → r.height ≡ h → 0 < h → Low h rs → levels_right h h (heights_in (r ∷ rs)) ≡ true → Rooted r rs
unfolding root_of
rooted-at zero r rs e p g l = absurd (omega arith)
rooted-at (suc h) r rs e p g l = record { above = h; depth = e; low = g; full = sym (root-filled h r rs g) ∙ l }

right-rooted : (r : Placed) (rs : List Placed) → heights_right (heights_in (r ∷ rs)) ≡ true → Rooted r rs
unfolding heights_right first_highest heights_in
right-rooted r rs e =
    let highest = and_left (first_highest (heights_in (r ∷ rs))) (levels_right r.height r.height (heights_in (r ∷ rs))) e in
    rooted-at r.height r rs refl
    (ltb-true 0 r.height (and_left (ltb 0 r.height) (all (λ k. ltb k r.height) (heights_in rs)) highest))
    (all-low r.height rs (and_right (ltb 0 r.height) (all (λ k. ltb k r.height) (heights_in rs)) highest))
    (and_right (first_highest (heights_in (r ∷ rs))) (levels_right r.height r.height (heights_in (r ∷ rs))) e)

module _ (r : Placed) (rs : List Placed) (t : Rooted r rs) where
  rooted-tree : tree_of (r ∷ rs) ≡ rooted t.above (entry_of (suc t.above) r rs)
  unfolding tree_of root_of
  rooted-tree = ap (λ (h : ℕ). root_of h r rs) t.depth

  rooted-line : line_of (tree_of (r ∷ rs)) ≡ r ∷ rs
  rooted-line = ap line_of rooted-tree ∙ line-rooted t.above r rs t.depth t.low

pub right-heights : (rs : List Placed) → heights_right (heights_in rs) ≡ true → (filled_tree (tree_of rs) ≡ true) × (line_of (tree_of rs) ≡ rs)
unfolding tree_of filled_tree line_of
right-heights [] e = (refl, refl)
right-heights (r ∷ rs) e =
    let t = right-rooted r rs e in
    (ap filled_tree (rooted-tree r rs t) ∙ t.full, rooted-line r rs t)

-- Seven levels are enough for 4,096 moves.
pub heights-small : (rs : List Placed) → heights_right (heights_in rs) ≡ true → length rs ≤ 4096 → Each (λ r. r.height ≤ 7) rs
heights-small [] e l = tt
heights-small (r ∷ rs) e l =
    let t = right-rooted r rs e in
    let line = line-rooted t.above r rs t.depth t.low in
    let d = tree-depth t.above (entry_of (suc t.above) r rs) t.full (omega (arith, ap length line)) in
    (omega (arith, t.depth), each-mono (λ s. s.height < suc t.above) (λ s. s.height ≤ 7) rs (λ s g. omega arith) t.low)
