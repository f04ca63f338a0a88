-- The tree that stands in a line: a line holds one tree.
use Rattle.std.specs.Prelude.{ℕ, zero, suc, ◌≤◌, ◌<◌, Bool, true, ◌≡◌, leb}
use Rattle.std.proofs.Math.Bool.{cond}
use mathlib.Core.List.{List, [], ◌∷◌, ◌++◌, flat_map, append-nil}
use Rattle.std.proofs.Math.Path.{refl, ap, ap₂}
use Rattle.std.proofs.Common.{sym, ◌∙◌, le_refl, le_antisymm, le_of_suc-le-suc, arith, leb-true, leb-false, le-leb}
use Rattle.std.proofs.lemmas.Bool.{lt-leb}
use Rattle.model.specs.Basics.{Each, cons_if, first_or}
use Rattle.model.specs.Moves.{Move}
use Rattle.model.specs.Tree.{Entry, Tree, empty, rooted, moves_under, first_move, filled_tree}
use Rattle.model.proofs.Laws.Bool.{test_cases}
use Rattle.line.specs.Line.{Placed, line_at, line_of}
use Rattle.line.specs.Places.{tail_of}
use Rattle.line.specs.Laws.Line.{row, Low, Whole, WholeTree, tree-whole, rest_at, rest-low, first-cons, line-cons}

-- For each row that starts an entry of level l, what the row and its tail give.
unfoldable pub starts : {A : Type 0} → (Placed → List Placed → A) → ℕ → List Placed → List A
starts f l [] = []
starts f l (r ∷ rs) = cons_if (leb l r.height) (f r (tail_of l rs)) (starts f l rs)

-- The entry that starts with a row and has these rows after it.
unfoldable pub entry_of : (h : ℕ) → Placed → List Placed → Entry h
entry_of zero r rs = r.move
entry_of (suc h) r rs = entry_of h r (tail_of h rs) ∷ starts (entry_of h) h rs

unfoldable pub root_of : ℕ → Placed → List Placed → Tree
root_of zero r rs = empty
root_of (suc h) r rs = rooted h (entry_of (suc h) r rs)

-- The first height is the depth.
unfoldable pub tree_of : List Placed → Tree
tree_of [] = empty
tree_of (r ∷ rs) = root_of r.height r rs

-- ---- rows that start no entry

pub tail-low : (l : ℕ) (rs : List Placed) → Low l (tail_of l rs)
unfolding tail_of
tail-low l [] = tt
tail-low l (r ∷ rs) =
    test_cases (λ b. Low l (cond b [] (r ∷ tail_of l rs))) (leb l r.height) (λ e. tt) (λ e. (leb-false l r.height e, tail-low l rs))

pub tail-append : (l : ℕ) (ts rs : List Placed) → Low l ts → tail_of l (ts ++ rs) ≡ ts ++ tail_of l rs
unfolding tail_of
tail-append l [] rs g = refl
tail-append l (t ∷ ts) rs g =
    ap₂ (λ (b : Bool) (ss : List Placed). cond b [] (t ∷ ss)) (lt-leb l t.height g.0) (tail-append l ts rs g.1)

pub starts-append : {A : Type 0} (f : Placed → List Placed → A) (l : ℕ) (ts rs : List Placed) → Low l ts → starts f l (ts ++ rs) ≡ starts f l rs
unfolding starts
starts-append f l [] rs g = refl
starts-append f l (t ∷ ts) rs g =
    ap (λ (b : Bool). cons_if b (f t (tail_of l (ts ++ rs))) (starts f l (ts ++ rs))) (lt-leb l t.height g.0) ∙ starts-append f l ts rs g.1

-- ---- the entries of a node, from its line

lines-tail : (h : ℕ) (es : List (Entry h)) → Each (Whole h) es → tail_of h (flat_map (line_at h h) es) ≡ []
unfolding flat_map tail_of
lines-tail h [] w = refl
lines-tail h (e ∷ es) w =
    ap (λ (rs : List Placed). tail_of h (rs ++ flat_map (line_at h h) es)) (line-cons h h e w.0)
    ∙ ap (λ (b : Bool). cond b [] (row (first_move h e) h ∷ tail_of h (rest_at h e ++ flat_map (line_at h h) es))) (le-leb h h (le_refl h))

rest-tail : (h : ℕ) (e : Entry h) (es : List (Entry h)) → Each (Whole h) es → tail_of h (rest_at h e ++ flat_map (line_at h h) es) ≡ rest_at h e
rest-tail h e es w =
    tail-append h (rest_at h e) (flat_map (line_at h h) es) (rest-low h e)
    ∙ ap (λ (rs : List Placed). rest_at h e ++ rs) (lines-tail h es w)
    ∙ append-nil (rest_at h e)

module _ (h : ℕ) (ih : (k : ℕ) (e : Entry h) → Whole h e → entry_of h (row (first_move h e) k) (rest_at h e) ≡ e) where
  lines-starts : (es : List (Entry h)) → Each (Whole h) es → starts (entry_of h) h (flat_map (line_at h h) es) ≡ es
  unfolding flat_map starts
  lines-starts [] w = refl
  lines-starts (e ∷ es) w =
      ap (λ (rs : List Placed). starts (entry_of h) h (rs ++ later)) (line-cons h h e w.0)
      ∙ ap (λ (b : Bool). cons_if b (entry_of h first (tail_of h (rest_at h e ++ later))) (starts (entry_of h) h (rest_at h e ++ later))) (le-leb h h (le_refl h))
      ∙ ap₂ ◌∷◌
      (ap (entry_of h first) (rest-tail h e es w.1) ∙ ih h e w.0)
      (starts-append (entry_of h) h (rest_at h e) later (rest-low h e) ∙ lines-starts es w.1)
    where
      first : Placed
      first = row (first_move h e) h

      later : List Placed
      later = flat_map (line_at h h) es

pub entry-line : (h k : ℕ) (e : Entry h) → Whole h e → entry_of h (row (first_move h e) k) (rest_at h e) ≡ e
unfolding entry_of rest_at first_move moves_under first_or
entry-line zero k m w = refl
entry-line (suc h) k [] w = absurd (omega arith)
entry-line (suc h) k (e ∷ es) w =
    ap₂ ◌∷◌
    (ap₂ (λ (m : Move) (rs : List Placed). entry_of h (row m k) rs) (first-cons h e es w.1.0) (rest-tail h e es w.1.1) ∙ entry-line h k e w.1.0)
    (starts-append (entry_of h) h (rest_at h e) (flat_map (line_at h h) es) (rest-low h e) ∙ lines-starts h (entry-line h) es w.1.1)

-- ---- the tree of a line

pub tree-line : (t : Tree) → WholeTree t → tree_of (line_of t) ≡ t
unfolding tree_of root_of line_of
tree-line empty w = refl
tree-line (rooted h es) w = ap tree_of (line-cons (suc h) (suc h) es w) ∙ ap (rooted h) (entry-line (suc h) (suc h) es w)

pub line-injective : (t u : Tree) → filled_tree t ≡ true → filled_tree u ≡ true → line_of t ≡ line_of u → t ≡ u
line-injective t u f g e = sym (tree-line t (tree-whole t f)) ∙ ap tree_of e ∙ tree-line u (tree-whole u g)

-- ---- the line of a tree

same-height : (l : ℕ) (r : Placed) → l ≤ r.height → r.height < suc l → row r.move l ≡ r
same-height l r g i = ap (row r.move) (le_antisymm g (le_of_suc-le-suc i))

module _ (h : ℕ) (ih : (k : ℕ) (r : Placed) (rs : List Placed) → Low h rs → line_at h k (entry_of h r rs) ≡ row r.move k ∷ rs) where
  starts-lines : (rs : List Placed) → Low (suc h) rs → tail_of h rs ++ flat_map (line_at h h) (starts (entry_of h) h rs) ≡ rs
  unfolding tail_of starts flat_map
  starts-lines [] g = refl
  starts-lines (r ∷ rs) g =
      test_cases
      (λ b. cond b [] (r ∷ tail_of h rs) ++ flat_map (line_at h h) (cons_if b (entry_of h r (tail_of h rs)) (starts (entry_of h) h rs)) ≡ r ∷ rs)
      (leb h r.height)
      (λ e.
      ap (λ (ss : List Placed). ss ++ flat_map (line_at h h) (starts (entry_of h) h rs)) (ih h r (tail_of h rs) (tail-low h rs))
      ∙ ap₂ ◌∷◌ (same-height h r (leb-true h r.height e) g.0) (starts-lines rs g.1))
      (λ e. ap (λ (ss : List Placed). r ∷ ss) (starts-lines rs g.1))

pub line-entry : (h k : ℕ) (r : Placed) (rs : List Placed) → Low h rs → line_at h k (entry_of h r rs) ≡ row r.move k ∷ rs
unfolding line_at entry_of
line-entry zero k r [] g = refl
line-entry zero k r (s ∷ rs) g = absurd (omega arith)
line-entry (suc h) k r rs g =
    ap (λ (ss : List Placed). ss ++ flat_map (line_at h h) (starts (entry_of h) h rs)) (line-entry h k r (tail_of h rs) (tail-low h rs))
    ∙ ap (λ (ss : List Placed). row r.move k ∷ ss) (starts-lines h (line-entry h) rs g)

pub line-rooted : (h : ℕ) (r : Placed) (rs : List Placed) → r.height ≡ suc h → Low (suc h) rs → line_of (rooted h (entry_of (suc h) r rs)) ≡ r ∷ rs
unfolding line_of
line-rooted h r rs e g = line-entry (suc h) (suc h) r rs g ∙ ap (λ (k : ℕ). row r.move k ∷ rs) (sym e)
