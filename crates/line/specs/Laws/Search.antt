-- The nodes of a line are those of its tree, in the same order.
use Rattle.std.specs.Prelude.{ℕ, zero, suc, ◌≤◌, Bool, cond, ◌≡◌, leb}
use mathlib.Core.List.{List, [], ◌∷◌, ◌++◌, flat_map, append-nil, append_assoc, cons≢nil}
use Rattle.std.proofs.Math.Path.{refl, sym, ap}
use Rattle.std.proofs.Common.{ap₂, ◌∙◌, le_refl, arith, leb-true, le-leb}
use Rattle.model.specs.Tree.{Entry, Tree, empty, rooted, moves_under, first_move}
use Rattle.model.specs.Nodes.{Node, node_of, nodes_from, nodes_of}
use Rattle.model.specs.Basics.{Each}
use Rattle.model.proofs.Laws.Bool.{test_cases}
use Rattle.line.specs.Line.{Placed, line_at, line_of, moves_in}
use Rattle.line.specs.Search.{node_at, nodes_at, nodes_in, nodes_left}
use Rattle.line.specs.Laws.Line.{row, Whole, WholeTree, rest_at, rest-low, line-cons, line-moves}
use Rattle.line.specs.Places.{tail_of}
use Rattle.line.specs.Laws.Decode.{tail-append}

-- ---- rows that end every node of a level

-- `tail_of l rs ≡ []`: nothing follows, or a row with height l or more.
pub tail-high : (l : ℕ) (r : Placed) (rs : List Placed) → tail_of l (r ∷ rs) ≡ [] → l ≤ r.height
unfolding tail_of
tail-high l r rs =
    test_cases (λ b. cond b [] (r ∷ tail_of l rs) ≡ [] → l ≤ r.height) (leb l r.height)
    (λ t e. leb-true l r.height t) (λ t e. absurd (cons≢nil e))

pub tail-lower : (k l : ℕ) (rs : List Placed) → k ≤ l → tail_of l rs ≡ [] → tail_of k rs ≡ []
unfolding tail_of
tail-lower k l [] h e = refl
tail-lower k l (r ∷ rs) h e =
    ap (λ (b : Bool). cond b [] (r ∷ tail_of k rs)) (le-leb k r.height (omega (arith, tail-high l r rs e)))

pub tail-left : (l : ℕ) (ts rs : List Placed) → tail_of l rs ≡ [] → tail_of l (ts ++ rs) ≡ tail_of l ts
unfolding tail_of
tail-left l [] rs e = e
tail-left l (t ∷ ts) rs e = ap (λ (ss : List Placed). cond (leb l t.height) [] (t ∷ ss)) (tail-left l ts rs e)

-- ---- the nodes of the nest

-- The nodes of an entry and below it; a move has none.
nodes_under : (h : ℕ) → Entry h → List Node
nodes_under zero m = []
nodes_under (suc h) es = nodes_from h es

flat_map-none : {A B : Type 0} (xs : List A) → flat_map {B = B} (λ x. []) xs ≡ []
unfolding flat_map
flat_map-none [] = refl
flat_map-none (x ∷ xs) = flat_map-none xs

nodes-under : (h : ℕ) (es : List (Entry h)) → nodes_under (suc h) es ≡ node_of (moves_under (suc h) es) ∷ flat_map (nodes_under h) es
unfolding nodes_under nodes_from
nodes-under zero ms = ap (λ (ns : List Node). node_of (moves_under 1 ms) ∷ ns) (sym (flat_map-none ms))
nodes-under (suc h) es = refl

lines_end : (h : ℕ) (es : List (Entry h)) (ss : List Placed) → Each (Whole h) es → tail_of h ss ≡ [] → tail_of h (flat_map (line_at h h) es ++ ss) ≡ []
unfolding flat_map tail_of
lines_end h [] ss w e = e
lines_end h (x ∷ es) ss w e =
    ap (λ (rs : List Placed). tail_of h ((rs ++ flat_map (line_at h h) es) ++ ss)) (line-cons h h x w.0)
    ∙ ap (λ (b : Bool). cond b [] (row (first_move h x) h ∷ tail_of h ((rest_at h x ++ flat_map (line_at h h) es) ++ ss))) (le-leb h h (le_refl h))

whole-left : (h : ℕ) (e : Entry h) (ss : List Placed) → Whole h e → nodes_left h (line_at h h e ++ ss) ≡ nodes_in (line_at h h e ++ ss)
unfolding nodes_left nodes_in
whole-left h e ss w = rw (line-cons h h e w)

module _ (h : ℕ) (ih : (k : ℕ) (e : Entry h) (ss : List Placed) → Whole h e → tail_of h ss ≡ [] → nodes_left h (line_at h k e ++ ss) ≡ nodes_under h e ++ nodes_in ss) where
  lines-nodes : (es : List (Entry h)) (ss : List Placed) → Each (Whole h) es → tail_of h ss ≡ [] → nodes_in (flat_map (line_at h h) es ++ ss) ≡ flat_map (nodes_under h) es ++ nodes_in ss
  unfolding flat_map
  lines-nodes [] ss w e = refl
  lines-nodes (x ∷ es) ss w e =
      ap nodes_in (append_assoc (line_at h h x) (flat_map (line_at h h) es) ss)
      ∙ sym (whole-left h x (flat_map (line_at h h) es ++ ss) w.0)
      ∙ ih h x (flat_map (line_at h h) es ++ ss) w.0 (lines_end h es ss w.1 e)
      ∙ ap (λ (ns : List Node). nodes_under h x ++ ns) (lines-nodes es ss w.1 e)
      ∙ sym (append_assoc (nodes_under h x) (flat_map (nodes_under h) es) (nodes_in ss))

-- The node that starts with an entry's first row is the entry.
node-line : (h k : ℕ) (e : Entry h) (ss : List Placed) → Whole h e → tail_of h ss ≡ [] → node_at h (row (first_move h e) k) (rest_at h e ++ ss) ≡ node_of (moves_under h e)
unfolding node_at
node-line h k e ss w f =
    ap (λ (rs : List Placed). node_of (moves_in (row (first_move h e) k ∷ rs)))
    (tail-append h (rest_at h e) ss (rest-low h e) ∙ ap (λ (rs : List Placed). rest_at h e ++ rs) f ∙ append-nil (rest_at h e))
    ∙ ap (λ (rs : List Placed). node_of (moves_in rs)) (sym (line-cons h k e w))
    ∙ ap node_of (line-moves h k e)

line-nodes : (h k : ℕ) (e : Entry h) (ss : List Placed) → Whole h e → tail_of h ss ≡ [] → nodes_left h (line_at h k e ++ ss) ≡ nodes_under h e ++ nodes_in ss
unfolding line_at nodes_under nodes_left nodes_at flat_map
line-nodes zero k m ss w e = refl
line-nodes (suc h) k [] ss w e = absurd (omega arith)
line-nodes (suc h) k (x ∷ es) ss w e =
    let later = flat_map (line_at h h) es in
    let rest = rest_at (suc h) (x ∷ es) in
    let first = row (first_move (suc h) (x ∷ es)) k in
    let cons = line-cons (suc h) k (x ∷ es) w in
    ap (λ (rs : List Placed). nodes_left (suc h) (rs ++ ss)) cons
    ∙ ap₂ (λ (n : Node) (ns : List Node). n ∷ ns)
    (node-line (suc h) k (x ∷ es) ss w e)
    (ap (λ (rs : List Placed). nodes_left h (rs ++ ss)) (sym cons)
    ∙ ap (nodes_left h) (append_assoc (line_at h k x) later ss)
    ∙ line-nodes h k x (later ++ ss) w.1.0 (lines_end h es ss w.1.1 (tail-lower h (suc h) ss (omega arith) e))
    ∙ ap (λ (ns : List Node). nodes_under h x ++ ns) (lines-nodes h (line-nodes h) es ss w.1.1 (tail-lower h (suc h) ss (omega arith) e))
    ∙ sym (append_assoc (nodes_under h x) (flat_map (nodes_under h) es) (nodes_in ss)))
    ∙ ap (λ (ns : List Node). ns ++ nodes_in ss) (sym (nodes-under h (x ∷ es)))

pub nodes-line : (t : Tree) → WholeTree t → nodes_in (line_of t) ≡ nodes_of t
unfolding line_of nodes_of nodes_in nodes_under tail_of
nodes-line empty w = refl
nodes-line (rooted h es) w =
    ap nodes_in (sym (append-nil (line_at (suc h) (suc h) es)))
    ∙ sym (whole-left (suc h) es [] w)
    ∙ line-nodes (suc h) (suc h) es [] w refl
    ∙ append-nil (nodes_from h es)
