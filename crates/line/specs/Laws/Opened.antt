-- What a search of a line opens: under a node that is not opened, none.
use Prim.Native.Nat.{ℕ, zero, suc, ◌+◌, ◌*◌, ◌-◌, ◌≤◌, ◌<◌}
use Rattle.std.specs.Prelude.{Bool, true, false, cond, ◌≡◌, leb, take}
use mathlib.Core.List.Memᴰ
use mathlib.Core.List.{List, [], ◌∷◌, ◌++◌, map-append, append-nil, append_assoc, Memᴰ}
use Rattle.std.proofs.Math.Path.{refl, sym, ap, ap₂, subst}
use Rattle.std.proofs.Common.{◌∙◌, zero-add, le_refl, length-append, take-append-drop, drop_of_length-le, drop-cons, drop-drop}
use native.Mathlib.Omega.{arith}
use Rattle.std.proofs.Math.ListN.{length, drop, get_or, length-take}
use Rattle.std.proofs.Math.Seq.{get_or-drop, get_or-take}
use Rattle.zorder.specs.Between.{row_costs}
use Rattle.model.specs.Basics.{Each, select, count, first_or, last_or}
use Rattle.model.specs.Moves.{Move, ordered}
use Rattle.model.specs.Tree.{Tree, empty, rooted}
use Rattle.model.specs.Nodes.{Node, node_of, nodes_of}
use Rattle.model.specs.Sound.{Fit}
use Rattle.model.proofs.Laws.Bool.{test_cases}
use Rattle.model.proofs.Laws.Basics.{each_append, each-mono, mem-at, select-few, count-append, count_none, count-cons}
use Rattle.model.specs.Runs.{RunOf, NodeIn}
use Rattle.model.proofs.Laws.Nodes.{Some, run-trans, node-wider, run-fit, run-ordered}
use Rattle.model.proofs.Laws.Opening.{Downward}
use Rattle.line.specs.Line.{Placed, none, line_of, moves_in, heights_in}
use Rattle.line.specs.Places.{move_at, height_at, lower_among, lower, node_end, tail_of}
use Rattle.line.specs.Search.{node_at, nodes_at, nodes_in, nodes_left, node_from, opened_from, opened_past}
use Rattle.line.specs.Laws.Line.{Low, WholeTree, line-cons}
use Rattle.line.specs.Laws.Decode.{tail-low}
use Rattle.line.specs.Laws.Places.{lower-le, end-rows}
use Rattle.line.specs.Laws.Search.{tail-lower, tail-left, nodes-line}

-- ---- a node and what follows it

nodes-before : (l k : ℕ) (r : Placed) (ts ss : List Placed) → k ≤ l → tail_of l ss ≡ [] → nodes_at k r (ts ++ ss) ≡ nodes_at k r ts
unfolding nodes_at node_at
nodes-before l zero r ts ss h e = refl
nodes-before l (suc k) r ts ss h e =
    ap₂ (λ (us : List Placed) (ns : List Node). node_of (moves_in (r ∷ us)) ∷ ns)
    (tail-left (suc k) ts ss (tail-lower (suc k) l ss h e))
    (nodes-before l k r ts ss (omega arith) e)

module _ (l : ℕ) (ss : List Placed) (e : tail_of l ss ≡ []) where
  nodes-append : (ts : List Placed) → Low l ts → nodes_in (ts ++ ss) ≡ nodes_in ts ++ nodes_in ss
  unfolding nodes_in
  nodes-append [] g = refl
  nodes-append (t ∷ ts) g =
      ap₂ ◌++◌ (nodes-before l t.height t ts ss (omega arith) e) (nodes-append ts g.1)
      ∙ sym (append_assoc (nodes_at t.height t ts) (nodes_in ts) (nodes_in ss))

  left-append : (r : Placed) (ts : List Placed) → Low l ts → nodes_left l (r ∷ (ts ++ ss)) ≡ nodes_left l (r ∷ ts) ++ nodes_in ss
  unfolding nodes_left
  left-append r ts g =
      ap₂ ◌++◌ (nodes-before l l r ts ss (le_refl l) e) (nodes-append ts g)
      ∙ sym (append_assoc (nodes_at l r ts) (nodes_in ts) (nodes_in ss))

tail-take : (l : ℕ) (rs : List Placed) → tail_of l rs ≡ take (lower l rs) rs
unfolding tail_of lower_among heights_in
tail-take l [] = refl
tail-take l (r ∷ rs) =
    test_cases (λ b. cond b [] (r ∷ tail_of l rs) ≡ take (cond b 0 (suc (lower l rs))) (r ∷ rs)) (leb l r.height)
    (λ e. refl) (λ e. ap (λ (ss : List Placed). r ∷ ss) (tail-take l rs))

tail-split : (l : ℕ) (rs : List Placed) → tail_of l rs ++ drop (lower l rs) rs ≡ rs
tail-split l rs = ap (λ (ts : List Placed). ts ++ drop (lower l rs) rs) (tail-take l rs) ∙ take-append-drop (lower l rs) rs

tail-past : (l : ℕ) (rs : List Placed) → tail_of l (drop (lower l rs) rs) ≡ []
unfolding tail_of lower_among heights_in
tail-past l [] = refl
tail-past l (r ∷ rs) =
    test_cases (λ b. leb l r.height ≡ b → tail_of l (drop (cond b 0 (suc (lower l rs))) (r ∷ rs)) ≡ []) (leb l r.height)
    (λ e f. ap (λ (b : Bool). cond b [] (r ∷ tail_of l rs)) f) (λ e f. tail-past l rs) refl

-- The nodes that are left: those that start before place `lower l rs`, then all from there on.
left_split : (l : ℕ) (r : Placed) (rs : List Placed) → nodes_left l (r ∷ rs) ≡ nodes_left l (r ∷ tail_of l rs) ++ nodes_in (drop (lower l rs) rs)
left_split l r rs =
    ap (λ (ts : List Placed). nodes_left l (r ∷ ts)) (sym (tail-split l rs))
    ∙ left-append l (drop (lower l rs) rs) (tail-past l rs) r (tail_of l rs) (tail-low l rs)

low-none : (rs : List Placed) → Low 1 rs → nodes_in rs ≡ []
unfolding nodes_in nodes_at
low-none [] g = refl
low-none (r ∷ rs) g =
    let ground : r.height ≡ 0 = omega arith in
    ap (λ (l : ℕ). nodes_at l r rs ++ nodes_in rs) ground ∙ low-none rs g.1

-- Below a leaf there is none.
left-leaf : (r : Placed) (rs : List Placed) → nodes_left 1 (r ∷ rs) ≡ node_at 1 r rs ∷ nodes_in (drop (lower 1 rs) rs)
unfolding nodes_left nodes_at
left-leaf r rs =
    let ss = drop (lower 1 rs) rs in
    ap (λ (ns : List Node). node_at 1 r rs ∷ ns)
    (ap nodes_in (sym (tail-split 1 rs))
    ∙ nodes-append 1 ss (tail-past 1 rs) (tail_of 1 rs) (tail-low 1 rs)
    ∙ ap (λ (ns : List Node). ns ++ nodes_in ss) (low-none (tail_of 1 rs) (tail-low 1 rs)))

-- ---- nodes as runs of moves

moves-run : (us ts ss : List Placed) → RunOf (moves_in ts) (moves_in (us ++ (ts ++ ss)))
unfolding moves_in
moves-run us ts ss =
    record {
      front = moves_in us;
      back = moves_in ss;
      joined = map-append (λ r. r.move) us (ts ++ ss) ∙ ap (λ (ms : List Move). moves_in us ++ ms) (map-append (λ r. r.move) ts ss);
    }

drop-run : (i : ℕ) (rs : List Placed) → RunOf (moves_in (drop i rs)) (moves_in rs)
drop-run i rs =
    subst (λ (ss : List Placed). RunOf (moves_in (drop i rs)) (moves_in ss))
    (ap (λ (ss : List Placed). take i rs ++ ss) (append-nil (drop i rs)) ∙ take-append-drop i rs)
    (moves-run (take i rs) (drop i rs) [])

node-run : (l : ℕ) (r : Placed) (rs : List Placed) → RunOf (moves_in (r ∷ tail_of l rs)) (moves_in (r ∷ rs))
node-run l r rs =
    subst (λ (ss : List Placed). RunOf (moves_in (r ∷ tail_of l rs)) (moves_in (r ∷ ss))) (tail-split l rs)
    (moves-run [] (r ∷ tail_of l rs) (drop (lower l rs) rs))

-- A node that holds moves which stand one after another.
abbrev Of : List Placed → Node → Type 0
Of rs n = NodeIn (moves_in rs) n × Some n

of_cons : (r : Placed) (rs : List Placed) (n : Node) → Of rs n → Of (r ∷ rs) n
unfolding moves_in
of_cons r rs n o = (
  node-wider (record { front = r.move ∷ []; back = []; joined = ap (λ (ms : List Move). r.move ∷ ms) (sym (append-nil (moves_in rs))) }) n o.0,
  o.1,
)

at_of : (l : ℕ) (r : Placed) (rs : List Placed) → Each (Of (r ∷ rs)) (nodes_at l r rs)
unfolding nodes_at node_at node_of moves_in
at_of zero r rs = tt
at_of (suc l) r rs = ((record { made = refl; run = node-run (suc l) r rs }, omega arith), at_of l r rs)

in-of : (rs : List Placed) → Each (Of rs) (nodes_in rs)
unfolding nodes_in
in-of [] = tt
in-of (r ∷ rs) =
    each_append (Of (r ∷ rs)) (nodes_at r.height r rs) (nodes_in rs) (at_of r.height r rs)
    (each-mono (Of rs) (Of (r ∷ rs)) (nodes_in rs) (of_cons r rs) (in-of rs))

left-of : (l : ℕ) (r : Placed) (rs : List Placed) → Each (Of (r ∷ rs)) (nodes_left l (r ∷ rs))
unfolding nodes_left
left-of l r rs =
    each_append (Of (r ∷ rs)) (nodes_at l r rs) (nodes_in rs) (at_of l r rs)
    (each-mono (Of rs) (Of (r ∷ rs)) (nodes_in rs) (of_cons r rs) (in-of rs))

-- ---- the nodes that are opened

module _ (opens : Node → Bool) (d c : ℕ) (down : Downward d c opens) (b : d ≤ row_costs) where
  module _ (l : ℕ) (r : Placed) (rs : List Placed) (fs : Each (Fit c d) (moves_in (r ∷ rs))) (o : ordered d (moves_in (r ∷ rs)) ≡ true) where
    none-under : opens (node_at l r rs) ≡ false → Each (λ n. opens n ≡ false) (nodes_left l (r ∷ tail_of l rs))
    unfolding node_at
    none-under e =
        each-mono (Of (r ∷ tail_of l rs)) (λ n. opens n ≡ false) (nodes_left l (r ∷ tail_of l rs))
        (λ n i. subst (λ (z : Node). opens z ≡ false) i.0.made
        (down (moves_in (r ∷ tail_of l rs)) (run-fit d c b (moves_in (r ∷ rs)) fs o run) (run-ordered d c b (moves_in (r ∷ rs)) fs o run) n.under i.0.run i.1 e))
        (left-of l r (tail_of l rs))
      where
        run : RunOf (moves_in (r ∷ tail_of l rs)) (moves_in (r ∷ rs))
        run = node-run l r rs

    none-opened : opens (node_at l r rs) ≡ false → count opens (nodes_left l (r ∷ rs)) ≡ count opens (nodes_in (drop (lower l rs) rs))
    none-opened e =
        ap (count opens) (left_split l r rs)
        ∙ count-append opens (nodes_left l (r ∷ tail_of l rs)) (nodes_in (drop (lower l rs) rs))
        ∙ ap (λ (n : ℕ). n + count opens (nodes_in (drop (lower l rs) rs))) (count_none opens (nodes_left l (r ∷ tail_of l rs)) (none-under e))
        ∙ zero-add _

-- ---- by places

last-map : (r : Placed) (rs : List Placed) → last_or r.move (moves_in rs) ≡ (last_or r rs).move
unfolding moves_in last_or
last-map r [] = refl
last-map r (s ∷ rs) = last-map s rs

last-take : {A : Type 0} (z x : A) (xs : List A) (k : ℕ) → k ≤ length xs → last_or x (take k xs) ≡ get_or (x ∷ xs) k z
unfolding last_or
last-take z x xs zero h = refl
last-take z x [] (suc k) h = absurd (omega arith)
last-take z x (y ∷ ys) (suc k) h = last-take z y ys k (omega arith)

all_left : (rs : List Placed) (i : ℕ) → nodes_in (drop i rs) ≡ nodes_left (height_at rs i) (drop i rs)
unfolding height_at nodes_in nodes_left
all_left [] zero = refl
all_left [] (suc i) = refl
all_left (r ∷ rs) zero = refl
all_left (r ∷ rs) (suc i) = all_left rs i

-- A row starts as many nodes as its height says.
nodes-at-count : (l : ℕ) (r : Placed) (rs : List Placed) → length (nodes_at l r rs) ≡ l
unfolding nodes_at
nodes-at-count zero r rs = refl
nodes-at-count (suc l) r rs = ap suc (nodes-at-count l r rs)

nodes-few : (rs : List Placed) → Each (λ r. r.height < 256) rs → length (nodes_in rs) ≤ 255 * length rs
unfolding nodes_in
nodes-few [] low = omega arith
nodes-few (r ∷ rs) low =
    omega (arith, length-append (nodes_at r.height r rs) (nodes_in rs), nodes-at-count r.height r rs, low.0, nodes-few rs low.1)

past-few : (rs : List Placed) (i : ℕ) → Each (λ r. r.height < 256) rs → length (nodes_in (drop i rs)) ≤ 255 * length rs
unfolding nodes_in
past-few rs zero low = nodes-few rs low
past-few [] (suc i) low = omega arith
past-few (r ∷ rs) (suc i) low = omega (arith, past-few rs i low.1)

module _ (rs : List Placed) (i : ℕ) (h : i < length rs) (l : ℕ) where
  here : Placed
  here = get_or rs i none

  later : List Placed
  later = drop (suc i) rs

  pub first-node : (node_from rs i l).first ≡ move_at rs i
  unfolding node_at node_of first_or moves_in move_at
  first-node = refl

  pub last-node : (node_from rs i l).last ≡ move_at rs (node_end l i rs - 1)
  unfolding node_at node_of last_or moves_in move_at here later
  last-node =
      let k = lower l later in
      let place : i + k ≡ node_end l i rs - 1 = omega (arith, end-rows l i rs) in
      last-map here (tail_of l later)
      ∙ ap (λ (s : Placed). s.move)
      (ap (last_or here) (tail-take l later)
      ∙ last-take none here later k (lower-le l later)
      ∙ ap (λ (ss : List Placed). get_or ss k none) (sym (drop-cons rs i none h))
      ∙ get_or-drop i rs k none
      ∙ ap (λ (j : ℕ). get_or rs j none) place)

  -- Its moves are a run of all, those from its place up to its end.
  pub node_in : NodeIn (moves_in rs) (node_from rs i l)
  unfolding node_at node_of here later
  node_in =
      record {
        made = refl;
        run = run-trans (node-run l here later) (subst (λ (ss : List Placed). RunOf (moves_in ss) (moves_in rs)) (drop-cons rs i none h) (drop-run i rs));
      }

  pub node-under : (j : ℕ) → i ≤ j → j < node_end l i rs → Memᴰ (move_at rs j) (node_from rs i l).under
  unfolding node_at node_of moves_in move_at here later
  node-under j f g =
      let k = lower l later in
      let t = j - i in
      let back : i + t ≡ j = omega arith in
      let inside : t < suc k = omega (arith, end-rows l i rs) in
      subst (λ (r : Placed). Memᴰ r.move (moves_in (here ∷ tail_of l later)))
      (ap (λ (ts : List Placed). get_or (here ∷ ts) t none) (tail-take l later)
      ∙ get_or-take (suc k) (here ∷ later) t none inside
      ∙ ap (λ (ss : List Placed). get_or ss t none) (sym (drop-cons rs i none h))
      ∙ get_or-drop i rs t none
      ∙ ap (λ (j : ℕ). get_or rs j none) back)
      (Memᴰ.map (λ r. r.move) (mem-at (here ∷ tail_of l later) none t (omega (arith, ap length (tail-take l later), length-take k later, lower-le l later))))

  past-node : drop (lower l (drop (suc i) rs)) (drop (suc i) rs) ≡ drop (node_end l i rs) rs
  past-node = drop-drop (lower l (drop (suc i) rs)) (suc i) rs ∙ ap (λ (j : ℕ). drop j rs) (sym (end-rows l i rs))

  past-left : nodes_in (drop (lower l (drop (suc i) rs)) (drop (suc i) rs)) ≡ nodes_left (height_at rs (node_end l i rs)) (drop (node_end l i rs) rs)
  past-left = ap nodes_in past-node ∙ all_left rs (node_end l i rs)

-- ---- the turns of the search

pub first-height : (t : Tree) → WholeTree t → 0 < length (line_of t) → 0 < height_at (line_of t) 0
unfolding line_of height_at
first-height empty w h = absurd (omega arith)
first-height (rooted k es) w h = omega (arith, ap (λ (rs : List Placed). (get_or rs 0 none).height) (line-cons (suc k) (suc k) es w))

count-hit : {A : Type 0} (p : A → Bool) (x : A) (xs : List A) → p x ≡ true → count p (x ∷ xs) ≡ suc (count p xs)
count-hit p x xs e = count-cons p x xs ∙ ap (λ (b : Bool). cond b (suc (count p xs)) (count p xs)) e

module _ (opens : Node → Bool) where
  pub opened-all : (t : Tree) → WholeTree t → opened_past opens (line_of t) 0 ≡ count opens (nodes_of t)
  unfolding opened_from
  opened-all t w = ap (count opens) (sym (all_left (line_of t) 0) ∙ nodes-line t w)

  -- Heights are bytes.
  pub opened-few : (rs : List Placed) (i : ℕ) → Each (λ r. r.height < 256) rs → opened_past opens rs i ≤ 255 * length rs
  unfolding opened_from count
  opened-few rs i low = omega (arith, select-few opens (nodes_left (height_at rs i) (drop i rs)), ap length (all_left rs i), past-few rs i low)

  pub opened-end : (rs : List Placed) (i l : ℕ) → length rs ≤ i → opened_from opens rs i l ≡ 0
  unfolding opened_from nodes_left count select
  opened-end rs i l h = ap (λ (ss : List Placed). count opens (nodes_left l ss)) (drop_of_length-le rs h)

  module _ (rs : List Placed) (i : ℕ) (h : i < length rs) where
    -- A node that is opened, above the leaves: its first child is next.
    pub opened-upper : (l : ℕ) → opens (node_from rs i (suc l)) ≡ true → opened_from opens rs i (suc l) ≡ suc (opened_from opens rs i l)
    unfolding opened_from nodes_left nodes_at
    opened-upper l e =
        let ns = nodes_left l (get_or rs i none ∷ drop (suc i) rs) in
        ap (λ (ss : List Placed). count opens (nodes_left (suc l) ss)) (drop-cons rs i none h)
        ∙ count-hit opens (node_from rs i (suc l)) ns e
        ∙ ap (λ (ss : List Placed). suc (count opens (nodes_left l ss))) (sym (drop-cons rs i none h))

    -- A leaf that is opened: the search goes on after it.
    pub opened-leaf : opens (node_from rs i 1) ≡ true → opened_from opens rs i 1 ≡ suc (opened_past opens rs (node_end 1 i rs))
    unfolding opened_from
    opened-leaf e =
        let xs = drop (suc i) rs in
        ap (λ (ss : List Placed). count opens (nodes_left 1 ss)) (drop-cons rs i none h)
        ∙ ap (count opens) (left-leaf (get_or rs i none) xs)
        ∙ count-hit opens (node_from rs i 1) (nodes_in (drop (lower 1 xs) xs)) e
        ∙ ap (λ (ns : List Node). suc (count opens ns)) (past-left rs i h 1)

    module _ (d c : ℕ) (down : Downward d c opens) (b : d ≤ row_costs) (fs : Each (Fit c d) (moves_in rs)) (o : ordered d (moves_in rs) ≡ true) where
      -- A node that is passed by, with all below it.
      pub opened-passed : (l : ℕ) → opens (node_from rs i l) ≡ false → opened_from opens rs i l ≡ opened_past opens rs (node_end l i rs)
      unfolding opened_from
      opened-passed l e =
          ap (λ (ss : List Placed). count opens (nodes_left l ss)) (drop-cons rs i none h)
          ∙ none-opened opens d c down b l (get_or rs i none) (drop (suc i) rs)
          (run-fit d c b (moves_in rs) fs o run) (run-ordered d c b (moves_in rs) fs o run) e
          ∙ ap (count opens) (past-left rs i h l)
        where
          run : RunOf (moves_in (get_or rs i none ∷ drop (suc i) rs)) (moves_in rs)
          run = subst (λ (ss : List Placed). RunOf (moves_in ss) (moves_in rs)) (drop-cons rs i none h) (drop-run i rs)
