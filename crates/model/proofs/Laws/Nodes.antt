-- Nodes and their regions: what lies in a region, and that the listed moves are enough to hold a corner against.
use Rattle.std.specs.Prelude.{ℕ, zero, suc, ◌≤◌, ◌<◌, true, false, ◌≡◌, refl, length, get_or}
use Rattle.std.proofs.Math.Bool.{Bool}
use mathlib.Core.List.Memᴰ
use mathlib.Core.List.{List, [], ◌∷◌, ◌++◌, flat_map, append_assoc, append-nil, Memᴰ}
use Rattle.std.proofs.Math.Path.{sym, ap}
use Rattle.std.proofs.Common.{◌∙◌, subst, arith, length-append}
use Rattle.zorder.specs.Between.{row_costs, RowCosts, before, near_of, far_of}
use Rattle.zorder.proofs.Laws.Between.{near-row, near_le, far-ge, near-part, far-part}
use Rattle.model.specs.Basics.{Each, any, first_or, last_or}
use Rattle.model.specs.Moves.{Move, z_before, move_before, ordered}
use Rattle.model.specs.Dominance.{dominates, hides}
use Rattle.model.specs.Lists.{hidden, skyline}
use Rattle.model.specs.Tree.{Entry, Tree, empty, rooted, moves_under, moves_of}
use Rattle.model.specs.Nodes.{Node, node_of, nodes_from, nodes_of, near_corner_of, far_corner_of, opens}
use Rattle.model.specs.Runs.{RunOf, NodeIn}
use Rattle.model.specs.Sound.{Fit}
use Rattle.model.proofs.Laws.Bool.{by_cases, not-flip, or-false-left, same_test, both_ways}
use Rattle.model.proofs.Laws.Basics.{each-mem, each-mono, each_append, each_left, each_right, last_mem, any-mem, any-witness, mem-pos}
use Rattle.model.proofs.Laws.Sorting.{rising-left, rising-right, first-least, last-greatest}
use Rattle.model.proofs.Laws.Order.{move-order}
use Rattle.model.proofs.Laws.Dominance.{dominates-below, below-dominates, row-lengths}
use Rattle.model.proofs.Laws.Hiding.{dominates-hides, hides-nowhere-greater}
use Rattle.model.proofs.Laws.Skyline.{skyline-mem, mem-skyline, skyline-hider}
use Rattle.model.proofs.Laws.Tree.{Filled, filled-full, filled-some}

-- ---- runs of a list

module _ {A : Type 0} where
  pub run-self : (xs : List A) → RunOf xs xs
  run-self xs = record { front = []; back = []; joined = sym (append-nil xs) }

  pub run-mem : {x : A} {xs ys : List A} → RunOf xs ys → Memᴰ x xs → Memᴰ x ys
  run-mem {x} r m = subst (Memᴰ x) (sym r.joined) (Memᴰ.append_right r.front (Memᴰ.append_left r.back m))

  run-around : {xs ys : List A} (us vs : List A) → RunOf xs ys → RunOf xs (us ++ (ys ++ vs))
  run-around {xs} us vs r =
      record {
        front = us ++ r.front;
        back = r.back ++ vs;
        joined = ap (λ (l : List A). us ++ (l ++ vs)) r.joined ∙ simp append_assoc;
      }

  pub run-trans : {xs ys zs : List A} → RunOf xs ys → RunOf ys zs → RunOf xs zs
  run-trans {xs} r s = subst (RunOf xs) (sym s.joined) (run-around s.front s.back r)

module _ {A B : Type 0} (f : A → List B) where
  run-flat_map : {x : A} {xs : List A} → Memᴰ x xs → RunOf (f x) (flat_map f xs)
  unfolding flat_map
  run-flat_map {xs = []} m = elim m [ ]
  run-flat_map {xs = y ∷ ys} (Memᴰ.head e) = record { front = []; back = flat_map f ys; joined = ap (λ (z : A). f z ++ flat_map f ys) (sym e) }
  run-flat_map {xs = y ∷ ys} (Memᴰ.tail m) =
      let r = run-flat_map m in
      record { front = f y ++ r.front; back = r.back; joined = ap (λ (l : List B). f y ++ l) r.joined ∙ sym (append_assoc (f y) r.front _) }

  each-flat_map : (P : B → Type 0) (xs : List A) → ((x : A) → Memᴰ x xs → Each P (f x)) → Each P (flat_map f xs)
  unfolding flat_map
  each-flat_map P [] g = tt
  each-flat_map P (x ∷ xs) g =
      each_append P (f x) (flat_map f xs) (g x (Memᴰ.head refl)) (each-flat_map P xs (λ y m. g y (Memᴰ.tail m)))

-- ---- the nodes of a tree

node-self : (ms : List Move) → NodeIn ms (node_of ms)
unfolding node_of
node-self ms = record { made = refl; run = run-self ms }

pub node-wider : {ms ns : List Move} → RunOf ms ns → (n : Node) → NodeIn ms n → NodeIn ns n
node-wider r n i = record { made = i.made; run = run-trans i.run r }

-- A child's moves among those of its parent.
pub child-run : (h : ℕ) (es : List (Entry (suc h))) {e : Entry (suc h)} → Memᴰ e es → RunOf (moves_under (suc h) e) (moves_under (suc (suc h)) es)
unfolding moves_under
child-run h es = run-flat_map (moves_under (suc h))

pub nodes-in : (h : ℕ) (es : List (Entry h)) → Each (NodeIn (moves_under (suc h) es)) (nodes_from h es)
unfolding nodes_from
nodes-in zero ms = (node-self (moves_under 1 ms), tt)
nodes-in (suc h) es = (
  node-self (moves_under (suc (suc h)) es),
  each-flat_map (nodes_from h) (NodeIn (moves_under (suc (suc h)) es)) es
      (λ e m. each-mono (NodeIn (moves_under (suc h) e)) (NodeIn (moves_under (suc (suc h)) es)) (nodes_from h e) (node-wider (child-run h es m)) (nodes-in h e)),
)

pub tree-nodes-in : (t : Tree) → Each (NodeIn (moves_of t)) (nodes_of t)
unfolding nodes_of moves_of
tree-nodes-in empty = tt
tree-nodes-in (rooted h es) = nodes-in h es

-- No node is empty.
abbrev pub Some : Node → Type 0
Some n = 0 < length n.under

node-some : (h : ℕ) (es : List (Entry h)) → 0 < length es → Each (Filled h) es → Some (node_of (moves_under (suc h) es))
unfolding node_of moves_under flat_map
node-some h [] l f = l
node-some h (e ∷ es) l f = omega (arith, filled-some h e f.0, length-append (moves_under h e) (flat_map (moves_under h) es))

pub nodes-some : (h : ℕ) (es : List (Entry h)) → 0 < length es → Each (Filled h) es → Each Some (nodes_from h es)
unfolding nodes_from
nodes-some zero ms l f = (node-some zero ms l f, tt)
nodes-some (suc h) es l f = (
  node-some (suc h) es l f,
  each-flat_map (nodes_from h) Some es
      (λ e m. let full = filled-full h e (each-mem (Filled (suc h)) f m) in nodes-some h e (omega (arith, full.least)) full.under),
)

-- ---- regions

first-in : (ms : List Move) → 0 < length ms → Memᴰ (node_of ms).first ms
unfolding node_of first_or
first-in [] l = absurd (omega arith)
first-in (m ∷ ms) l = Memᴰ.head refl

last-in : (ms : List Move) → 0 < length ms → Memᴰ (node_of ms).last ms
unfolding node_of last_or
last-in [] l = absurd (omega arith)
last-in (m ∷ ms) l = last_mem m ms

no-earlier : (d : ℕ) (m n : Move) → move_before d m n ≡ false → before d m.costs n.costs ≡ false
unfolding move_before z_before
no-earlier d m n = or-false-left (before d m.costs n.costs) _

-- A run from p' to q' within one from p to q, all by their costs.
record Inside (d : ℕ) (p p' q' q : List ℕ) : Type 0 where
  pub row : RowCosts d q
  pub first : before d p' p ≡ false
  pub order : before d q' p' ≡ false
  pub last : before d q q' ≡ false

module _ (d : ℕ) (l : d ≤ row_costs) {p p' q' q : List ℕ} (s : Inside d p p' q' q) where
  near-inside : (i : ℕ) → get_or (near_of d p q) i 0 ≤ get_or (near_of d p' q') i 0
  near-inside = near-part d p p' q' q l s.row s.first s.order s.last

  far-inside : (i : ℕ) → get_or (far_of d p' q') i 0 ≤ get_or (far_of d p q) i 0
  far-inside = far-part d p p' q' q l s.row s.first s.order s.last

pub corner-row : (d : ℕ) (n : Node) → d ≤ row_costs → RowCosts d (near_corner_of d n)
unfolding near_corner_of
corner-row d n = near-row d n.first.costs n.last.costs

module _ (d c : ℕ) (l : d ≤ row_costs) where
  from_first : (ms : List Move) → Each (Fit c d) ms → ordered d ms ≡ true → {x : Move} → Memᴰ x ms → before d x.costs (node_of ms).first.costs ≡ false
  unfolding ordered node_of first_or
  from_first [] es r m = absurd (Memᴰ.not-nil m)
  from_first (y ∷ ys) es r {x} m =
      no-earlier d x y (first-least (Fit c d) (move_before d) (move-order d c l) y x ys es.0 es.1 r m)

  to_last : (ms : List Move) → Each (Fit c d) ms → ordered d ms ≡ true → {x : Move} → Memᴰ x ms → before d (node_of ms).last.costs x.costs ≡ false
  unfolding ordered node_of last_or
  to_last [] es r m = absurd (Memᴰ.not-nil m)
  to_last (y ∷ ys) es r {x} m =
      no-earlier d (last_or y ys) x (last-greatest (Fit c d) (move_before d) (move-order d c l) y x ys es.0 es.1 r m)

  module _ (ms : List Move) (es : Each (Fit c d) ms) (r : ordered d ms ≡ true) where
    last_row : {x : Move} → Memᴰ x ms → RowCosts d (node_of ms).last.costs
    last_row m = (each-mem (Fit c d) es (last-in ms (mem-pos m))).costs

    -- A move under a node lies in the node's region: the near corner is nowhere greater, the far corner nowhere less.
    module _ {x : Move} (m : Memᴰ x ms) where
      pub near-below : (i : ℕ) → get_or (near_corner_of d (node_of ms)) i 0 ≤ get_or x.costs i 0
      unfolding near_corner_of
      near-below =
          near_le d (node_of ms).first.costs (node_of ms).last.costs x.costs l (last_row m) (each-mem (Fit c d) es m).costs
          (from_first ms es r m) (to_last ms es r m)

      pub far-above : (i : ℕ) → get_or x.costs i 0 ≤ get_or (far_corner_of d (node_of ms)) i 0
      unfolding far_corner_of
      far-above =
          far-ge d (node_of ms).first.costs (node_of ms).last.costs x.costs l (last_row m) (each-mem (Fit c d) es m).costs
          (from_first ms es r m) (to_last ms es r m)

    module _ {ns : List Move} (run : RunOf ns ms) where
      pub run-fit : Each (Fit c d) ns
      run-fit = each_left (Fit c d) ns run.back (each_right (Fit c d) run.front (ns ++ run.back) (subst (Each (Fit c d)) run.joined es))

      pub run-ordered : ordered d ns ≡ true
      unfolding ordered
      run-ordered =
          rising-left (move_before d) ns run.back
          (rising-right (move_before d) run.front (ns ++ run.back) (subst (λ (xs : List Move). ordered d xs ≡ true) run.joined r))

    -- The region of a run of the moves lies in theirs.
    module _ {ns : List Move} (run : RunOf ns ms) (some : 0 < length ns) where
      run_inside : Inside d (node_of ms).first.costs (node_of ns).first.costs (node_of ns).last.costs (node_of ms).last.costs
      run_inside =
          let first = first-in ns some in
          let last = last-in ns some in
          record {
            row = last_row (run-mem run last);
            first = from_first ms es r (run-mem run first);
            order = from_first ns (run-fit run) (run-ordered run) last;
            last = to_last ms es r (run-mem run last);
          }

      pub near-run : (i : ℕ) → get_or (near_corner_of d (node_of ms)) i 0 ≤ get_or (near_corner_of d (node_of ns)) i 0
      unfolding near_corner_of
      near-run = near-inside d l run_inside

      pub far-run : (i : ℕ) → get_or (far_corner_of d (node_of ns)) i 0 ≤ get_or (far_corner_of d (node_of ms)) i 0
      unfolding far_corner_of
      far-run = far-inside d l run_inside

  module _ (ms : List Move) (es : Each (Fit c d) ms) (r : ordered d ms ≡ true) {n : Node} (i : NodeIn ms n) where
    module _ {x : Move} (m : Memᴰ x n.under) where
      pub node-near : (k : ℕ) → get_or (near_corner_of d n) k 0 ≤ get_or x.costs k 0
      node-near k =
          subst (λ (z : Node). get_or (near_corner_of d z) k 0 ≤ get_or x.costs k 0) i.made
          (near-below n.under (run-fit ms es r i.run) (run-ordered ms es r i.run) m k)

      pub node-far : (k : ℕ) → get_or x.costs k 0 ≤ get_or (far_corner_of d n) k 0
      node-far k =
          subst (λ (z : Node). get_or x.costs k 0 ≤ get_or (far_corner_of d z) k 0) i.made
          (far-above n.under (run-fit ms es r i.run) (run-ordered ms es r i.run) m k)

  -- ---- the list

  -- what hides a move is nowhere greater, and what dominates it hides it
  hides-below : {m n : Move} → Fit c d m → Fit c d n → hides d m n ≡ true → (i : ℕ) → i < d → get_or m.costs i 0 ≤ get_or n.costs i 0
  hides-below {m} {n} f g = hides-nowhere-greater d m n (row-lengths f.costs g.costs)

  dominates-hidden : {m : Move} (n : Move) {ms : List Move} → Memᴰ m ms → dominates d m.costs n.costs ≡ true → hidden d ms n ≡ true
  unfolding hidden
  dominates-hidden {m} n k e = any-mem (λ p. hides d p n) k (dominates-hides d m n e)

  -- A node is opened if a move lies in its region that no move held against it hides.
  pub unhidden-opened : (all : List Move) → Each (Fit c d) all → (n : Node) (x : Move) → Fit c d x
      → ((i : ℕ) → get_or (near_corner_of d n) i 0 ≤ get_or x.costs i 0) → hidden d all x ≡ false → opens d all n ≡ true
  unfolding opens
  unhidden-opened all es n x f near h = not-flip (any by all) (by_cases (any by all) dominated (λ e. e))
    where
      by : Move → Bool
      by p = dominates d p.costs (near_corner_of d n)

      dominated : any by all ≡ true → any by all ≡ false
      dominated e =
          let w = any-witness by all e in
          let p = row-lengths (each-mem (Fit c d) es w.1).costs (corner-row d n l) in
          let q = row-lengths (corner-row d n l) f.costs in
          both_ways (dominates-hidden x w.1 (dominates-below d w.0.costs (near_corner_of d n) x.costs p q w.2 (λ j b. near j))) h

  module _ (ms : List Move) (es : Each (Fit c d) ms) (r : ordered d ms ≡ true) where
    listed-dominates : (q : List ℕ) → RowCosts d q → {m : Move} → Memᴰ m ms → dominates d m.costs q ≡ true
        → any (λ n. dominates d n.costs q) (skyline d ms) ≡ true
    listed-dominates q k {m} i e =
        by_cases (hidden d ms m)
        (λ h. let w = skyline-hider d c l ms es r m fit h in
        let hider = each-mem (Fit c d) es (skyline-mem d ms w.listed).0 in
        any-mem (λ n. dominates d n.costs q) w.listed
        (below-dominates d w.hider.costs m.costs q (row-lengths hider.costs fit.costs) (row-lengths fit.costs k)
        (hides-below hider fit w.hiding) e))
        (λ h. any-mem (λ n. dominates d n.costs q) (mem-skyline d i h) e)
      where
        fit : Fit c d m
        fit = each-mem (Fit c d) es i

    -- It is enough to hold a corner against the listed moves.
    pub listed-enough-corner : (q : List ℕ) → RowCosts d q
        → any (λ m. dominates d m.costs q) ms ≡ any (λ m. dominates d m.costs q) (skyline d ms)
    listed-enough-corner q k =
        same_test (any by ms) (any by (skyline d ms))
        (λ e. let w = any-witness by ms e in listed-dominates q k w.1 w.2)
        (λ e. let w = any-witness by (skyline d ms) e in any-mem by (skyline-mem d ms w.1).0 w.2)
      where
        by : Move → Bool
        by m = dominates d m.costs q

    -- a node with a listed move under it
    node-opened : {n : Node} {x : Move} → NodeIn ms n → Memᴰ x n.under → Memᴰ x (skyline d ms) → opens d ms n ≡ true
    node-opened {n} {x} i m k =
        let s = skyline-mem d ms k in unhidden-opened ms es n x (each-mem (Fit c d) es s.0) (node-near ms es r i m) s.1

  -- ---- trees

  module _ (t : Tree) (es : Each (Fit c d) (moves_of t)) (r : ordered d (moves_of t) ≡ true) {n : Node} (k : Memᴰ n (nodes_of t))
      {x : Move} (m : Memᴰ x n.under) where
    here : NodeIn (moves_of t) n
    here = each-mem (NodeIn (moves_of t)) (tree-nodes-in t) k

    -- Every move under a node lies in the node's region.
    pub tree-near : (i : ℕ) → get_or (near_corner_of d n) i 0 ≤ get_or x.costs i 0
    tree-near = node-near (moves_of t) es r here m

    pub tree-far : (i : ℕ) → get_or x.costs i 0 ≤ get_or (far_corner_of d n) i 0
    tree-far = node-far (moves_of t) es r here m

    -- Every node with a listed move under it is opened: its leaf and all above.
    pub listed-opened : Memᴰ x (skyline d (moves_of t)) → opens d (moves_of t) n ≡ true
    listed-opened = node-opened (moves_of t) es r here m
