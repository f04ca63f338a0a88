-- The search through the nodes of sound memory: which nodes it opens, and its turns.
use Rattle.std.specs.Prelude.{ℕ, suc, ◌+◌, ◌*◌, ◌-◌, ◌≤◌, ◌<◌, true, false, ◌&&◌, ◌||◌, List, ◌≡◌, eqb, leb, length, take}
use Rattle.std.proofs.Math.Bool.{Bool, not}
use Rattle.std.proofs.Math.Path.{sym, ap, ap₂}
use Rattle.std.proofs.Common.{◌∙◌, subst, zero-add, le_refl, arith, ne_eqb, le-leb, leb-false}
use Rattle.std.proofs.Math.Decide.{dec_lt}
use Rattle.std.proofs.Math.ListN.{get_or-eq_default}
use Rattle.zorder.specs.Between.{RowCosts, near_of, far_of}
use Rattle.model.specs.Basics.{Each, any, count}
use Rattle.model.specs.Moves.{Move, ordered}
use Rattle.model.specs.Dominance.{nowhere_greater, dominates}
use Rattle.model.specs.Lists.{skyline}
use Rattle.model.specs.Tree.{Tree}
use Rattle.model.specs.Nodes.{Node, nodes_of, near_corner_of, far_corner_of, opens, nodes_opened}
use Rattle.model.specs.Sound.{Fit}
use Rattle.model.proofs.Laws.Bool.{by_cases, and_left, and_right, and_both, or_left, or_right}
use Rattle.model.proofs.Laws.Dominance.{nowhere-below, dominates-below, row-lengths}
use Rattle.model.proofs.Laws.Tree.{ruled-filled}
use Rattle.model.proofs.Laws.Nodes.{corner-row, listed-enough-corner}
use Rattle.model.proofs.Laws.Opening.{Downward, Upward, corners-downward}
use Rattle.line.specs.Line.{Placed, none, moves_in, heights_in}
use Rattle.line.specs.Places.{move_at, height_at, node_end}
use Rattle.line.specs.Search.{node_from, opened_from, opened_past}
use Rattle.line.specs.Laws.Line.{WholeTree, tree-whole}
use Rattle.line.specs.Laws.Places.{height-among, length-heights, end-high}
use Rattle.line.specs.Laws.Opened.{first-node, last-node, node_in, node-under, first-height, opened-all, opened-few, opened-end, opened-upper, opened-leaf, opened-passed}
use Rattle.promises.specs.Layout.{dimension_in, height_place, height_in, move_in, placed_in, line_from}
use Rattle.promises.proofs.Laws.Tab.{each-tab}
use Rattle.promises.specs.Sound.{Stands}
use Rattle.promises.specs.Run.{Bytes}
use Rattle.memory.specs.Room.{ReadableRows, Ordered}
use Rattle.memory.specs.Tests.{any_to, is_listed}
use Rattle.memory.specs.Laws.Held.{held-readable, held-line, held-moves, held-order, held-ordered, held_any, held-fit, held-fit-at}
use Rattle.memory.specs.Laws.Places.{any_to-mono, any_to-ext}
use Rattle.memory.specs.Laws.Lines.{length-line, move_at-line, height_at-line}
use Rattle.nodes.specs.Places.{NodeEnd}
use Rattle.nodes.specs.Laws.Corners.{corner-before}
use Rattle.nodes.specs.Laws.Heights.{end_line}
use Rattle.nodes.specs.Search.{dominates_corner, corner_dominated, goes_within, corner_at, opens_places, opens_at, LevelAt, NodesFrom, Passed, LeafRows, SoundRows, Opened}
use Rattle.nodes.specs.declared.nodes.Leaf.{Leaf}

-- ---- sound memory

-- What the search uses of it.
pub record Searchable (c d n : ℕ) (m : List ℕ) : Type 0 where
  pub readable : ReadableRows c d n m
  pub fits : Each (Fit c d) (moves_in (line_from c d n m))
  pub fit_at : (j : ℕ) → j < n → Fit c d (move_in c d m j)
  pub order : ordered d (moves_in (line_from c d n m)) ≡ true
  pub in_order : Ordered c d n m
  pub listed : (p : Move → Bool) → any p (skyline d (moves_in (line_from c d n m))) ≡ any_to (λ i. is_listed c m i && p (move_in c d m i)) n
  pub first : 0 < n → 0 < height_at (line_from c d n m) 0
  pub low : Each (λ r. r.height < 256) (line_from c d n m)

stands-whole : (m : List ℕ) (t : Tree) → Stands m t → WholeTree t
stands-whole m t s = tree-whole t (ruled-filled (dimension_in m) t s.rules)

first-held : {c d n : ℕ} {m : List ℕ} → SoundRows c d n m → 0 < n → 0 < height_at (line_from c d n m) 0
first-held {c} {d} {n} {m} s h =
    let t = s.sound.tree in
    let line = held-line c d n m s t s.sound.stands in
    subst (λ (rs : List Placed). 0 < height_at rs 0) (sym line)
    (first-height t (stands-whole m t s.sound.stands) (omega (arith, ap length line, length-line c d n m)))

pub sound-searchable : (c d n : ℕ) (m : List ℕ) → SoundRows c d n m → Bytes m → Searchable c d n m
unfolding Bytes line_from placed_in height_in
sound-searchable c d n m s b =
    record {
      readable = held-readable s;
      fits = held-fit c d n m s b;
      fit_at = held-fit-at c d n m s b;
      order = held-order c d n m s;
      in_order = held-ordered c d n m s;
      listed = held_any c d n m s;
      first = first-held s;
      low = each-tab (placed_in c d m) (λ r. r.height < 256) n (λ i _. b (height_place c i));
    }

level-height : (c d n : ℕ) (m : List ℕ) (i k : ℕ) → LevelAt c n m i k → k ≡ height_at (line_from c d n m) i
unfolding height_at
level-height c d n m i k v = go (dec_lt i n)
  where
    go : Dec (i < n) → k ≡ height_at (line_from c d n m) i
    go (yes h) = v.inside h ∙ sym (height_at-line c d n m i h)
    go (no h) =
        v.outside (omega arith)
        ∙ ap (λ (r : Placed). r.height) (sym (get_or-eq_default (line_from c d n m) none {n = i} (omega (arith, length-line c d n m))))

-- ---- which nodes are opened

module _ {c d n : ℕ} {m : List ℕ} (s : Searchable c d n m) where
  within-up : (goes : ℕ) → Upward d (goes_within c d goes n m)
  unfolding goes_within
  within-up goes p q f g le e =
      let x = (move_in c d m goes).costs in
      let in-q = nowhere_greater (take d x) (take d q) in
      by_cases (leb n goes) (or_left (leb n goes) in-q)
      (λ h. or_right (leb n goes) in-q
      (nowhere-below d x p q (row-lengths (s.fit_at goes (leb-false n goes h)).costs f)
      (sym (ap (λ (t : Bool). t || nowhere_greater (take d x) (take d p)) h) ∙ e) (λ i _. le i)))

  dominated-up : (goes : ℕ) → Upward d (corner_dominated c d goes n m)
  unfolding corner_dominated
  dominated-up goes p q f g le =
      any_to-mono (dominates_corner c d goes m p) (dominates_corner c d goes m q) n
      (λ j l h.
      let x = (move_in c d m j).costs in
      let other = not (eqb j goes) in
      let rest = and_right (is_listed c m j) (other && dominates d x p) h in
      and_both (is_listed c m j) (other && dominates d x q) (and_left (is_listed c m j) (other && dominates d x p) h)
      (and_both other (dominates d x q) (and_left other (dominates d x p) rest)
      (dominates-below d x p q (row-lengths (s.fit_at j l).costs f) (row-lengths f g) (and_right other (dominates d x p) rest) (λ i _. le i))))

  -- Under a node that is not opened none is.
  opens-down : (goes : ℕ) → Downward d c (opens_at c d goes n m)
  unfolding opens_at
  opens-down goes =
      corners-downward d c s.readable.dimension (goes_within c d goes n m) (corner_dominated c d goes n m) (within-up goes) (dominated-up goes)

  -- Where none goes: the flags are the list, and it is enough to hold a corner against the listed moves.
  listed-corner : (q : List ℕ) → RowCosts d q → corner_dominated c d n n m q ≡ any (λ x. dominates d x.costs q) (moves_in (line_from c d n m))
  unfolding corner_dominated
  listed-corner q k =
      any_to-ext (λ j. is_listed c m j && (not (eqb j n) && by (move_in c d m j))) (λ j. is_listed c m j && by (move_in c d m j)) n
      (λ j l. ap (λ (t : Bool). is_listed c m j && (not t && by (move_in c d m j))) (ne_eqb j n (λ e. omega arith)))
      ∙ sym (s.listed by)
      ∙ sym (listed-enough-corner d c s.readable.dimension (moves_in (line_from c d n m)) s.fits s.order q k)
    where
      by : Move → Bool
      by x = dominates d x.costs q

  opens-list : (z : Node) → opens_at c d n n m z ≡ opens d (moves_in (line_from c d n m)) z
  unfolding opens_at goes_within opens
  opens-list z =
      ap₂ (λ (a b : Bool). (a || nowhere_greater (take d (move_in c d m n).costs) (take d (far_corner_of d z))) && not b)
      (le-leb n n (le_refl n)) (listed-corner (near_corner_of d z) (corner-row d z s.readable.dimension))

-- ---- the way to the next leaf

-- Where a search from place `from` on stands: at level l of place i, with some nodes opened. These and those that it opens from
-- there on are all, and the places before lie under nodes that are not opened.
pub record Searching (c d goes n : ℕ) (m : List ℕ) (from opened i l : ℕ) : Type 0 where
  pub after : from ≤ i
  pub inside : i ≤ n
  pub level : i < n → 0 < l
  pub total : opened_past (opens_at c d goes n m) (line_from c d n m) from ≡ opened + opened_from (opens_at c d goes n m) (line_from c d n m) i l
  pub passed : (j : ℕ) → from ≤ j → j < i → Passed (opens_at c d goes n m) (line_from c d n m) j

module _ {c d n : ℕ} {m : List ℕ} (s : Searchable c d n m) (goes from : ℕ) where
  abbrev rs : List Placed
  rs = line_from c d n m

  abbrev test : Node → Bool
  test = opens_at c d goes n m

  pub search-start : NodesFrom c n m from → (k : ℕ) → LevelAt c n m from k → Searching c d goes n m from 0 from k
  search-start w k v =
      record {
        after = le_refl from;
        inside = w.within;
        level = λ h. omega (arith, v.inside h, w.starts h);
        total = omega (arith, ap (opened_from test rs from) (level-height c d n m from k v));
        passed = λ j f g. absurd (omega arith);
      }

  pub search-few : (opened i l : ℕ) → Searching c d goes n m from opened i l → opened ≤ 255 * n
  search-few opened i l w = omega (arith, w.total, opened-few test rs from s.low, length-line c d n m)

  module _ (opened i l e : ℕ) (w : Searching c d goes n m from opened i l) (h : i < n) (f : NodeEnd c n l i m e) where
    -- The place is one of the line's.
    placed : i < length rs
    placed = omega (arith, length-line c d n m)

    corner-node : (corner : ℕ → List ℕ → List ℕ → List ℕ) → corner_at corner c d m i e ≡ corner d (node_from rs i l).first.costs (node_from rs i l).last.costs
    unfolding corner_at
    corner-node corner =
        ap₂ (λ (x y : Move). corner d x.costs y.costs)
        (sym (move_at-line c d n m i h) ∙ sym (first-node rs i placed l))
        (sym (move_at-line c d n m (e - 1) (omega arith)) ∙ ap (λ (k : ℕ). move_at rs (k - 1)) (end_line d f) ∙ sym (last-node rs i placed l))

    opens-node : opens_places c d goes n m i e ≡ test (node_from rs i l)
    unfolding opens_places opens_at near_corner_of far_corner_of
    opens-node =
        ap₂ (λ (a b : Bool). a && not b) (ap (goes_within c d goes n m) (corner-node far_of))
        (corner-before c d n m s.readable.dimension s.fit_at s.in_order i e f.after f.within goes
        ∙ ap (corner_dominated c d goes n m) (corner-node near_of))

    end-height : e < n → l ≤ height_at rs e
    end-height j =
        omega
        (arith, ap (height_at rs) (end_line d f), end_line d f, end-high l (heights_in rs) i (omega (arith, end_line d f, length-heights rs, length-line c d n m)), height-among rs (node_end l i rs))

    module _ (opens : Bool) (p : opens ≡ opens_places c d goes n m i e) where
      opens-is : opens ≡ test (node_from rs i l)
      opens-is = p ∙ opens-node

      -- A node that is passed by: the search goes on after it.
      pub search-on : opens ≡ false → (k : ℕ) → LevelAt c n m e k → Searching c d goes n m from opened e k
      search-on q k v =
          record {
            after = omega (arith, w.after, f.after);
            inside = f.within;
            level = λ j. omega (arith, w.level h, high, end-height j);
            total =
                w.total
                ∙ ap (λ (k : ℕ). opened + k)
                (opened-passed test rs i placed d c (opens-down s goes) s.readable.dimension s.fits s.order l (sym opens-is ∙ q)
                ∙ ap (opened_past test rs) (sym (end_line d f))
                ∙ ap (opened_from test rs e) (sym high));
            passed = λ j a g. passed j a g (dec_lt j i);
          }
        where
          high : k ≡ height_at rs e
          high = level-height c d n m e k v

          passed : (j : ℕ) → from ≤ j → j < e → Dec (j < i) → Passed test rs j
          passed j a g (yes y) = w.passed j a y
          passed j a g (no y) =
              record {
                node = node_from rs i l;
                within = node_in rs i placed l;
                under = node-under rs i placed l j (omega arith) (omega (arith, end_line d f));
                unopened = sym opens-is ∙ q;
              }

      -- A node above the leaves that is opened: its first child is next.
      pub search-down : opens ≡ true → (l ≡ 1 → ⊥) → Searching c d goes n m from (opened + 1) i (l - 1)
      search-down q up =
          let back : suc (l - 1) ≡ l = omega (arith, w.level h) in
          record {
            after = w.after;
            inside = w.inside;
            level = λ j. omega (arith, w.level h, up);
            total = omega (arith, w.total, subst (λ (x : ℕ). test (node_from rs i x) ≡ true → opened_from test rs i x ≡ suc (opened_from test rs i (l - 1))) back (opened-upper test rs i placed (l - 1)) (sym opens-is ∙ q));
            passed = w.passed;
          }

      -- A leaf that is opened.
      pub search-leaf : opens ≡ true → l ≡ 1 → LeafRows c d goes n m from (record { start = i; end = e; opened = opened + 1 })
      search-leaf q leaf =
          record {
            next = record {
              from = w.after;
              order = omega (arith, f.after);
              further = λ g. omega (arith, w.after, f.after);
              total = omega (arith, w.total, past);
              passed = w.passed;
            };
            after = record { within = f.within; starts = λ g. omega (arith, end-height g, height_at-line c d n m e g) };
          }
        where
          past : opened_from test rs i l ≡ suc (opened_past test rs e)
          past =
              subst (λ (x : ℕ). test (node_from rs i x) ≡ true → opened_from test rs i x ≡ suc (opened_past test rs (node_end x i rs))) (sym leaf) (opened-leaf test rs i placed) (sym opens-is ∙ q)
              ∙ ap (λ (k : ℕ). suc (opened_past test rs k)) (sym (end_line d f))

  -- No leaf is left.
  pub search-end : (opened i l : ℕ) → Searching c d goes n m from opened i l → n ≤ i → LeafRows c d goes n m from (record { start = n; end = n; opened = opened })
  search-end opened i l w h =
      record {
        next = record {
          from = omega (arith, w.after, w.inside);
          order = le_refl n;
          further = λ g. g;
          total =
              omega
              (arith, w.total, opened-end test rs i l (omega (arith, length-line c d n m)), opened-end test rs n (height_at rs n) (omega (arith, length-line c d n m)));
          passed = λ j a g. w.passed j a (omega (arith, w.inside));
        };
        after = record { within = le_refl n; starts = λ g. absurd (omega arith) };
      }

-- ---- leaf after leaf

-- The nodes opened before place i, where nodes start, and those that are opened from there on are all.
pub record Counting (c d goes n : ℕ) (m : List ℕ) (opened i : ℕ) : Type 0 where
  pub start : NodesFrom c n m i
  pub total : opened_past (opens_at c d goes n m) (line_from c d n m) 0 ≡ opened + opened_past (opens_at c d goes n m) (line_from c d n m) i

module _ {c d goes n : ℕ} {m : List ℕ} where
  pub counting-none : Searchable c d n m → Counting c d goes n m 0 0
  counting-none s =
      record {
        start = record { within = omega arith; starts = λ h. omega (arith, s.first h, height_at-line c d n m 0 h) };
        total = sym (zero-add _);
      }

  pub counting-leaf : (opened i : ℕ) (r : Leaf) → Counting c d goes n m opened i → LeafRows c d goes n m i r → Counting c d goes n m (opened + r.opened) r.end
  counting-leaf opened i r w leaf =
      record {
        start = leaf.after;
        total = omega (arith, w.total, leaf.next.total);
      }

  pub counting-few : Searchable c d n m → (opened i : ℕ) (r : Leaf) → Counting c d goes n m opened i → LeafRows c d goes n m i r → opened + r.opened ≤ 255 * n
  counting-few s opened i r w leaf =
      omega (arith, w.total, leaf.next.total, opened-few (opens_at c d goes n m) (line_from c d n m) 0 s.low, length-line c d n m)

  pub counting-all : (opened i : ℕ) → Counting c d goes n m opened i → n ≤ i → opened ≡ opened_past (opens_at c d goes n m) (line_from c d n m) 0
  counting-all opened i w h =
      omega
      (arith, w.total, opened-end (opens_at c d goes n m) (line_from c d n m) i (height_at (line_from c d n m) i) (omega (arith, length-line c d n m)))

-- All of them, for every tree that stands in the memory.
pub opened-nodes : {c d n : ℕ} {m : List ℕ} (goes : ℕ) → SoundRows c d n m → (t : Tree) → Stands m t
    → opened_past (opens_at c d goes n m) (line_from c d n m) 0 ≡ count (opens_at c d goes n m) (nodes_of t)
opened-nodes {c} {d} {n} {m} goes s t x =
    ap (λ (rs : List Placed). opened_past (opens_at c d goes n m) rs 0) (held-line c d n m s t x)
    ∙ opened-all (opens_at c d goes n m) t (stands-whole m t x)

pub list-opened : {c d n : ℕ} {m : List ℕ} → SoundRows c d n m → Bytes m → (opened i : ℕ) → Counting c d n n m opened i → n ≤ i → Opened d m opened
unfolding nodes_opened
list-opened {c} {d} {n} {m} s b opened i w h =
    record {
      is = λ t x.
          counting-all opened i w h
          ∙ opened-nodes n s t x
          ∙ (λ j. count (λ z. opens-list (sound-searchable c d n m s b) z j) (nodes_of t))
          ∙ ap (λ (ms : List Move). count (opens d ms) (nodes_of t)) (held-moves c d n m s t x);
    }
