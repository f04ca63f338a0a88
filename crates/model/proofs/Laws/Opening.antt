-- Which nodes a search opens, by their corners: under a node that is not opened none is, and over a move that a withdrawal
-- brings up all are.
use Prim.Native.Nat.{ℕ, suc, ◌≤◌, ◌<◌}
use Rattle.std.specs.Prelude.{Bool, false, ◌&&◌, ◌||◌, ◌≡◌, refl, length, get_or, take}
use Rattle.std.proofs.Math.Bool.{true, not, and-true}
use mathlib.Core.List.{List, map, Memᴰ}
use Rattle.std.proofs.Math.Path.{sym, ap}
use Rattle.std.proofs.Common.{◌∙◌, subst, eqb-true}
use Rattle.std.proofs.Math.Nat.{le_trans}
use Rattle.std.proofs.Math.Dec.{eqb}
use Rattle.zorder.specs.Between.{row_costs, RowCosts}
use Rattle.zorder.proofs.Laws.Between.{far-row}
use Rattle.model.specs.Basics.{Each, any, distinct, equal}
use Rattle.model.specs.Moves.{Move, row_of, entered, move_before, ordered}
use Rattle.model.specs.Dominance.{nowhere_greater, somewhere_less, better, dominates, equal_costs, hides}
use Rattle.model.specs.Lists.{hidden, skyline}
use Rattle.model.specs.Tree.{Entry, Tree, moves_under, moves_of}
use Rattle.model.specs.Nodes.{Node, node_of, nodes_from, nodes_of, near_corner_of, far_corner_of, opens}
use Rattle.model.specs.Withdrawing.{without, costs_on}
use Rattle.model.specs.Notice.{notice_of}
use Rattle.model.specs.Calls.{Board, on_board, withdraw, changed_moves, changed, list_of, change_notice}
use Rattle.model.specs.Opening.{opens_for}
use Rattle.model.specs.Sound.{Fit, SoundBoard}
use Rattle.model.proofs.Laws.Bool.{by_cases, both_ways, and_both, and_left, and_right, and-given, or_right, not-flip, not_back}
use Rattle.model.proofs.Laws.Basics.{each-mem, mem-each, each-mono, each-select, any-mem, any-mono, any_none}
use Rattle.model.proofs.Laws.Order.{dimension-most, distinct-select, costs-on-fit, costs-on-own}
use Rattle.model.proofs.Laws.Dominance.{places-nowhere-greater, take-le, take-same-length, nowhere-below, dominates-below, row-lengths}
use Rattle.model.proofs.Laws.Hiding.{better-or-equal, hides-nowhere-greater}
use Rattle.model.proofs.Laws.Skyline.{HiderIn, skyline-mem, mem-skyline, skyline-hider}
use Rattle.model.proofs.Laws.Changes.{without-number, mem-without}
use Rattle.model.proofs.Laws.Notice.{notice-entered}
use Rattle.model.proofs.Laws.Tree.{Filled}
use Rattle.model.specs.Runs.{RunOf, NodeIn}
use Rattle.model.proofs.Laws.Nodes.{nodes-in, Some, nodes-some, child-run, near-run, far-run, corner-row, unhidden-opened, tree-near, tree-far}

-- What fails for the node of some moves fails for that of each run of them, so for all nodes below.
abbrev pub Downward : ℕ → ℕ → (Node → Bool) → Type 0
Downward d c opens =
    (ms : List Move) → Each (Fit c d) ms → ordered d ms ≡ true → (ns : List Move) → RunOf ns ms → 0 < length ns
    → opens (node_of ms) ≡ false → opens (node_of ns) ≡ false

-- A test of rows that holds of all that are nowhere less.
abbrev pub Upward : ℕ → (List ℕ → Bool) → Type 0
Upward d test =
    (p q : List ℕ) → RowCosts d p → RowCosts d q → ((i : ℕ) → get_or p i 0 ≤ get_or q i 0) → test p ≡ true → test q ≡ true

pub far-corner-row : (d : ℕ) (z : Node) → d ≤ row_costs → RowCosts d (far_corner_of d z)
unfolding far_corner_of
far-corner-row d z = far-row d z.first.costs z.last.costs

-- Far corners grow and near corners fall towards the root.
pub corners-downward : (d c : ℕ) → d ≤ row_costs → (within dominated : List ℕ → Bool) → Upward d within → Upward d dominated
    → Downward d c (λ z. within (far_corner_of d z) && not (dominated (near_corner_of d z)))
corners-downward d c l within dominated up down ms fits order ns run some e =
    by_cases (within (far ns) && not (dominated (near ns))) (λ h. both_ways (opened h) e) (λ h. h)
  where
    near : List Move → List ℕ
    near ms = near_corner_of d (node_of ms)

    far : List Move → List ℕ
    far ms = far_corner_of d (node_of ms)

    undominated : dominated (near ns) ≡ false → dominated (near ms) ≡ false
    undominated h =
        by_cases (dominated (near ms))
        (λ b. both_ways (down (near ms) (near ns) (corner-row d (node_of ms) l) (corner-row d (node_of ns) l) (near-run d c l ms fits order run some) b) h)
        (λ b. b)

    opened : (within (far ns) && not (dominated (near ns))) ≡ true → (within (far ms) && not (dominated (near ms))) ≡ true
    opened h =
        and_both (within (far ms)) (not (dominated (near ms)))
        (up (far ns) (far ms) (far-corner-row d (node_of ns) l) (far-corner-row d (node_of ms) l) (far-run d c l ms fits order run some) (and_left (within (far ns)) (not (dominated (near ns))) h))
        (not-flip (dominated (near ms)) (undominated (not_back (dominated (near ns)) (and_right (within (far ns)) (not (dominated (near ns))) h))))

-- A node of the nest that is not opened, and all below it.
pub below-unopened : (d c : ℕ) (opens : Node → Bool) → Downward d c opens → (h : ℕ) (es : List (Entry h)) → Each (Fit c d) (moves_under (suc h) es)
    → ordered d (moves_under (suc h) es) ≡ true → 0 < length es → Each (Filled h) es
    → opens (node_of (moves_under (suc h) es)) ≡ false → Each (λ z. opens z ≡ false) (nodes_from h es)
below-unopened d c opens down h es fits order some full e =
    mem-each (λ z. opens z ≡ false) (nodes_from h es)
    (λ z m.
    let i = each-mem (NodeIn (moves_under (suc h) es)) (nodes-in h es) m in
    subst (λ (y : Node). opens y ≡ false) i.made
    (down (moves_under (suc h) es) fits order z.under i.run (each-mem Some (nodes-some h es some full) m) e))

dominated-upward : (d c : ℕ) (ms : List Move) → Each (Fit c d) ms → Upward d (λ p. any (λ m. dominates d m.costs p) ms)
dominated-upward d c ms es p q h g f =
    any-mono (λ m. dominates d m.costs p) (λ m. dominates d m.costs q) ms
    (λ m k e. dominates-below d m.costs p q (row-lengths (each-mem (Fit c d) es k).costs h) (row-lengths h g) e (λ i _. f i))

pub list-downward : (d c : ℕ) → d ≤ row_costs → (ms : List Move) → Each (Fit c d) ms → Downward d c (opens d ms)
unfolding opens
list-downward d c l ms es = corners-downward d c l (λ p. true) (λ p. any (λ m. dominates d m.costs p) ms) (λ p q h g f e. e) (dominated-upward d c ms es)

-- ---- the nodes that a withdrawal opens

-- What dominates a row or equals it is nowhere greater, and the other way round.
module _ (d : ℕ) (p q : List ℕ) (n : length p ≡ length q) where
  pub dominates-or-equals : (dominates d p q || equal_costs d p q) ≡ nowhere_greater (take d p) (take d q)
  unfolding dominates equal_costs
  dominates-or-equals =
      ap (λ (b : Bool). better (take d p) (take d q) || b) (sym (and-true (equal (take d p) (take d q))))
      ∙ sym (better-or-equal (take d p) (take d q) true (take-same-length d p q n))
      ∙ and-given (nowhere_greater (take d p) (take d q)) (somewhere_less (take d p) (take d q) || true)
      (λ _. or_right (somewhere_less (take d p) (take d q)) true refl)

  places-dominate-or-equal : ((i : ℕ) → i < d → get_or p i 0 ≤ get_or q i 0) → (dominates d p q || equal_costs d p q) ≡ true
  places-dominate-or-equal f = dominates-or-equals ∙ places-nowhere-greater (take d p) (take d q) (take-le d p q f)

or-equal-upward : (d : ℕ) (x : List ℕ) → RowCosts d x → Upward d (λ p. dominates d x p || equal_costs d x p)
or-equal-upward d x k p q h g f e =
    dominates-or-equals d x q (row-lengths k g)
    ∙ nowhere-below d x p q (row-lengths k h) (sym (dominates-or-equals d x p (row-lengths k h)) ∙ e) (λ i _. f i)

module _ (d c : ℕ) (l : d ≤ row_costs) (ms : List Move) (es : Each (Fit c d) ms) (n : ℕ) (on : on_board n ms ≡ true) where
  pub for-downward : Downward d c (opens_for d ms n)
  unfolding opens_for opens without
  for-downward =
      corners-downward d c l (λ p. dominates d x p || equal_costs d x p) (λ p. any (λ m. dominates d m.costs p) (without n ms))
      (or-equal-upward d x (costs-on-fit d n ms (each-mono (Fit c d) (λ m. RowCosts d m.costs) ms (λ m f. f.costs) es) on))
      (dominated-upward d c (without n ms) (each-select _ (Fit c d) ms es))
    where
      x : List ℕ
      x = costs_on n ms

  -- Over a node that counts its parent counts.
  pub opens-upward : (h : ℕ) (fs : List (Entry (suc h))) → Each (Fit c d) (moves_under (suc (suc h)) fs) → ordered d (moves_under (suc (suc h)) fs) ≡ true
      → {e : Entry (suc h)} → Memᴰ e fs → 0 < length (moves_under (suc h) e)
      → opens_for d ms n (node_of (moves_under (suc h) e)) ≡ true → opens_for d ms n (node_of (moves_under (suc (suc h)) fs)) ≡ true
  opens-upward h fs fits order {e} k some counts =
      by_cases (opens_for d ms n (node_of (moves_under (suc (suc h)) fs))) (λ a. a)
      (λ a. both_ways counts (for-downward (moves_under (suc (suc h)) fs) fits order (moves_under (suc h) e) (child-run h fs k) some a))

-- ---- the moves that a withdrawal brings up

-- q is listed without the moves of number n, and not with them.
module _ (d c : ℕ) (l : d ≤ row_costs) (ms : List Move) (es : Each (Fit c d) ms) (r : ordered d ms ≡ true) (n : ℕ) {q : Move}
    (new : Memᴰ q (skyline d (without n ms))) (old : ¬ Memᴰ q (skyline d ms)) where
  on-it : Memᴰ q ms
  on-it = (without-number n ms (skyline-mem d (without n ms) new).0).0

  fit : Fit c d q
  fit = each-mem (Fit c d) es on-it

  -- what stays does not hide it
  none_left : (y : Move) → Memᴰ y ms → eqb y.number n ≡ false → hides d y q ≡ true → ⊥
  unfolding hidden
  none_left y k e h = both_ways (any-mem (λ p. hides d p q) (mem-without n k e) h) (skyline-mem d (without n ms) new).1

  -- so a listed move of number n hid it
  hider : HiderIn (move_before d) (hides d) (skyline d ms) q
  hider =
      by_cases (hidden d ms q) (skyline-hider d c l ms es r q fit) (λ e. absurd (old (mem-skyline d on-it e)))

  hider-number : eqb hider.hider.number n ≡ true
  hider-number =
      by_cases (eqb hider.hider.number n) (λ e. e)
      (λ e. absurd (none_left hider.hider (skyline-mem d ms hider.listed).0 e hider.hiding))

  pub brought-up-listed : on_board n (skyline d ms) ≡ true
  unfolding on_board
  brought-up-listed = any-mem (λ m. eqb m.number n) hider.listed hider-number

  others-hide-not : hidden d (without n (skyline d ms)) q ≡ false
  unfolding hidden
  others-hide-not =
      any_none (λ p. hides d p q) (without n (skyline d ms))
      (mem-each (λ p. hides d p q ≡ false) (without n (skyline d ms))
      (λ y k.
      let w = without-number n (skyline d ms) k in
      by_cases (hides d y q) (λ h. absurd (none_left y (skyline-mem d ms w.0).0 w.1 h)) (λ h. h)))

  hider-costs : distinct (map (λ m. m.number) ms) ≡ true → costs_on n (skyline d ms) ≡ hider.hider.costs
  unfolding skyline
  hider-costs once =
      ap (λ (k : ℕ). costs_on k (skyline d ms)) (sym (eqb-true hider.hider.number n hider-number))
      ∙ costs-on-own (skyline d ms) (distinct-select (λ m. m.number) (λ m. not (hidden d ms m)) ms once) hider.listed

  -- A node in whose region it lies counts.
  pub brought-up-counts : distinct (map (λ m. m.number) ms) ≡ true → (z : Node) → ((i : ℕ) → get_or (near_corner_of d z) i 0 ≤ get_or q.costs i 0)
      → ((i : ℕ) → get_or q.costs i 0 ≤ get_or (far_corner_of d z) i 0) → opens_for d (skyline d ms) n z ≡ true
  unfolding opens_for
  brought-up-counts once z near far =
      and_both _ (opens d (without n (skyline d ms)) z)
      (ap (λ (p : List ℕ). dominates d p (far_corner_of d z) || equal_costs d p (far_corner_of d z)) (hider-costs once)
      ∙ places-dominate-or-equal d hider.hider.costs (far_corner_of d z) (row-lengths hider-fit.costs (far-corner-row d z l))
      (λ i b. le_trans (hides-nowhere-greater d hider.hider q (row-lengths hider-fit.costs fit.costs) hider.hiding i b) (far i)))
      (unhidden-opened d c l (without n (skyline d ms)) others-fit z q fit near others-hide-not)
    where
      hider-fit : Fit c d hider.hider
      hider-fit = each-mem (Fit c d) es (skyline-mem d ms hider.listed).0

      others-fit : Each (Fit c d) (without n (skyline d ms))
      others-fit =
          mem-each (Fit c d) (without n (skyline d ms))
          (λ y k. each-mem (Fit c d) es (skyline-mem d ms (without-number n (skyline d ms) k).0).0)

-- "every move brought up lies under such nodes only, from its leaf to the root" (Card 1)
pub brought-up-opened : (b : Board) → SoundBoard b → (t : Tree) → b.moves ≡ moves_of t → (n : ℕ) {q : Move}
    → Memᴰ (row_of entered q) (change_notice b (withdraw n)) → {z : Node} → Memᴰ z (nodes_of t) → Memᴰ q z.under
    → (on_board n (skyline b.dimension (moves_of t)) ≡ true) × (opens_for b.dimension (skyline b.dimension (moves_of t)) n z ≡ true)
unfolding change_notice changed changed_moves list_of
brought-up-opened b s t e n {q} k {z} i j = (
  brought-up-listed d c l (moves_of t) fits order n row.0 row.1,
  brought-up-counts d c l (moves_of t) fits order n row.0 row.1 (subst (λ (ms : List Move). distinct (map (λ m. m.number) ms) ≡ true) e s.once) z
      (tree-near d c l t fits order i j) (tree-far d c l t fits order i j),
)
  where
    c : ℕ
    c = b.size

    d : ℕ
    d = b.dimension

    l : d ≤ row_costs
    l = dimension-most d s.dimension

    fits : Each (Fit c d) (moves_of t)
    fits = subst (Each (Fit c d)) e s.fit

    order : ordered d (moves_of t) ≡ true
    order = subst (λ (ms : List Move). ordered d ms ≡ true) e s.order

    row : Memᴰ q (skyline d (without n (moves_of t))) × (¬ Memᴰ q (skyline d (moves_of t)))
    row =
        (notice-entered (skyline d (moves_of t)) (skyline d (without n (moves_of t))) q).0
        (subst (λ (ms : List Move). Memᴰ (row_of entered q) (notice_of (skyline d ms) (skyline d (without n ms)))) e k)
