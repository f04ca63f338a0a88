-- Costs past the first d do not matter to the tree (Card 13): loading, entering and withdrawing give the same tree, and lists
-- and withdrawals open the same nodes, with other costs past d in the rows.
use Prim.Native.Nat.{ℕ, zero, suc, ◌+◌, ◌-◌}
use Rattle.std.specs.Prelude.{Bool, ◌||◌, ◌≡◌, ltb}
use Rattle.std.proofs.Math.Bool.{true, false, cond, not, ◌&&◌}
use mathlib.Core.List.{List, [], ◌∷◌, ◌++◌, map, flat_map, map-append}
use Rattle.std.proofs.Math.Path.{refl, sym, ap, ap₂}
use Rattle.std.proofs.Common.{◌∙◌}
use Rattle.std.proofs.Math.Dec.{leb, eqb}
use Rattle.std.proofs.Math.ListN.{length, take, drop}
use Rattle.std.proofs.lemmas.List.{length-map}
use Rattle.zorder.specs.Between.{side_of, near_of, far_of}
use Rattle.zorder.proofs.Laws.FirstCosts.{side-alike, near-alike, far-alike}
use Rattle.model.specs.Basics.{any, all, count, first_or, last_or, within, equal}
use Rattle.model.specs.Moves.{Move, no_move, move_before, insert, in_z_order, ordered}
use Rattle.model.specs.Dominance.{better, dominates, equal_costs}
use Rattle.model.specs.Lists.{skyline}
use Rattle.model.specs.Tree.{Entry, Tree, empty, rooted, moves_under, moves_of, first_move, last_move, node_side, filled, root_least, filled_tree, ruled}
use Rattle.model.specs.Loading.{eights, evened, mended, cut, levels, built, load_tree}
use Rattle.model.specs.Entering.{earlier_in_gap, goes_into, child_place, sides_at, least_by, left_part, split, replace_at, enter_node, root_of, enter_tree}
use Rattle.model.specs.Withdrawing.{without, Remainder, keep_child, keep_children, withdraw_node, settled, enter_all, withdraw_tree, costs_on}
use Rattle.model.specs.Nodes.{Node, node_of, nodes_from, nodes_of, near_corner_of, far_corner_of, opens, nodes_opened}
use Rattle.model.specs.Calls.{on_board, Change, enter, withdraw, recost}
use Rattle.model.specs.Opening.{opens_for, withdraw_opens, change_opens}
use Rattle.width.specs.Width.{move_with, change_with, entry_with, tree_with}
use Rattle.model.proofs.Laws.Bool.{cond_map}
use Rattle.model.proofs.Laws.Basics.{any-map, select-map, count_map, map-take, map-drop}
use Rattle.model.proofs.Laws.Sorting.{map-insert, map-sort, map-rising}
use Rattle.width.specs.Laws.Width.{KeepsFirst, move-before-with, skyline-with}

-- ---- lists mapped

module _ {A B : Type 0} (f : A → B) where
  first-map : (z : A) (xs : List A) → first_or (f z) (map f xs) ≡ f (first_or z xs)
  unfolding first_or
  first-map z [] = refl
  first-map z (x ∷ xs) = refl

  last-map : (z : A) (xs : List A) → last_or (f z) (map f xs) ≡ f (last_or z xs)
  unfolding last_or
  last-map z [] = refl
  last-map z (x ∷ xs) = last-map x xs

module _ {A B : Type 0} (f : A → B) (p : A → Bool) (q : B → Bool) (e : (x : A) → q (f x) ≡ p x) where
  all_map : (xs : List A) → all q (map f xs) ≡ all p xs
  unfolding all
  all_map [] = refl
  all_map (x ∷ xs) = ap₂ ◌&&◌ (e x) (all_map xs)

module _ {A A' B B' : Type 0} (f : A → A') (k : B → B') (j : A → List B) (j' : A' → List B') (e : (x : A) → j' (f x) ≡ map k (j x)) where
  pub flat-map : (xs : List A) → flat_map j' (map f xs) ≡ map k (flat_map j xs)
  unfolding flat_map
  flat-map [] = refl
  flat-map (x ∷ xs) = ap₂ ◌++◌ (e x) (flat-map xs) ∙ sym (map-append k (j x) (flat_map j xs))

module _ {A A' : Type 0} (f : A → A') (j : A → List A) (j' : A' → List A') (e : (x : A) → j' (f x) ≡ map f (j x)) where
  replace-map : (i : ℕ) (xs : List A) → replace_at i j' (map f xs) ≡ map f (replace_at i j xs)
  unfolding replace_at
  replace-map i [] = refl
  replace-map zero (x ∷ xs) = ap (λ (ys : List A'). ys ++ map f xs) (e x) ∙ sym (map-append f (j x) xs)
  replace-map (suc i) (x ∷ xs) = ap (λ (ys : List A'). f x ∷ ys) (replace-map i xs)

module _ {A B : Type 0} (f : A → B) where
  eights-map : (n : ℕ) (xs : List A) → eights n (map f xs) ≡ map (map f) (eights n xs)
  unfolding eights
  eights-map zero xs = refl
  eights-map (suc n) [] = refl
  eights-map (suc n) (x ∷ xs) =
      ap₂ ◌∷◌ (sym (map-take f 8 (x ∷ xs))) (ap (eights n) (sym (map-drop f 8 (x ∷ xs))) ∙ eights-map n (drop 8 (x ∷ xs)))

  evened-map : (xs ys : List A) → evened (map f xs) (map f ys) ≡ map (map f) (evened xs ys)
  unfolding evened
  evened-map xs ys =
      ap (λ (n : ℕ). take n (map f xs) ∷ (drop n (map f xs) ++ map f ys) ∷ []) kept
      ∙ ap₂ (λ (us vs : List B). us ∷ (vs ++ map f ys) ∷ []) (sym (map-take f n xs)) (sym (map-drop f n xs))
      ∙ ap (λ (vs : List B). map f (take n xs) ∷ vs ∷ []) (sym (map-append f (drop n xs) ys))
    where
      n : ℕ
      n = length xs - (3 - length ys)

      kept : length (map f xs) - (3 - length (map f ys)) ≡ n
      kept = ap₂ (λ (a b : ℕ). a - (3 - b)) (length-map xs f) (length-map ys f)

  mended-map : (xss : List (List A)) → mended (map (map f) xss) ≡ map (map f) (mended xss)
  unfolding mended
  mended-map [] = refl
  mended-map (xs ∷ []) = refl
  mended-map (xs ∷ ys ∷ []) =
      ap₂ (λ (n : ℕ) (yss : List (List B)). cond (ltb n 3) yss (map f xs ∷ map f ys ∷ [])) (length-map ys f) (evened-map xs ys)
      ∙ sym (cond_map (map (map f)) (ltb (length ys) 3) (evened xs ys) (xs ∷ ys ∷ []))
  mended-map (xs ∷ ys ∷ zs ∷ rest) = ap (λ (yss : List (List B)). map f xs ∷ yss) (mended-map (ys ∷ zs ∷ rest))

  cut-map : (xs : List A) → cut (map f xs) ≡ map (map f) (cut xs)
  unfolding cut
  cut-map xs = ap mended (ap (λ (n : ℕ). eights n (map f xs)) (length-map xs f) ∙ eights-map (length xs) xs) ∙ mended-map (eights (length xs) xs)

-- ---- loading

module _ (g : List ℕ → List ℕ) where
  levels-with : (n h : ℕ) (es : List (Entry h)) → levels n h (map (entry_with g h) es) ≡ tree_with g (levels n h es)
  unfolding levels tree_with entry_with
  levels-with zero h es = refl
  levels-with (suc n) h es =
      (λ i. elim (leb (length-map es (entry_with g h) i) 8) [ true ↦ rooted h (map (entry_with g h) es) | false ↦ levels n (suc h) (cut (map (entry_with g h) es)) ])
      ∙ go (leb (length es) 8) (ap (levels n (suc h)) (cut-map (entry_with g h) es) ∙ levels-with n (suc h) (cut es))
    where
      go : (b : Bool) → levels n (suc h) (cut (map (entry_with g h) es)) ≡ tree_with g (levels n (suc h) (cut es))
          → elim b [ true ↦ rooted h (map (entry_with g h) es) | false ↦ levels n (suc h) (cut (map (entry_with g h) es)) ]
          ≡ tree_with g (elim b [ true ↦ rooted h es | false ↦ levels n (suc h) (cut es) ])
      go true e = refl
      go false e = e

  built-with : (ms : List Move) → built (map (move_with g) ms) ≡ tree_with g (built ms)
  unfolding built tree_with entry_with
  built-with [] = refl
  built-with (m ∷ ms) = ap (λ (n : ℕ). levels n 0 (map (move_with g) (m ∷ ms))) (length-map ms (move_with g)) ∙ levels-with (length ms) 0 (m ∷ ms)

module _ (d : ℕ) (g : List ℕ → List ℕ) (G : KeepsFirst d g) where
  pub sorted-with : (ms : List Move) → in_z_order d (map (move_with g) ms) ≡ map (move_with g) (in_z_order d ms)
  unfolding in_z_order
  sorted-with ms = sym (map-sort (move_with g) (move_before d) (move_before d) (λ m n. sym (move-before-with d g G m n)) ms)

  pub load-with : (ms : List Move) → load_tree d (map (move_with g) ms) ≡ tree_with g (load_tree d ms)
  unfolding load_tree
  load-with ms = ap built (sorted-with ms) ∙ built-with g (in_z_order d ms)

  -- ---- the moves under a node

  none-with : move_with g no_move ≡ no_move
  none-with = λ i. record { number = 0; costs = G.none i }

  moves-with : (h : ℕ) (e : Entry h) → moves_under h (entry_with g h e) ≡ map (move_with g) (moves_under h e)
  unfolding moves_under entry_with
  moves-with zero m = refl
  moves-with (suc h) es = flat-map (entry_with g h) (move_with g) (moves_under h) (moves_under h) (moves-with h) es

  first-with : (h : ℕ) (e : Entry h) → first_move h (entry_with g h e) ≡ move_with g (first_move h e)
  unfolding first_move
  first-with h e = ap₂ first_or (sym none-with) (moves-with h e) ∙ first-map (move_with g) no_move (moves_under h e)

  last-with : (h : ℕ) (e : Entry h) → last_move h (entry_with g h e) ≡ move_with g (last_move h e)
  unfolding last_move
  last-with h e = ap₂ last_or (sym none-with) (moves-with h e) ∙ last-map (move_with g) no_move (moves_under h e)

  side-with : (m n : Move) → side_of d (g m.costs) (g n.costs) ≡ side_of d m.costs n.costs
  side-with m n = side-alike d (g m.costs) m.costs (g n.costs) n.costs (G.first m.costs) (G.first n.costs)

  node-side-with : (h : ℕ) (es : List (Entry h)) → node_side d h (map (entry_with g h) es) ≡ node_side d h es
  unfolding node_side entry_with
  node-side-with h es =
      ap₂ (λ (m n : Move). side_of d m.costs n.costs) (first-with (suc h) es) (last-with (suc h) es)
      ∙ side-with (first_move (suc h) es) (last_move (suc h) es)

  first-dominates : (p q : List ℕ) → dominates d (g p) q ≡ dominates d p q
  unfolding dominates
  first-dominates p q = ap (λ (cs : List ℕ). better cs (take d q)) (G.first p)

  -- ---- entering

  gap-with : (h : ℕ) (x : Move) (e f : Entry h) → earlier_in_gap d h (move_with g x) (entry_with g h e) (entry_with g h f) ≡ earlier_in_gap d h x e f
  unfolding earlier_in_gap
  gap-with h x e f =
      ap₂ leb
      (ap (λ (m : Move). side_of d m.costs (g x.costs)) (first-with h e) ∙ side-with (first_move h e) x)
      (ap (λ (m : Move). side_of d (g x.costs) m.costs) (last-with h f) ∙ side-with x (last_move h f))

  goes_with : (h : ℕ) (x : Move) (e f : Entry h) → goes_into d h (move_with g x) (entry_with g h e) (entry_with g h f) ≡ goes_into d h x e f
  unfolding goes_into
  goes_with h x e f = λ i. cond (before i) (cond (after i) (gap-with h x e f i) true) false
    where
      before : move_before d (move_with g x) (first_move h (entry_with g h f)) ≡ move_before d x (first_move h f)
      before = ap (move_before d (move_with g x)) (first-with h f) ∙ move-before-with d g G x (first_move h f)

      after : move_before d (last_move h (entry_with g h e)) (move_with g x) ≡ move_before d (last_move h e) x
      after = ap (λ (m : Move). move_before d m (move_with g x)) (last-with h e) ∙ move-before-with d g G (last_move h e) x

  child-with : (h : ℕ) (x : Move) (es : List (Entry h)) → child_place d h (move_with g x) (map (entry_with g h) es) ≡ child_place d h x es
  unfolding child_place
  child-with h x [] = refl
  child-with h x (e ∷ []) = refl
  child-with h x (e ∷ f ∷ fs) = ap₂ (λ (b : Bool) (n : ℕ). cond b 0 (suc n)) (goes_with h x e f) (child-with h x (f ∷ fs))

  sides-with : (h : ℕ) (es : List (Entry h)) (k : ℕ) → sides_at d h (map (entry_with g h) es) k ≡ sides_at d h es k
  unfolding sides_at
  sides-with h es k =
      ap₂ ◌+◌
      (ap (node_side d h) (sym (map-take (entry_with g h) k es)) ∙ node-side-with h (take k es))
      (ap (node_side d h) (sym (map-drop (entry_with g h) k es)) ∙ node-side-with h (drop k es))

  left-with : (h : ℕ) (es : List (Entry h)) → left_part d h (map (entry_with g h) es) ≡ left_part d h es
  unfolding left_part
  left-with h es = λ i. least_by (λ k. sides-with h es k i) 3 (4 ∷ 5 ∷ 6 ∷ [])

  split-with : (h : ℕ) (es : List (Entry h)) → split d h (map (entry_with g h) es) ≡ map (map (entry_with g h)) (split d h es)
  unfolding split
  split-with h es =
      (λ i. cond (ltb 8 (length-map es e i)) (take (left-with h es i) (map e es) ∷ drop (left-with h es i) (map e es) ∷ []) (map e es ∷ []))
      ∙ (λ i. cond (ltb 8 (length es)) (sym (map-take e k es) i ∷ sym (map-drop e k es) i ∷ []) (map e es ∷ []))
      ∙ sym (cond_map (map (map e)) (ltb 8 (length es)) (take k es ∷ drop k es ∷ []) (es ∷ []))
    where
      e : Entry h → Entry h
      e = entry_with g h

      k : ℕ
      k = left_part d h es

  node-with : (h : ℕ) (x : Move) (es : List (Entry h)) → enter_node d h (move_with g x) (map (entry_with g h) es) ≡ map (entry_with g h) (enter_node d h x es)
  unfolding enter_node entry_with insert
  node-with zero x ms = sym (map-insert (move_with g) (move_before d) (move_before d) (λ m n. sym (move-before-with d g G m n)) x ms)
  node-with (suc h) x es =
      ap (λ (n : ℕ). replace_at n (λ c. split d h (enter_node d h (move_with g x) c)) (map (entry_with g (suc h)) es)) (child-with (suc h) x es)
      ∙ replace-map (entry_with g (suc h)) (λ c. split d h (enter_node d h x c)) (λ c. split d h (enter_node d h (move_with g x) c))
      (λ c. ap (split d h) (node-with h x c) ∙ split-with h (enter_node d h x c))
      (child_place d (suc h) x es)
      es

  root_with : (h : ℕ) (ess : List (List (Entry h))) → root_of h (map (map (entry_with g h)) ess) ≡ tree_with g (root_of h ess)
  unfolding root_of tree_with entry_with
  root_with h [] = refl
  root_with h (es ∷ []) = refl
  root_with h (es ∷ fs ∷ rest) = refl

  pub enter-with : (x : Move) (t : Tree) → enter_tree d (move_with g x) (tree_with g t) ≡ tree_with g (enter_tree d x t)
  unfolding enter_tree tree_with entry_with
  enter-with x empty = refl
  enter-with x (rooted h es) = ap (λ (fs : List (Entry h)). root_of h (split d h fs)) (node-with h x es) ∙ ap (root_of h) (split-with h (enter_node d h x es)) ∙ root_with h (split d h (enter_node d h x es))

  -- ---- withdrawing

  pub without-with : (n : ℕ) (ms : List Move) → without n (map (move_with g) ms) ≡ map (move_with g) (without n ms)
  unfolding without
  without-with n ms = select-map (λ m. not (eqb m.number n)) (move_with g) ms

  pub costs-on-with : (n : ℕ) (ms : List Move) → costs_on n (map (move_with g) ms) ≡ g (costs_on n ms)
  unfolding costs_on
  costs-on-with n [] = sym G.none
  costs-on-with n (m ∷ ms) = ap (cond (eqb m.number n) (g m.costs)) (costs-on-with n ms) ∙ sym (cond_map g (eqb m.number n) m.costs (costs_on n ms))

  pub on-board-with : (n : ℕ) (ms : List Move) → on_board n (map (move_with g) ms) ≡ on_board n ms
  unfolding on_board
  on-board-with n ms = any-map (λ m. eqb m.number n) (move_with g) ms

  abbrev remainder_with : (h : ℕ) → Remainder h → Remainder h
  remainder_with h r = record { entries = map (entry_with g h) r.entries; moves = map (move_with g) r.moves }

  keep-child-with : (h : ℕ) (c : Remainder h) (rest : Remainder (suc h))
      → keep_child h (remainder_with h c) (remainder_with (suc h) rest) ≡ remainder_with (suc h) (keep_child h c rest)
  unfolding keep_child entry_with
  keep-child-with h c rest =
      (λ i. cond (ltb (length-map c.entries (entry_with g h) i) 3)
      (record { entries = map (entry_with g (suc h)) rest.entries; moves = gone i })
      (record { entries = map (entry_with g h) c.entries ∷ map (entry_with g (suc h)) rest.entries; moves = sym (map-append (move_with g) c.moves rest.moves) i }))
      ∙ sym (cond_map (remainder_with (suc h)) (ltb (length c.entries) 3) _ _)
    where
      gone : (moves_under (suc h) (map (entry_with g h) c.entries) ++ map (move_with g) c.moves ++ map (move_with g) rest.moves)
          ≡ map (move_with g) (moves_under (suc h) c.entries ++ c.moves ++ rest.moves)
      gone =
          ap (λ (ms : List Move). ms ++ map (move_with g) c.moves ++ map (move_with g) rest.moves) (moves-with (suc h) c.entries)
          ∙ ap (λ (ms : List Move). ms ++ map (move_with g) rest.moves) (sym (map-append (move_with g) (moves_under (suc h) c.entries) c.moves))
          ∙ sym (map-append (move_with g) (moves_under (suc h) c.entries ++ c.moves) rest.moves)

  module _ (h : ℕ) (f : List (Entry h) → Remainder h) (e : (c : List (Entry h)) → f (map (entry_with g h) c) ≡ remainder_with h (f c)) where
    keep-children-with : (cs : List (List (Entry h))) → keep_children h f (map (entry_with g (suc h)) cs) ≡ remainder_with (suc h) (keep_children h f cs)
    unfolding keep_children entry_with
    keep-children-with [] = refl
    keep-children-with (c ∷ cs) = ap₂ (keep_child h) (e c) (keep-children-with cs) ∙ keep-child-with h (f c) (keep_children h f cs)

  withdraw-node-with : (n h : ℕ) (es : List (Entry h)) → withdraw_node n h (map (entry_with g h) es) ≡ remainder_with h (withdraw_node n h es)
  unfolding withdraw_node entry_with
  withdraw-node-with n zero ms = ap (λ (es : List Move). record { entries = es; moves = [] }) (without-with n ms)
  withdraw-node-with n (suc h) es = keep-children-with h (withdraw_node n h) (withdraw-node-with n h) es

  settled-with : (h : ℕ) (es : List (Entry h)) → settled h (map (entry_with g h) es) ≡ tree_with g (settled h es)
  unfolding settled tree_with entry_with
  settled-with zero [] = refl
  settled-with zero (m ∷ ms) = refl
  settled-with (suc h) [] = refl
  settled-with (suc h) (c ∷ []) = settled-with h c
  settled-with (suc h) (c ∷ e ∷ es) = refl

  enter-all-with : (ms : List Move) (t : Tree) → enter_all d (map (move_with g) ms) (tree_with g t) ≡ tree_with g (enter_all d ms t)
  unfolding enter_all
  enter-all-with [] t = refl
  enter-all-with (m ∷ ms) t = ap (enter_all d (map (move_with g) ms)) (enter-with m t) ∙ enter-all-with ms (enter_tree d m t)

  pub withdraw-with : (n : ℕ) (t : Tree) → withdraw_tree d n (tree_with g t) ≡ tree_with g (withdraw_tree d n t)
  unfolding withdraw_tree tree_with
  withdraw-with n empty = refl
  withdraw-with n (rooted h es) =
      ap (λ (r : Remainder h). enter_all d (in_z_order d r.moves) (settled h r.entries)) (withdraw-node-with n h es)
      ∙ ap₂ (enter_all d) (sorted-with r.moves) (settled-with h r.entries)
      ∙ enter-all-with (in_z_order d r.moves) (settled h r.entries)
    where
      r : Remainder h
      r = withdraw_node n h es

  -- ---- the rules, and the nodes that lists and withdrawals open

  pub moves-of-with : (t : Tree) → moves_of (tree_with g t) ≡ map (move_with g) (moves_of t)
  unfolding moves_of tree_with entry_with
  moves-of-with empty = refl
  moves-of-with (rooted h es) = moves-with (suc h) es

  filled-with : (h : ℕ) (e : Entry h) → filled h (entry_with g h e) ≡ filled h e
  unfolding filled entry_with
  filled-with zero m = refl
  filled-with (suc h) es = ap₂ (λ (n : ℕ) (b : Bool). within 3 8 n && b) (length-map es (entry_with g h)) (all_map (entry_with g h) (filled h) (filled h) (filled-with h) es)

  pub ruled-with : (t : Tree) → ruled d (tree_with g t) ≡ ruled d t
  unfolding ruled filled_tree tree_with ordered
  ruled-with empty = refl
  ruled-with (rooted h es) =
      ap₂ ◌&&◌
      (ap₂ (λ (n : ℕ) (b : Bool). within (root_least h) 8 n && b) (length-map es (entry_with g h)) (all_map (entry_with g h) (filled h) (filled h) (filled-with h) es))
      (ap (ordered d) (moves-of-with (rooted h es)) ∙ sym (map-rising (move_with g) (move_before d) (move_before d) (λ m n. sym (move-before-with d g G m n)) (moves_of (rooted h es))))

  abbrev node_with : Node → Node
  node_with n = record { first = move_with g n.first; last = move_with g n.last; under = map (move_with g) n.under }

  node-of-with : (ms : List Move) → node_of (map (move_with g) ms) ≡ node_with (node_of ms)
  unfolding node_of
  node-of-with ms =
      λ i. record {
        first = (ap (λ (m : Move). first_or m (map (move_with g) ms)) (sym none-with) ∙ first-map (move_with g) no_move ms) i;
        last = (ap (λ (m : Move). last_or m (map (move_with g) ms)) (sym none-with) ∙ last-map (move_with g) no_move ms) i;
        under = map (move_with g) ms;
      }

  nodes-from-with : (h : ℕ) (es : List (Entry h)) → nodes_from h (map (entry_with g h) es) ≡ map node_with (nodes_from h es)
  unfolding nodes_from entry_with
  nodes-from-with zero ms = ap (λ (n : Node). n ∷ []) (ap node_of (moves-with 1 ms) ∙ node-of-with (moves_under 1 ms))
  nodes-from-with (suc h) es =
      ap₂ ◌∷◌
      (ap node_of (moves-with (suc (suc h)) es) ∙ node-of-with (moves_under (suc (suc h)) es))
      (flat-map (entry_with g (suc h)) node_with (nodes_from h) (nodes_from h) (nodes-from-with h) es)

  nodes-with : (t : Tree) → nodes_of (tree_with g t) ≡ map node_with (nodes_of t)
  unfolding nodes_of tree_with
  nodes-with empty = refl
  nodes-with (rooted h es) = nodes-from-with h es

  opens-with : (ms : List Move) (n : Node) → opens d (map (move_with g) ms) (node_with n) ≡ opens d ms n
  unfolding opens near_corner_of
  opens-with ms n = ap not (any-map (λ m. dominates d m.costs (near_of d (g n.first.costs) (g n.last.costs))) (move_with g) ms ∙ (λ i. any (λ m. near m i) ms))
    where
      near : (m : Move) → dominates d (g m.costs) (near_of d (g n.first.costs) (g n.last.costs)) ≡ dominates d m.costs (near_of d n.first.costs n.last.costs)
      near m =
          ap (dominates d (g m.costs)) (near-alike d (g n.first.costs) n.first.costs (g n.last.costs) n.last.costs (G.first n.first.costs) (G.first n.last.costs))
          ∙ first-dominates m.costs (near_of d n.first.costs n.last.costs)

  pub opened_with : (t : Tree) → nodes_opened d (tree_with g t) ≡ nodes_opened d t
  unfolding nodes_opened
  opened_with t =
      ap₂ (λ (ms : List Move) (ns : List Node). count (opens d ms) ns) (moves-of-with t) (nodes-with t)
      ∙ count_map (opens d (map (move_with g) (moves_of t))) node_with (nodes_of t)
      ∙ (λ i. count (λ n. opens-with (moves_of t) n i) (nodes_of t))

  opens-for-with : (ms : List Move) (n : ℕ) (z : Node) → opens_for d (map (move_with g) ms) n (node_with z) ≡ opens_for d ms n z
  unfolding opens_for far_corner_of dominates equal_costs
  opens-for-with ms n z =
      ap₂ ◌&&◌
      (ap₂ (λ (cs q : List ℕ). better cs (take d q) || equal cs (take d q)) first far)
      (ap (λ (ns : List Move). opens d ns (node_with z)) (without-with n ms) ∙ opens-with (without n ms) z)
    where
      first : take d (costs_on n (map (move_with g) ms)) ≡ take d (costs_on n ms)
      first = ap (take d) (costs-on-with n ms) ∙ G.first (costs_on n ms)

      far : far_of d (g z.first.costs) (g z.last.costs) ≡ far_of d z.first.costs z.last.costs
      far = far-alike d (g z.first.costs) z.first.costs (g z.last.costs) z.last.costs (G.first z.first.costs) (G.first z.last.costs)

  withdraw-opens-with : (n : ℕ) (t : Tree) → withdraw_opens d n (tree_with g t) ≡ withdraw_opens d n t
  unfolding withdraw_opens
  withdraw-opens-with n t =
      ap₂ (λ (ms : List Move) (zs : List Node). cond (on_board n ms) (count (opens_for d ms n) zs) 0)
      (ap (skyline d) (moves-of-with t) ∙ skyline-with d g G (moves_of t)) (nodes-with t)
      ∙ ap₂ (λ (b : Bool) (k : ℕ). cond b k 0) (on-board-with n list)
      (count_map (opens_for d (map (move_with g) list) n) node_with (nodes_of t) ∙ (λ i. count (λ z. opens-for-with list n z i) (nodes_of t)))
    where
      list : List Move
      list = skyline d (moves_of t)

  pub change-opens-with : (x : Change) (t : Tree) → change_opens d (change_with g x) (tree_with g t) ≡ change_opens d x t
  unfolding change_opens change_with
  change-opens-with (enter n block costs) t = refl
  change-opens-with (withdraw n) t = withdraw-opens-with n t
  change-opens-with (recost n block costs) t = refl
