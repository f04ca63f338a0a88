-- Entering: the new move stands in its place among the others, and the tree keeps the rules.
use Prim.Native.Nat.{ℕ, zero, suc, ◌≤◌, ◌<◌}
use Rattle.std.specs.Prelude.{Bool, ◌≡◌, ◌⊎◌, ltb, take}
use Rattle.std.proofs.Math.Bool.{true, false, cond}
use Rattle.std.proofs.Common.{true≢false, ◌∙◌, ⊎_elim, ltb-true, ltb-false, length-take, length-drop}
use Rattle.std.proofs.Math.Path.{refl, sym, ap}
use Rattle.std.proofs.Math.Logic.{inl, inr}
use mathlib.Core.List.{List, [], ◌∷◌, ◌++◌, flat_map, append-nil, Memᴰ}
use native.Mathlib.Omega.{arith}
use Rattle.std.proofs.Math.ListN.{length, drop, length-append}
use Rattle.model.specs.Basics.{Each, insert_by, first_or, last_or}
use Rattle.model.specs.Moves.{Move, no_move, move_before, insert, ordered}
use Rattle.model.specs.Tree.{Entry, Tree, empty, rooted, moves_under, moves_of, first_move, last_move, root_least, filled_tree, ruled}
use Rattle.model.specs.Entering.{earlier_in_gap, goes_into, child_place, sides_at, least_by, left_part, split, replace_at, enter_node, root_of, enter_tree}
use Rattle.model.proofs.Laws.Bool.{cond_cases}
use Rattle.model.proofs.Laws.Basics.{each-mem, last_mem, each_append, each_left, each_right}
use Rattle.model.proofs.Laws.Sorting.{StrictOrder, asym, length-insert, insert-append-left, insert-append-first, insert-append-right, rising-insert}
use Rattle.model.proofs.Laws.Permuted.{Sorted, NotBefore, not-before-trans, sorted-left, sorted-right, sorted-behind, sorted-last, rising-sorted}
use Rattle.model.proofs.Laws.Tree.{flat_map-append, flat_map-two, each_take, each-drop, Filled, full-filled, filled-full, full-tree, tree-full, root_least-range, leaf-moves, leaf-filled, filled-some, ruled-filled, ruled-ordered, both-ruled}

-- ---- a node of nine

least-of : (Q : ℕ → Type 0) (f : ℕ → ℕ) (k : ℕ) (js : List ℕ) → Q k → Each Q js → Q (least_by f k js)
unfolding least_by
least-of Q f k [] q h = q
least-of Q f k (j ∷ js) q h =
    least-of Q f (cond (ltb (f j) (f k)) j k) js (cond_cases Q (ltb (f j) (f k)) (λ e. h.0) (λ e. q)) h.1

module _ (d h : ℕ) (es : List (Entry h)) where
  pub left_part-range : (3 ≤ left_part d h es) × (left_part d h es ≤ 6)
  unfolding left_part
  left_part-range =
      least-of (λ k. (3 ≤ k) × (k ≤ 6)) (sides_at d h es) 3 (4 ∷ 5 ∷ 6 ∷ []) (omega arith) (omega arith, (omega arith, (omega arith, tt)))

  -- the node in two parts, or as it is
  module _ (Q : List (List (Entry h)) → Type 0) where
    split-cases : (8 < length es → Q (take (left_part d h es) es ∷ drop (left_part d h es) es ∷ [])) → (length es ≤ 8 → Q (es ∷ []))
        → Q (split d h es)
    unfolding split
    split-cases f g = cond_cases Q (ltb 8 (length es)) (λ e. f (ltb-true 8 (length es) e)) (λ e. g (ltb-false 8 (length es) e))

  pub split_moves : flat_map (moves_under (suc h)) (split d h es) ≡ moves_under (suc h) es
  unfolding flat_map moves_under
  split_moves =
      split-cases (λ gs. flat_map (moves_under (suc h)) gs ≡ moves_under (suc h) es)
      (λ l. flat_map-two (moves_under h) (left_part d h es) es)
      (λ l. append-nil (moves_under (suc h) es))

  root_of-moves : moves_of (root_of h (split d h es)) ≡ moves_under (suc h) es
  unfolding root_of moves_of flat_map moves_under
  root_of-moves =
      split-cases (λ gs. moves_of (root_of h gs) ≡ moves_under (suc h) es) (λ l. flat_map-two (moves_under h) (left_part d h es) es) (λ l. refl)

  pub split-length : (0 < length (split d h es)) × (length (split d h es) ≤ 2)
  split-length = split-cases (λ gs. (0 < length gs) × (length gs ≤ 2)) (λ l. omega arith) (λ l. omega arith)

  module _ (most : length es ≤ 9) (a : Each (Filled h) es) where
    parts-filled : 8 < length es → Each (Filled (suc h)) (take (left_part d h es) es ∷ drop (left_part d h es) es ∷ [])
    parts-filled l =
        let k = left_part d h es in
        let r = left_part-range in (
          full-filled h (take k es)
              (record { least = omega (arith, length-take k es); most = omega (arith, length-take k es); under = each_take (Filled h) k es a }),
          (
            full-filled h (drop k es)
                (record { least = omega (arith, length-drop k es); most = omega (arith, length-drop k es); under = each-drop (Filled h) k es a }),
            tt,
          ),
        )

    pub split-filled : 3 ≤ length es → Each (Filled (suc h)) (split d h es)
    split-filled m =
        split-cases (Each (Filled (suc h))) parts-filled (λ l. (full-filled h es (record { least = m; most = l; under = a }), tt))

    root_of-filled : root_least h ≤ length es → filled_tree (root_of h (split d h es)) ≡ true
    unfolding root_of root_least
    root_of-filled m =
        split-cases (λ gs. filled_tree (root_of h gs) ≡ true)
        (λ l. full-tree (suc h) (take (left_part d h es) es ∷ drop (left_part d h es) es ∷ [])
        (record { least = omega arith; most = omega arith; under = parts-filled l }))
        (λ l. full-tree h es (record { least = m; most = l; under = a }))

-- ---- the number of entries

module _ {A : Type 0} (f : A → List A) where
  replace_at-length : ((c : A) → (0 < length (f c)) × (length (f c) ≤ 2)) → (i : ℕ) (xs : List A) → i < length xs
      → (length xs ≤ length (replace_at i f xs)) × (length (replace_at i f xs) ≤ suc (length xs))
  unfolding replace_at
  replace_at-length few i [] g = absurd (omega arith)
  replace_at-length few zero (x ∷ xs) g = omega (arith, few x, length-append (f x) xs)
  replace_at-length few (suc i) (x ∷ xs) g = omega (arith, replace_at-length few i xs (omega arith))

  replace_at-each : (P : A → Type 0) → ((c : A) → P c → Each P (f c)) → (i : ℕ) (xs : List A) → Each P xs → Each P (replace_at i f xs)
  unfolding replace_at
  replace_at-each P keeps i [] h = tt
  replace_at-each P keeps zero (x ∷ xs) h = each_append P (f x) xs (keeps x h.0) h.1
  replace_at-each P keeps (suc i) (x ∷ xs) h = (h.0, replace_at-each P keeps i xs h.1)

module _ (d : ℕ) (x : Move) where
  pub child_place-in : (h : ℕ) (es : List (Entry h)) → 0 < length es → child_place d h x es < length es
  unfolding child_place
  child_place-in h [] g = absurd (omega arith)
  child_place-in h (e ∷ []) g = omega arith
  child_place-in h (e ∷ f ∷ fs) g =
      cond_cases (λ (i : ℕ). i < length (e ∷ f ∷ fs)) (goes_into d h x e f) (λ t. omega arith)
      (λ t. omega (arith, child_place-in h (f ∷ fs) (omega arith)))

  pub enter_node-length : (h : ℕ) (es : List (Entry h)) → 0 < length es
      → (length es ≤ length (enter_node d h x es)) × (length (enter_node d h x es) ≤ suc (length es))
  unfolding enter_node insert
  enter_node-length zero ms g = omega (arith, length-insert (move_before d) x ms)
  enter_node-length (suc h) es g =
      replace_at-length (λ c. split d h (enter_node d h x c)) (λ c. split-length d h (enter_node d h x c)) (child_place d (suc h) x es) es
      (child_place-in (suc h) es g)

  pub enter_node-filled : (h : ℕ) (es : List (Entry h)) → Each (Filled h) es → Each (Filled h) (enter_node d h x es)
  unfolding enter_node
  enter_node-filled zero ms a = leaf-filled (enter_node d zero x ms)
  enter_node-filled (suc h) es a =
      replace_at-each (λ c. split d h (enter_node d h x c)) (Filled (suc h))
      (λ c f.
      let g = filled-full h c f in
      let l = enter_node-length h c (omega (arith, g.least)) in
      split-filled d h (enter_node d h x c) (omega (arith, g.most)) (enter_node-filled h c g.under) (omega (arith, g.least)))
      (child_place d (suc h) x es) es a

  pub enter-filled : (t : Tree) → filled_tree t ≡ true → filled_tree (enter_tree d x t) ≡ true
  unfolding enter_tree root_least
  enter-filled empty f = full-tree 0 (x ∷ []) (record { least = omega arith; most = omega arith; under = leaf-filled (x ∷ []) })
  enter-filled (rooted h es) f =
      let g = tree-full h es f in
      let l = enter_node-length h es (omega (arith, root_least-range h, g.least)) in
      root_of-filled d h (enter_node d h x es) (omega (arith, g.most)) (enter_node-filled h es g.under) (omega (arith, g.least))

-- ---- the moves

module _ (d h : ℕ) (x : Move) (e f : Entry h) where
  goes_before : goes_into d h x e f ≡ true → move_before d x (first_or no_move (moves_under h f)) ≡ true
  unfolding goes_into first_move last_move
  goes_before = test (move_before d x (first_move h f)) (move_before d (last_move h e) x) (earlier_in_gap d h x e f)
    where
      test : (a b c : Bool) → cond a (cond b c true) false ≡ true → a ≡ true
      test true b c t = refl
      test false b c t = t

  goes-past : goes_into d h x e f ≡ false
      → (move_before d x (first_or no_move (moves_under h f)) ≡ false) ⊎ (move_before d (last_or no_move (moves_under h e)) x ≡ true)
  unfolding goes_into first_move last_move
  goes-past = test (move_before d x (first_move h f)) (move_before d (last_move h e) x) (earlier_in_gap d h x e f)
    where
      test : (a b c : Bool) → cond a (cond b c true) false ≡ false → (a ≡ false) ⊎ (b ≡ true)
      test true true c t = inr refl
      test true false c t = absurd (true≢false t)
      test false b c t = inl refl

insert-front : {A : Type 0} (lt : A → A → Bool) (x z : A) (xs ys zs : List A) → 0 < length ys → lt x (first_or z ys) ≡ true
    → insert_by lt x (xs ++ (ys ++ zs)) ≡ insert_by lt x xs ++ (ys ++ zs)
unfolding first_or
insert-front lt x z xs [] zs g e = absurd (omega arith)
insert-front lt x z xs (y ∷ ys) zs g e = insert-append-first lt x y xs (ys ++ zs) e

pub each_first : {A : Type 0} (P : A → Type 0) (z : A) (xs : List A) → 0 < length xs → Each P xs → P (first_or z xs)
unfolding first_or
each_first P z [] g h = absurd (omega arith)
each_first P z (x ∷ xs) g h = h.0

module _ (d : ℕ) (P : Move → Type 0) (o : StrictOrder P (move_before d)) (x : Move) (p : P x) where
  abbrev lt : Move → Move → Bool
  lt = move_before d

  -- x does not come before b, nor b before what stands no later
  past : (b : Move) → P b → NotBefore lt b x → (ms : List Move) → Each P ms → Each (λ m. NotBefore lt m b) ms → Each (λ m. NotBefore lt m x) ms
  past b q e [] h f = tt
  past b q e (m ∷ ms) h f = (not-before-trans lt P o m b x h.0 q p f.0 e, past b q e ms h.1 f.1)

  past-last : (z : Move) (ms : List Move) → 0 < length ms → Each P ms → Sorted lt ms → lt (last_or z ms) x ≡ true
      → Each (λ m. NotBefore lt m x) ms
  unfolding last_or
  past-last z [] g h s e = absurd (omega arith)
  past-last z (m ∷ ms) g h s e =
      let q = each-mem P {xs = m ∷ ms} h (last_mem m ms) in
      past (last_or m ms) q (asym P lt o (last_or m ms) x q p e) (m ∷ ms) h (sorted-last lt P o m ms h s)

  past_first : (z : Move) (ms ns rest : List Move) → 0 < length ns → Each P (ms ++ (ns ++ rest)) → Sorted lt (ms ++ (ns ++ rest))
      → NotBefore lt (first_or z ns) x → Each (λ m. NotBefore lt m x) ms
  past_first z ms ns rest g h s e =
      past (first_or z ns) (each_first P z ns g (each_left P ns rest (each_right P ms (ns ++ rest) h))) e ms
      (each_left P ms (ns ++ rest) h) (sorted-behind lt z ms ns rest g s)

  -- One child gives way to entries that hold its moves and x.
  module _ (h : ℕ) (f : List (Entry h) → List (List (Entry h)))
      (step : (c : List (Entry h)) → Filled (suc h) c → Each P (moves_under (suc h) c) → Sorted lt (moves_under (suc h) c)
      → flat_map (moves_under (suc h)) (f c) ≡ insert_by lt x (moves_under (suc h) c)) where
    abbrev below : List (Entry h) → List Move
    below = moves_under (suc h)

    abbrev under : List (List (Entry h)) → List Move
    under = flat_map below

    here : (c : List (Entry h)) (cs : List (List (Entry h))) → Filled (suc h) c → Each P (below c ++ under cs) → Sorted lt (below c ++ under cs)
        → insert_by lt x (below c ++ under cs) ≡ insert_by lt x (below c) ++ under cs
        → under (f c ++ cs) ≡ insert_by lt x (below c ++ under cs)
    here c cs a q s e =
        flat_map-append below (f c) cs
        ∙ ap (λ (ms : List Move). ms ++ under cs) (step c a (each_left P (below c) (under cs) q) (sorted-left lt (below c) (under cs) s))
        ∙ sym e

    into-child : (cs : List (List (Entry h))) → 0 < length cs → Each (Filled (suc h)) cs → Each P (under cs) → Sorted lt (under cs)
        → under (replace_at (child_place d (suc h) x cs) f cs) ≡ insert_by lt x (under cs)
    unfolding child_place replace_at flat_map
    into-child [] g a q s = absurd (omega arith)
    into-child (c ∷ []) g a q s = here c [] a.0 q s (insert-append-left lt x (below c) [] tt)
    into-child (c ∷ e ∷ cs) g a q s =
        let rest = under (e ∷ cs) in
        let some = filled-some (suc h) e a.1.0 in
        cond_cases (λ (i : ℕ). under (replace_at i f (c ∷ e ∷ cs)) ≡ insert_by lt x (under (c ∷ e ∷ cs))) (goes_into d (suc h) x c e)
        (λ t. here c (e ∷ cs) a.0 q s (insert-front lt x no_move (below c) (below e) (under cs) some (goes_before d (suc h) x c e t)))
        (λ t.
        ap (λ (ms : List Move). below c ++ ms)
        (into-child (e ∷ cs) (omega arith) a.1 (each_right P (below c) rest q) (sorted-right lt (below c) rest s))
        ∙ sym
        (insert-append-right lt x (below c) rest
        (⊎_elim
        (past_first no_move (below c) (below e) (under cs) some q s)
        (past-last no_move (below c) (filled-some (suc h) c a.0) (each_left P (below c) rest q) (sorted-left lt (below c) rest s))
        (goes-past d (suc h) x c e t))))

  enter_node-moves : (h : ℕ) (es : List (Entry h)) → 0 < length es → Each (Filled h) es → Each P (moves_under (suc h) es)
      → Sorted lt (moves_under (suc h) es) → moves_under (suc h) (enter_node d h x es) ≡ insert_by lt x (moves_under (suc h) es)
  unfolding enter_node insert moves_under
  enter_node-moves zero ms g a q s = leaf-moves (insert_by lt x ms) ∙ ap (insert_by lt x) (sym (leaf-moves ms))
  enter_node-moves (suc h) es g a q s =
      into-child h (λ c. split d h (enter_node d h x c))
      (λ c f r u.
      let w = filled-full h c f in
      split_moves d h (enter_node d h x c) ∙ enter_node-moves h c (omega (arith, w.least)) w.under r u)
      es g a q s

  -- That no move comes before an earlier one is enough: so it is said of moves entered again, before their list is known to rise.
  pub enter-moves-sorted : (t : Tree) → filled_tree t ≡ true → Each P (moves_of t) → Sorted lt (moves_of t)
      → moves_of (enter_tree d x t) ≡ insert d x (moves_of t)
  unfolding enter_tree moves_of insert insert_by
  enter-moves-sorted empty f q s = leaf-moves (x ∷ [])
  enter-moves-sorted (rooted h es) f q s =
      let g = tree-full h es f in
      root_of-moves d h (enter_node d h x es) ∙ enter_node-moves h es (omega (arith, root_least-range h, g.least)) g.under q s

  -- ---- a tree that keeps the rules

  module _ (t : Tree) (r : ruled d t ≡ true) (q : Each P (moves_of t)) where
    pub enter-moves : moves_of (enter_tree d x t) ≡ insert d x (moves_of t)
    unfolding ordered
    enter-moves = enter-moves-sorted t (ruled-filled d t r) q (rising-sorted lt P o (moves_of t) q (ruled-ordered d t r))

    pub enter-ruled : ¬ Memᴰ x (moves_of t) → ruled d (enter_tree d x t) ≡ true
    unfolding ordered insert
    enter-ruled n =
        both-ruled d (enter_tree d x t) (enter-filled d x t (ruled-filled d t r))
        (ap (ordered d) enter-moves ∙ rising-insert P lt o x (moves_of t) p q (ruled-ordered d t r) n)
