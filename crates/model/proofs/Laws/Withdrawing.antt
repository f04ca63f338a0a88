-- Withdrawing: the moves of all other numbers stay, each once and in order, and the tree keeps the rules.
use Prim.Native.Nat.{ℕ, zero, suc, ◌≤◌}
use Rattle.std.specs.Prelude.{Bool, true, false, ◌≡◌, ltb, eqb, length}
use Rattle.std.proofs.Math.Bool.{not}
use Rattle.std.proofs.Math.Path.{refl, ap, subst, subst₂}
use Rattle.std.proofs.Common.{sym, ◌∙◌}
use mathlib.Core.List.Permᴰ
use mathlib.Core.List.Sublistᴰ
use mathlib.Core.List.{List, [], ◌∷◌, ◌++◌, flat_map, append-nil, Memᴰ, Permᴰ, Sublistᴰ}
use borrow.Author.Tests.{ltb-false, eq-eqb}
use native.Mathlib.Omega.{arith}
use Rattle.model.specs.Basics.{Each, select, sort_by}
use Rattle.model.specs.Moves.{Move, move_before, insert, in_z_order, ordered}
use Rattle.model.specs.Tree.{Entry, Tree, empty, rooted, moves_under, moves_of, root_least, filled_tree, ruled}
use Rattle.model.specs.Entering.{enter_tree}
use Rattle.model.specs.Withdrawing.{without, Remainder, keep_child, keep_children, withdraw_node, settled, enter_all, withdraw_tree}
use Rattle.model.specs.Calls.{on_board}
use Rattle.model.proofs.Laws.Bool.{cond_cases, both_ways, not-flip, not_back}
use Rattle.model.proofs.Laws.Basics.{select-append, select-all, select-mem, any_false, each-mono, each_left, each_right}
use Rattle.model.proofs.Laws.Sorting.{StrictOrder, each-insert, each-sort, rising-select}
use Rattle.model.proofs.Laws.Permuted.{Sorted, sorted-sublist, sorted_insert, rising-sorted, each-sublist, select-sublist, sublist-length, each-perm, perm-equal, perm-four, perm-append, perm-insert, perm-sort, sorted_ext}
use Rattle.model.proofs.Laws.Tree.{Filled, full-filled, filled-full, full-tree, tree-full, leaf-moves, leaf-filled, ruled-filled, ruled-ordered, both-ruled}
use Rattle.model.proofs.Laws.Entering.{enter-filled, enter-moves-sorted}

-- ---- what is left of a node

pub without-sublist : (n : ℕ) (ms : List Move) → Sublistᴰ (without n ms) ms
unfolding without
without-sublist n ms = select-sublist (λ m. not (eqb m.number n)) ms

-- no move has the number
pub without-off : (n : ℕ) (ms : List Move) → on_board n ms ≡ false → without n ms ≡ ms
unfolding without on_board
without-off n ms h =
    select-all (λ m. not (eqb m.number n)) ms
    (each-mono (λ m. eqb m.number n ≡ false) (λ m. not (eqb m.number n) ≡ true) ms (λ m. not-flip (eqb m.number n))
    (any_false (λ m. eqb m.number n) ms h))

pub without_gone : (m : Move) (ms : List Move) → ¬ Memᴰ m (without m.number ms)
unfolding without
without_gone m ms k =
    let n = m.number in
    both_ways (eq-eqb n n refl) (not_back (eqb n n) (select-mem (λ m. not (eqb m.number n)) ms k).1)

-- Nothing is lost and nothing stands twice: what is left and what was taken out make up the moves of other numbers.
record Kept (n h : ℕ) (es : List (Entry h)) (l : Remainder h) : Type 0 where
  same : Permᴰ (moves_under (suc h) l.entries ++ l.moves) (without n (moves_under (suc h) es))
  part : Sublistᴰ (moves_under (suc h) l.entries) (moves_under (suc h) es)
  under : Each (Filled h) l.entries
  most : length l.entries ≤ length es

module _ (n : ℕ) where
  kept-leaf : (ms : List Move) → Kept n zero ms (withdraw_node n zero ms)
  unfolding withdraw_node
  kept-leaf ms =
      record {
        same = perm-equal (append-nil (moves_under 1 (without n ms)) ∙ leaf-moves (without n ms) ∙ ap (without n) (sym (leaf-moves ms)));
        part = subst₂ Sublistᴰ (sym (leaf-moves (without n ms))) (sym (leaf-moves ms)) (without-sublist n ms);
        under = leaf-filled (without n ms);
        most = sublist-length (without-sublist n ms);
      }

  module _ (h : ℕ) (c : List (Entry h)) (cs : List (List (Entry h))) (k : Remainder h) (rest : Remainder (suc h)) (m : length c ≤ 8)
      (f : Kept n h c k) (g : Kept n (suc h) cs rest) where
    abbrev below : List (Entry h) → List Move
    below = moves_under (suc h)

    abbrev under : List (List (Entry h)) → List Move
    under = moves_under (suc (suc h))

    both : Permᴰ ((below k.entries ++ k.moves) ++ (under rest.entries ++ rest.moves)) (without n (under (c ∷ cs)))
    unfolding without moves_under flat_map
    both =
        Permᴰ.trans (perm-append f.same g.same)
        (perm-equal (sym (select-append (λ (m : Move). not (eqb m.number n)) (below c) (under cs))))

    keep-child : Kept n (suc h) (c ∷ cs) (keep_child h k rest)
    unfolding keep_child moves_under flat_map
    keep-child =
        cond_cases (Kept n (suc h) (c ∷ cs)) (ltb (length k.entries) 3)
        (λ e. record {
          same = Permᴰ.trans (perm-four [] (under rest.entries) (below k.entries ++ k.moves) rest.moves) both;
          part = Sublistᴰ.append (Sublistᴰ.nil-sublist (below c)) g.part;
          under = g.under;
          most = omega (arith, g.most);
        })
        (λ e. record {
          same = Permᴰ.trans (perm-four (below k.entries) (under rest.entries) k.moves rest.moves) both;
          part = Sublistᴰ.append f.part g.part;
          under = (
            full-filled h k.entries
                (record { least = ltb-false (length k.entries) 3 e; most = omega (arith, f.most); under = f.under }),
            g.under,
          );
          most = omega (arith, g.most);
        })

  keep-children : (h : ℕ) (f : List (Entry h) → Remainder h) → ((c : List (Entry h)) → Filled (suc h) c → Kept n h c (f c))
      → (cs : List (List (Entry h))) → Each (Filled (suc h)) cs → Kept n (suc h) cs (keep_children h f cs)
  unfolding keep_children moves_under flat_map without select
  keep-children h f step [] a = record { same = Permᴰ.nil; part = Sublistᴰ.slnil; under = tt; most = omega arith }
  keep-children h f step (c ∷ cs) a =
      keep-child h c cs (f c) (keep_children h f cs) (filled-full h c a.0).most (step c a.0) (keep-children h f step cs a.1)

  withdraw-kept : (h : ℕ) (es : List (Entry h)) → Each (Filled h) es → Kept n h es (withdraw_node n h es)
  unfolding withdraw_node
  withdraw-kept zero ms a = kept-leaf ms
  withdraw-kept (suc h) es a = keep-children h (withdraw_node n h) (λ c f. withdraw-kept h c (filled-full h c f).under) es a

-- ---- the root that is left

pub settled-moves : (h : ℕ) (es : List (Entry h)) → moves_of (settled h es) ≡ moves_under (suc h) es
unfolding settled moves_of moves_under flat_map
settled-moves zero [] = refl
settled-moves zero (m ∷ ms) = refl
settled-moves (suc h) [] = refl
settled-moves (suc h) (c ∷ []) = settled-moves h c ∙ sym (append-nil (moves_under (suc h) c))
settled-moves (suc h) (c ∷ e ∷ es) = refl

settled-filled : (h : ℕ) (es : List (Entry h)) → length es ≤ 8 → Each (Filled h) es → filled_tree (settled h es) ≡ true
unfolding settled filled_tree root_least
settled-filled zero [] l a = refl
settled-filled zero (m ∷ ms) l a = full-tree zero (m ∷ ms) (record { least = omega arith; most = l; under = a })
settled-filled (suc h) [] l a = refl
settled-filled (suc h) (c ∷ []) l a = let f = filled-full h c a.0 in settled-filled h c f.most f.under
settled-filled (suc h) (c ∷ e ∷ es) l a = full-tree (suc h) (c ∷ e ∷ es) (record { least = omega arith; most = l; under = a })

-- ---- moves entered again

enter_all-filled : (d : ℕ) (ms : List Move) (t : Tree) → filled_tree t ≡ true → filled_tree (enter_all d ms t) ≡ true
unfolding enter_all
enter_all-filled d [] t f = f
enter_all-filled d (m ∷ ms) t f = enter_all-filled d ms (enter_tree d m t) (enter-filled d m t f)

module _ (d : ℕ) (P : Move → Type 0) (o : StrictOrder P (move_before d)) where
  abbrev lt : Move → Move → Bool
  lt = move_before d

  enter_all-moves : (ms : List Move) (t : Tree) → filled_tree t ≡ true → Each P ms → Each P (moves_of t) → Sorted lt (moves_of t)
      → Permᴰ (moves_of (enter_all d ms t)) (moves_of t ++ ms) × Sorted lt (moves_of (enter_all d ms t))
  unfolding enter_all insert
  enter_all-moves [] t f h q s = (Permᴰ.symm (Permᴰ.append-nil (moves_of t)), s)
  enter_all-moves (m ∷ ms) t f h q s =
      let ns = moves_of t in
      let e = enter-moves-sorted d P o m h.0 t f q s in
      let v = subst (Each P) (sym e) (each-insert lt P m ns h.0 q) in
      let w = subst (Sorted lt) (sym e) (sorted_insert lt P o m ns h.0 q s) in
      let r = enter_all-moves ms (enter_tree d m t) (enter-filled d m t f) h.1 v w in
      let k = Permᴰ.append_right ms (Permᴰ.trans (perm-equal e) (perm-insert lt m ns)) in
      (Permᴰ.trans r.0 (Permᴰ.trans k (Permᴰ.symm (Permᴰ.middle m ns ms))), r.1)

  again-moves : (n h : ℕ) (es : List (Entry h)) (l : Remainder h) → Kept n h es l → filled_tree (settled h l.entries) ≡ true
      → Each P (moves_under (suc h) es) → Sorted lt (moves_under (suc h) es)
      → moves_of (enter_all d (in_z_order d l.moves) (settled h l.entries)) ≡ without n (moves_under (suc h) es)
  unfolding in_z_order
  again-moves n h es l k f q s =
      let kept = moves_under (suc h) l.entries in
      let w = without-sublist n (moves_under (suc h) es) in
      let r = each-sublist P w q in
      let v = each-perm P (Permᴰ.symm k.same) r in
      let e = settled-moves h l.entries in
      let c = each-sort lt P l.moves (each_right P kept l.moves v) in
      let a = subst (Each P) (sym e) (each_left P kept l.moves v) in
      let b = subst (Sorted lt) (sym e) (sorted-sublist lt k.part s) in
      let g = enter_all-moves (sort_by lt l.moves) (settled h l.entries) f c a b in
      let m = Permᴰ.trans g.0 (Permᴰ.trans (perm-append (perm-equal e) (perm-sort lt l.moves)) k.same) in
      sorted_ext lt P o m (each-perm P (Permᴰ.symm m) r) g.1 (sorted-sublist lt w s)

-- ---- the tree after a withdrawal

module _ (d n : ℕ) where
  pub left-filled : (h : ℕ) (es : List (Entry h)) → filled_tree (rooted h es) ≡ true → filled_tree (settled h (withdraw_node n h es).entries) ≡ true
  left-filled h es f =
      let g = tree-full h es f in
      let k = withdraw-kept n h es g.under in
      settled-filled h (withdraw_node n h es).entries (omega (arith, k.most, g.most)) k.under

  pub withdraw-filled : (t : Tree) → filled_tree t ≡ true → filled_tree (withdraw_tree d n t) ≡ true
  unfolding withdraw_tree
  withdraw-filled empty f = f
  withdraw-filled (rooted h es) f =
      let l = withdraw_node n h es in
      enter_all-filled d (in_z_order d l.moves) (settled h l.entries) (left-filled h es f)

module _ (d : ℕ) (P : Move → Type 0) (o : StrictOrder P (move_before d)) (n : ℕ) where
  withdraw-moves-sorted : (t : Tree) → filled_tree t ≡ true → Each P (moves_of t) → Sorted (move_before d) (moves_of t)
      → moves_of (withdraw_tree d n t) ≡ without n (moves_of t)
  unfolding withdraw_tree moves_of without select
  withdraw-moves-sorted empty f q s = refl
  withdraw-moves-sorted (rooted h es) f q s =
      again-moves d P o n h es (withdraw_node n h es) (withdraw-kept n h es (tree-full h es f).under) (left-filled d n h es f) q s

  module _ (t : Tree) (r : ruled d t ≡ true) (q : Each P (moves_of t)) where
    pub withdraw-moves : moves_of (withdraw_tree d n t) ≡ without n (moves_of t)
    unfolding ordered
    withdraw-moves =
        withdraw-moves-sorted t (ruled-filled d t r) q (rising-sorted (move_before d) P o (moves_of t) q (ruled-ordered d t r))

    pub withdraw-ruled : ruled d (withdraw_tree d n t) ≡ true
    unfolding ordered without
    withdraw-ruled =
        both-ruled d (withdraw_tree d n t) (withdraw-filled d n t (ruled-filled d t r))
        (ap (ordered d) withdraw-moves
        ∙ rising-select P (move_before d) o (λ m. not (eqb m.number n)) (moves_of t) q (ruled-ordered d t r))
