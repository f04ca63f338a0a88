-- Withdrawing on the line is withdrawing on the nest.
use Rattle.std.specs.Prelude.{ℕ, suc, Bool, true, false, cond, ◌||◌, ◌≡◌}
use Rattle.std.proofs.Math.Bool.{not}
use mathlib.Core.List.Memᴰ
use mathlib.Core.List.Permᴰ
use mathlib.Core.List.{List, [], ◌∷◌, ◌++◌, map, Memᴰ}
use Rattle.std.proofs.Math.Logic.{⊎_elim}
use Rattle.std.proofs.Math.Path.{refl, ap, ap₂, subst}
use Rattle.std.proofs.Common.{sym, ◌∙◌, eqb-true}
use Rattle.model.specs.Basics.{Each, select, any, has, distinct, count, rising}
use Rattle.model.specs.Moves.{Move, move_before, insert, in_z_order, ordered}
use Rattle.model.specs.Tree.{Entry, Tree, empty, rooted, moves_of, filled_tree, ruled}
use Rattle.model.specs.Calls.{on_board}
use Rattle.model.specs.Entering.{enter_tree}
use Rattle.model.specs.Withdrawing.{without, withdraw_node, settled, enter_all, withdraw_tree}
use Rattle.model.proofs.Laws.Bool.{by_cases, and_left, and_right, not_back, both_ways}
use Rattle.model.proofs.Laws.Basics.{Once, each-mono, each-mem, mem-each, each_left, each_right, each_append, select-mem, each-select, count-cons, count_none, any_false}
use Rattle.model.proofs.Laws.Sorting.{StrictOrder, BeforeEach, rising-left, rising-right, rising-across, rising-append, rising-select, rising-once, sort-rising, insert-mem, each-insert}
use Rattle.model.proofs.Laws.Permuted.{sort-perm, each-perm}
use Rattle.model.proofs.Laws.Order.{has-numbers}
use Rattle.model.proofs.Laws.Tree.{ruled-filled, ruled-ordered, both-ruled}
use Rattle.model.proofs.Laws.Entering.{enter-moves, enter-ruled}
use Rattle.model.proofs.Laws.Withdrawing.{left-filled}
use Rattle.line.specs.Line.{line_of, moves_in}
use Rattle.line.specs.Withdraw.{flat_enter_all, flat_withdraw}
use Rattle.line.specs.Laws.Enter.{flat-enter-ordered}
use Rattle.line.specs.Laws.Taken.{numbered, holds}
use Rattle.line.specs.Laws.Removed.{range_of, range_rows, flat-remove, Parted, parted}

-- ---- a list in order without some of a part of it

module _ {A : Type 0} (P : A → Type 0) (lt : A → A → Bool) (r : StrictOrder P lt) where
  apart : (xs ys : List A) → Each P (xs ++ ys) → rising lt (xs ++ ys) ≡ true → (x : A) → Memᴰ x xs → ¬ Memᴰ x ys
  apart xs ys p k x i j =
      let c = rising-across P lt r xs ys (each_left P xs ys p) (each_right P xs ys p) k in
      both_ways (each-mem (λ z. lt x z ≡ true) (each-mem (λ z. BeforeEach lt z ys) c i) j) (r.irrefl x (each-mem P (each_left P xs ys p) i))

  module _ (xs ys zs : List A) (p : Each P (xs ++ (ys ++ zs))) (k : rising lt (xs ++ (ys ++ zs)) ≡ true) where
    right-each : Each P (ys ++ zs)
    right-each = each_right P xs (ys ++ zs) p

    right-rising : rising lt (ys ++ zs) ≡ true
    right-rising = rising-right lt xs (ys ++ zs) k

    pub ends-each : Each P (xs ++ zs)
    ends-each = each_append P xs zs (each_left P xs (ys ++ zs) p) (each_right P ys zs right-each)

    pub ends-rising : rising lt (xs ++ zs) ≡ true
    ends-rising =
        rising-append lt xs zs (rising-left lt xs (ys ++ zs) k) (rising-right lt ys zs right-rising)
        (each-mono (λ x. BeforeEach lt x (ys ++ zs)) (λ x. BeforeEach lt x zs) xs (λ x. each_right (λ y. lt x y ≡ true) ys zs)
        (rising-across P lt r xs (ys ++ zs) (each_left P xs (ys ++ zs) p) right-each k))

    middle-each : Each P ys
    middle-each = each_left P ys zs right-each

    middle-rising : rising lt ys ≡ true
    middle-rising = rising-left lt ys zs right-rising

    middle-new : (q : A → Bool) → Each (λ x. ¬ Memᴰ x (xs ++ zs)) (select q ys)
    middle-new q =
        mem-each (λ x. ¬ Memᴰ x (xs ++ zs)) (select q ys)
        (λ x i j.
        let m = (select-mem q ys i).0 in
        ⊎_elim (λ a. apart xs (ys ++ zs) p k x a (Memᴰ.append_left zs m)) (apart ys zs right-each right-rising x m) (Memᴰ.append_cases xs j))

-- ---- the number of the move

pub one-numbered : (n : ℕ) (ms : List Move) → distinct (map (λ m. m.number) ms) ≡ true → on_board n ms ≡ true → count (numbered n) ms ≡ 1
unfolding on_board any distinct
one-numbered n [] u b = both_ways b refl
one-numbered n (m ∷ ms) u b =
    let numbers = map (λ m. m.number) ms in
    let c = count (numbered n) ms in
    count-cons (numbered n) m ms
    ∙ by_cases (numbered n m)
    (λ e.
    let off : on_board m.number ms ≡ false = sym (has-numbers m.number ms) ∙ not_back (has m.number numbers) (and_left (not (has m.number numbers)) (distinct numbers) u) in
    ap (λ (t : Bool). cond t (suc c) c) e
    ∙ ap suc (count_none (numbered n) ms (any_false (numbered n) ms (subst (λ (k : ℕ). on_board k ms ≡ false) (eqb-true m.number n e) off))))
    (λ e.
    ap (λ (t : Bool). cond t (suc c) c) e
    ∙ one-numbered n ms (and_right (not (has m.number numbers)) (distinct numbers) u) (sym (ap (λ (t : Bool). t || any (numbered n) ms) e) ∙ b))

-- ---- moves entered again

module _ (d : ℕ) (P : Move → Type 0) (r : StrictOrder P (move_before d)) where
  abbrev lt : Move → Move → Bool
  lt = move_before d

  flat-enter-all : (ms : List Move) (t : Tree) → ruled d t ≡ true → Each P ms → Each P (moves_of t) → Once ms
      → Each (λ m. ¬ Memᴰ m (moves_of t)) ms → line_of (enter_all d ms t) ≡ flat_enter_all d ms (line_of t)
  unfolding enter_all flat_enter_all insert
  flat-enter-all [] t k p q o new = refl
  flat-enter-all (m ∷ ms) t k p q o new =
      let e = enter-moves d P r m p.0 t k q in
      flat-enter-all ms (enter_tree d m t) (enter-ruled d P r m p.0 t k q new.0) p.1
      (subst (Each P) (sym e) (each-insert lt P m (moves_of t) p.0 q)) o.1
      (mem-each (λ x. ¬ Memᴰ x (moves_of (enter_tree d m t))) ms
      (λ x i j.
      ⊎_elim (λ a. o.0 (Memᴰ.cast (sym a) i)) (each-mem (λ y. ¬ Memᴰ y (moves_of t)) new.1 i)
      (insert-mem lt m (moves_of t) (subst (Memᴰ x) e j))))
      ∙ ap (flat_enter_all d ms) (flat-enter-ordered d P r m p.0 t (ruled-filled d t k) (ruled-ordered d t k) q new.0)

  module _ (n h : ℕ) (es : List (Entry h)) (w : Parted n h es) (q : Each P (moves_of (rooted h es))) (v : ordered d (moves_of (rooted h es)) ≡ true) where
    abbrev again : List Move
    again = without n w.between

    abbrev tree : Tree
    tree = settled h (withdraw_node n h es).entries

    each-whole : Each P (w.before ++ (w.between ++ w.after))
    each-whole = subst (Each P) w.whole q

    rising_whole : rising lt (w.before ++ (w.between ++ w.after)) ≡ true
    unfolding ordered
    rising_whole = subst (λ (ms : List Move). rising lt ms ≡ true) w.whole v

    each_again : Each P again
    unfolding without
    each_again = each-select (λ m. not (numbered n m)) P w.between (middle-each P lt r w.before w.between w.after each-whole rising_whole)

    rising-again : rising lt again ≡ true
    unfolding without
    rising-again =
        rising-select P lt r (λ m. not (numbered n m)) w.between
        (middle-each P lt r w.before w.between w.after each-whole rising_whole)
        (middle-rising P lt r w.before w.between w.after each-whole rising_whole)

    -- The moves of removed nodes, in order, are those of the range but the one.
    pub moves-in-order : in_z_order d (withdraw_node n h es).moves ≡ without n (moves_in (range_rows n (line_of (rooted h es))))
    unfolding in_z_order
    moves-in-order =
        sort-perm lt P r w.taken (each-perm P (Permᴰ.symm w.taken) each_again)
        ∙ sort-rising lt again rising-again
        ∙ ap (without n) (sym w.range)

    entered-again : filled_tree tree ≡ true → line_of (enter_all d again tree) ≡ flat_enter_all d again (line_of tree)
    unfolding ordered without
    entered-again f =
        flat-enter-all again tree
        (both-ruled d tree f
        (subst (λ (ms : List Move). rising lt ms ≡ true) (sym w.left) (ends-rising P lt r w.before w.between w.after each-whole rising_whole)))
        each_again
        (subst (Each P) (sym w.left) (ends-each P lt r w.before w.between w.after each-whole rising_whole))
        (rising-once P lt r again each_again rising-again)
        (subst (λ (ms : List Move). Each (λ m. ¬ Memᴰ m ms) again) (sym w.left)
        (middle-new P lt r w.before w.between w.after each-whole rising_whole (λ m. not (numbered n m))))

  -- ---- withdrawing

  pub flat-withdraw : (n : ℕ) (t : Tree) → ruled d t ≡ true → Each P (moves_of t) → distinct (map (λ m. m.number) (moves_of t)) ≡ true
      → on_board n (moves_of t) ≡ true → line_of (withdraw_tree d n t) ≡ flat_withdraw d n (line_of t)
  unfolding line_of withdraw_tree flat_withdraw moves_of holds on_board any range_rows range_of
  flat-withdraw n empty k q u b = both_ways b refl
  flat-withdraw n (rooted h es) k q u b =
      let f = ruled-filled d (rooted h es) k in
      let v = ruled-ordered d (rooted h es) k in
      let o : holds n (suc h) es ≡ 1 = one-numbered n (moves_of (rooted h es)) u b in
      let w = parted n h es f o in
      let e = ap (without n) w.range in
      let tree = settled h (withdraw_node n h es).entries in
      ap (λ (ms : List Move). line_of (enter_all d ms tree)) (moves-in-order n h es w q v ∙ e)
      ∙ entered-again n h es w q v (left-filled d n h es f)
      ∙ ap₂ (flat_enter_all d) (sym e) (flat-remove n h es f o)
