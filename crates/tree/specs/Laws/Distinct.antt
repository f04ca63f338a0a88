-- The numbers of rows that hold a tree stand once each.
use Prim.Native.Nat.{ℕ, suc, ◌+◌, ◌<◌}
use Rattle.std.proofs.Math.Bool.{Bool, true, false, not}
use mathlib.Core.List.Memᴰ
use mathlib.Core.List.{List, [], ◌∷◌, ◌++◌, map}
use Rattle.std.specs.Prelude.{◌≡◌}
use Rattle.std.proofs.Math.Path.{refl, sym, ap, subst}
use Rattle.std.proofs.Common.{◌∙◌}
use native.Mathlib.Omega.{arith}
use borrow.Author.Tests.{eqb-false, eq-eqb}
use Rattle.std.proofs.Math.ListN.{length}
use Rattle.model.specs.Basics.{Each, cons_if, select, any, distinct, count}
use Rattle.model.specs.Moves.{Move, move_before, ordered}
use Rattle.model.specs.Tree.{Tree, moves_of}
use Rattle.model.specs.Calls.{on_board}
use Rattle.model.specs.Sound.{Fit}
use Rattle.model.specs.Withdrawing.{without, withdraw_tree}
use Rattle.model.proofs.Laws.Bool.{by_cases}
use Rattle.model.proofs.Laws.Basics.{each-mem, mem-each, any-mem, any-witness, count-append, count-pos}
use Rattle.model.proofs.Laws.Sorting.{rising-once}
use Rattle.model.proofs.Laws.Order.{move-path, move-order}
use Rattle.model.proofs.Laws.Numbers.{once-distinct}
use Rattle.model.proofs.Laws.Tree.{ruled-ordered}
use Rattle.model.proofs.Laws.Withdrawing.{withdraw-moves}
use Rattle.line.specs.Line.{moves_in}
use Rattle.line.specs.Withdraw as line
use Rattle.line.specs.Laws.Line.{moves-line}
use Rattle.line.specs.Laws.Taken.{numbered}
use Rattle.line.specs.Laws.Withdraw.{one-numbered}
use Rattle.promises.specs.Layout.{number_in, costs_in, move_in, line_from, tab}
use Rattle.promises.proofs.Laws.Tab.{length-tab, each-tab}
use Rattle.memory.specs.Laws.Places.{any_to-found, any-tab}
use Rattle.memory.specs.Laws.Lines.{moves_in-line}
use Rattle.tree.specs.Hold.{RowsHold}
use Rattle.tree.specs.Laws.Again.{apart-tab}
use Rattle.tree.specs.Laws.Saving.{place-of}

-- ---- lists of moves

module _ {A : Type 0} (p : A → Bool) where
  pub count-rest : (xs : List A) → length (select (λ x. not (p x)) xs) + count p xs ≡ length xs
  unfolding select count
  count-rest [] = refl
  count-rest (x ∷ xs) = go (p x) (count-rest xs)
    where
      go : (b : Bool) → length (select (λ x. not (p x)) xs) + length (select p xs) ≡ length xs
          → length (cons_if (not b) x (select (λ x. not (p x)) xs)) + length (cons_if b x (select p xs)) ≡ suc (length xs)
      go true e = omega arith
      go false e = omega arith

  none_any : (xs : List A) → count p xs ≡ 0 → any p xs ≡ false
  none_any xs e = by_cases (any p xs) (λ t. let w = any-witness p xs t in absurd (omega (arith, count-pos p w.1 w.2))) (λ f. f)

-- Where no number stands twice, those of a part stand nowhere else.
pub numbers_apart : (xs ys zs : List Move) → distinct (map (λ x. x.number) (xs ++ (ys ++ zs))) ≡ true → Each (λ y. on_board y.number (xs ++ zs) ≡ false) ys
unfolding on_board
numbers_apart xs ys zs u =
    mem-each (λ y. on_board y.number (xs ++ zs) ≡ false) ys
    (λ y i.
    let p : Move → Bool = numbered y.number in
    let here : p y ≡ true = eq-eqb y.number y.number refl in
    let one = one-numbered y.number (xs ++ (ys ++ zs)) u (any-mem p (Memᴰ.append_right xs (Memᴰ.append_left zs i)) here) in
    none_any p (xs ++ zs)
    (omega (arith, one, count-append p xs (ys ++ zs), count-append p ys zs, count-append p xs zs, count-pos p i here)))

-- ---- rows

module _ {c d n : ℕ} {m : List ℕ} {t : Tree} (h : RowsHold c d n m t) where
  pub held-moves : moves_of t ≡ tab (move_in c d m) n
  held-moves = sym (moves-line t) ∙ ap moves_in (sym h.line) ∙ moves_in-line c d n m

  pub held-length : length (moves_of t) ≡ n
  held-length = ap length held-moves ∙ length-tab (move_in c d m) n

  abbrev ByNumber : Move → Type 0
  ByNumber x = x.costs ≡ costs_in c d m x.number

  by_number : Each ByNumber (moves_of t)
  unfolding move_in
  by_number = subst (Each ByNumber) (sym held-moves) (each-tab (move_in c d m) ByNumber n (λ i l. refl))

  -- Moves in order are different ones, and equal numbers would have equal costs.
  pub held-once : distinct (map (λ x. x.number) (moves_of t)) ≡ true
  unfolding ordered
  held-once =
      once-distinct (λ x. x.number) (moves_of t)
      (rising-once (Fit c d) (move_before d) (move-order d c h.readable.dimension) (moves_of t) h.fits (ruled-ordered d t h.rules))
      (λ x y i j e. move-path x y (e, each-mem ByNumber by_number i ∙ ap (costs_in c d m) e ∙ sym (each-mem ByNumber by_number j)))

  module _ (p : ℕ) (place : p < n) where
    pub held-board : on_board (number_in c m p) (moves_of t) ≡ true
    unfolding on_board move_in
    held-board =
        let same : Move → Bool = numbered (number_in c m p) in
        ap (any same) held-moves ∙ any-tab (move_in c d m) same n ∙ any_to-found (λ i. same (move_in c d m i)) n p place (eq-eqb (number_in c m p) (number_in c m p) refl)

    pub held_place : p ≡ line.place_of (number_in c m p) (line_from c d n m)
    unfolding move_in
    held_place =
        let once = subst (λ (ms : List Move). distinct (map (λ x. x.number) ms) ≡ true) held-moves held-once in
        (place-of c n (number_in c m p) m p (omega arith)
        (λ k l. eqb-false (number_in c m k) (number_in c m p) (apart-tab (λ x. x.number) (move_in c d m) n k p once l place))
        (λ l. refl)).is d

    pub held_one : count (numbered (number_in c m p)) (moves_of t) ≡ 1
    held_one = one-numbered (number_in c m p) (moves_of t) held-once held-board

    pub held-rest : suc (length (moves_of (withdraw_tree d (number_in c m p) t))) ≡ n
    unfolding without
    held-rest =
        let v : ℕ = number_in c m p in
        let left = ap length (withdraw-moves d (Fit c d) (move-order d c h.readable.dimension) v t h.rules h.fits) in
        omega (arith, left, count-rest (numbered v) (moves_of t), held_one, held-length)
