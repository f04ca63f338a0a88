-- One turn of each loop that tests places.
use Prim.Native.Nat.{ℕ, suc, ◌+◌, ◌-◌, ◌≤◌, ◌<◌}
use Rattle.std.specs.Prelude.{Bool, true, false, ◌&&◌, List, ◌≡◌, ltb}
use Rattle.std.proofs.Math.Bool.{not, beq}
use Rattle.std.proofs.Math.Path.{refl, ap}
use Rattle.std.proofs.Common.{sym, ap₂, ◌∙◌}
use native.Mathlib.Omega.{arith}
use borrow.Author.Tests.{ltb-true, lt-ltb, le-ltb, not-true}
use Rattle.model.specs.Moves.{move_before}
use Rattle.model.specs.Calls.{block_bad}
use Rattle.model.proofs.Laws.Bool.{and_left, and_right, and_both, and-false-right}
use Rattle.promises.specs.Layout.{number_in, block_in, move_in}
use Rattle.memory.specs.Room.{Numbers}
use Rattle.memory.specs.Tests.{all_to, number_right, numbers_right, order_right, is_flagged, is_listed, hidden_before, flags_right}
use Rattle.memory.specs.Laws.Places.{all_to-at, all_to-all, all_to-more, all_to-next, all_to-fails}

beq-not : (a b : Bool) → beq a (not b) ≡ not (beq a b)
beq-not true true = refl
beq-not true false = refl
beq-not false true = refl
beq-not false false = refl

-- ---- numbers

module _ (c : ℕ) (m : List ℕ) where
  pub listed_at : (i n : ℕ) → n ≡ number_in c m i → is_listed c m i ≡ is_flagged c m n
  unfolding is_listed
  listed_at i n e = ap (is_flagged c m) (sym e)

  abbrev block : ℕ → ℕ
  block i = block_in c m (number_in c m i)

  pub numbers-right : (n : ℕ) → numbers_right c n m ≡ true → Numbers c n m
  unfolding numbers_right number_right
  numbers-right n h i l = ltb-true (number_in c m i) c (and_left (ltb (number_in c m i) c) (not (block_bad (block i))) (all_to-at (number_right c m) n i l h))

  pub blocks-right : (n : ℕ) → numbers_right c n m ≡ true → (i : ℕ) → i < n → block_bad (block_in c m (number_in c m i)) ≡ false
  unfolding numbers_right number_right
  blocks-right n h i l = not-true (block_bad (block i)) (and_right (ltb (number_in c m i) c) (not (block_bad (block i))) (all_to-at (number_right c m) n i l h))

  pub right-numbers : (n : ℕ) → Numbers c n m → ((i : ℕ) → i < n → block_bad (block_in c m (number_in c m i)) ≡ false) → numbers_right c n m ≡ true
  unfolding numbers_right number_right
  right-numbers n h k =
      all_to-all (number_right c m) n
      (λ i l. and_both (ltb (number_in c m i) c) (not (block_bad (block i))) (lt-ltb (number_in c m i) c (h i l)) (ap not (k i l)))

  pub numbers-none : numbers_right c 0 m ≡ true
  unfolding numbers_right all_to
  numbers-none = refl

  pub numbers_more : (i : ℕ) → numbers_right c i m ≡ true → number_in c m i < c → block_bad (block_in c m (number_in c m i)) ≡ false → numbers_right c (i + 1) m ≡ true
  unfolding numbers_right number_right
  numbers_more i h l k =
      all_to-more (number_right c m) i h
      (and_both (ltb (number_in c m i) c) (not (block_bad (block i))) (lt-ltb (number_in c m i) c l) (ap not k))

  pub numbers-fail : (n i : ℕ) → i < n → c ≤ number_in c m i → numbers_right c n m ≡ false
  unfolding numbers_right number_right
  numbers-fail n i k l = all_to-fails (number_right c m) n i k (ap (λ (b : Bool). b && not (block_bad (block i))) (le-ltb (number_in c m i) c l))

  pub blocks-fail : (n i : ℕ) → i < n → block_bad (block_in c m (number_in c m i)) ≡ true → numbers_right c n m ≡ false
  unfolding numbers_right number_right
  blocks-fail n i k l =
      all_to-fails (number_right c m) n i k
      (and-false-right (ltb (number_in c m i) c) (not (block_bad (block i))) (ap not l))

module _ (c d : ℕ) (m : List ℕ) where
  -- ---- order

  next_before : ℕ → Bool
  next_before i = move_before d (move_in c d m i) (move_in c d m (suc i))

  here : (i : ℕ) → 0 < i → next_before (i - 1) ≡ move_before d (move_in c d m (i - 1)) (move_in c d m i)
  unfolding next_before
  here i l = let e : suc (i - 1) ≡ i = omega arith in ap (λ (j : ℕ). move_before d (move_in c d m (i - 1)) (move_in c d m j)) e

  pub order-none : order_right c d 1 m ≡ true
  unfolding order_right all_to
  order-none = refl

  pub order-more : (i : ℕ) → 0 < i → order_right c d i m ≡ true → move_before d (move_in c d m (i - 1)) (move_in c d m i) ≡ true → order_right c d (i + 1) m ≡ true
  unfolding order_right next_before
  order-more i l h e = all_to-next next_before i l h (here i l ∙ e)

  pub order-fail : (n i : ℕ) → 0 < i → i < n → move_before d (move_in c d m (i - 1)) (move_in c d m i) ≡ false → order_right c d n m ≡ false
  unfolding order_right next_before
  order-fail n i l k e = all_to-fails next_before (n - 1) (i - 1) (omega arith) (here i l ∙ e)

  pub order-end : (n i : ℕ) → i - 1 ≡ n - 1 → order_right c d i m ≡ order_right c d n m
  unfolding order_right
  order-end n i e = ap (all_to (λ j. move_before d (move_in c d m j) (move_in c d m (suc j)))) e

  -- ---- flags

  flag_right : ℕ → Bool
  flag_right i = beq (is_listed c m i) (not (hidden_before c d m i (move_in c d m i)))

  pub flags-none : flags_right c d 0 m ≡ true
  unfolding flags_right all_to
  flags-none = refl

  pub flags-more : (i : ℕ) → flags_right c d i m ≡ true → (listed hidden : Bool) → is_listed c m i ≡ listed → hidden_before c d m i (move_in c d m i) ≡ hidden
      → beq listed hidden ≡ false → flags_right c d (i + 1) m ≡ true
  unfolding flags_right flag_right
  flags-more i h listed hidden e f g =
      all_to-more flag_right i h (ap₂ (λ (a b : Bool). beq a (not b)) e f ∙ beq-not listed hidden ∙ ap not g)
