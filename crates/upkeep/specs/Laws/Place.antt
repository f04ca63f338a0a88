-- The place of a new move parts a line in order: those before it stand before the move, the others do not.
use Prim.Native.Nat.{ℕ, zero, suc, ◌<◌, ◌≤◌}
use Rattle.std.specs.Prelude.{Bool, cond, ◌≡◌, get_or}
use Rattle.std.proofs.Math.Bool.{true, false}
use mathlib.Core.List.{List, [], ◌∷◌}
use Rattle.std.proofs.Math.Path.{refl}
use Rattle.std.proofs.Common.{le_of_suc-le-suc, not-suc-le-zero}
use Rattle.std.proofs.Math.ListN.{length}
use Rattle.model.specs.Basics.{Each, rising}
use Rattle.model.specs.Moves.{Move, move_before}
use Rattle.model.proofs.Laws.Bool.{by_cases, both_ways}
use Rattle.model.proofs.Laws.Sorting.{StrictOrder, rising-head, rising-tail}
use Rattle.line.specs.Line.{Placed, none, moves_in}
use Rattle.line.specs.Enter.{place_for}

module _ (d : ℕ) (x : Move) where
  low-cons : (r : Placed) (rs : List Placed) (t : Bool) (p : ℕ) → move_before d r.move x ≡ t → ((i : ℕ) → i < p → move_before d (get_or rs i none).move x ≡ true)
      → (i : ℕ) → i < cond t (suc p) 0 → move_before d (get_or (r ∷ rs) i none).move x ≡ true
  low-cons r rs false p e f i h = absurd (not-suc-le-zero h)
  low-cons r rs true p e f zero h = e
  low-cons r rs true p e f (suc i) h = f i (le_of_suc-le-suc h)

  pub place-low : (rs : List Placed) (i : ℕ) → i < place_for d x rs → move_before d (get_or rs i none).move x ≡ true
  unfolding place_for
  place-low [] i h = absurd (not-suc-le-zero h)
  place-low (r ∷ rs) i h = low-cons r rs (move_before d r.move x) (place_for d x rs) refl (place-low rs) i h

  module _ (P : Move → Type 0) (o : StrictOrder P (move_before d)) (px : P x) where
    -- none of those behind a move that does not stand before x does
    behind : (y z : Move) → P y → P z → move_before d y x ≡ false → move_before d y z ≡ true → move_before d z x ≡ false
    behind y z py pz e h = by_cases (move_before d z x) (λ k. both_ways (o.trans y z x py pz px h k) e) (λ k. k)

    high-cons : (r : Placed) (rs : List Placed) → P r.move → Each P (moves_in rs) → rising (move_before d) (r.move ∷ moves_in rs) ≡ true
        → (t : Bool) (p : ℕ) → move_before d r.move x ≡ t → ((i : ℕ) → p ≤ i → i < length rs → move_before d (get_or rs i none).move x ≡ false)
        → (i : ℕ) → cond t (suc p) 0 ≤ i → i < suc (length rs) → move_before d (get_or (r ∷ rs) i none).move x ≡ false
    unfolding moves_in
    high-cons r rs pr es h true p e f zero l k = absurd (not-suc-le-zero l)
    high-cons r rs pr es h true p e f (suc i) l k = f i (le_of_suc-le-suc l) (le_of_suc-le-suc k)
    high-cons r rs pr es h false p e f zero l k = e
    high-cons r rs pr es h false p e f (suc i) l k =
        later rs i es (rising-head P (move_before d) o r.move (moves_in rs) pr es h) (le_of_suc-le-suc k)
      where
        later : (rs : List Placed) (i : ℕ) → Each P (moves_in rs) → Each (λ z. move_before d r.move z ≡ true) (moves_in rs) → i < length rs → move_before d (get_or rs i none).move x ≡ false
        later [] i es b k = absurd (not-suc-le-zero k)
        later (s ∷ ss) zero es b k = behind r.move s.move pr es.0 e b.0
        later (s ∷ ss) (suc i) es b k = later ss i es.1 b.1 (le_of_suc-le-suc k)

    pub place-high : (rs : List Placed) → Each P (moves_in rs) → rising (move_before d) (moves_in rs) ≡ true
        → (i : ℕ) → place_for d x rs ≤ i → i < length rs → move_before d (get_or rs i none).move x ≡ false
    unfolding place_for moves_in
    place-high [] es h i l k = absurd (not-suc-le-zero k)
    place-high (r ∷ rs) es h i l k =
        high-cons r rs es.0 es.1 h (move_before d r.move x) (place_for d x rs) refl
        (place-high rs es.1 (rising-tail (move_before d) r.move (moves_in rs) h)) i l k
