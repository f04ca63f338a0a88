-- Withdrawing a move: the rows under removed nodes go with it and are entered again.
use Rattle.std.specs.Prelude.{ℕ, zero, suc, ◌-◌, max, true, false, cond, ◌||◌, List, [], ◌∷◌, ◌++◌, ltb, eqb, length, get_or, take, drop}
use Rattle.model.specs.Moves.{Move}
use Rattle.model.specs.Withdrawing.{without}
use Rattle.line.specs.Line.{Placed, moves_in, heights_in}
use Rattle.line.specs.Places.{start_among, end_among, entries_among, height_at, entries, set_height}
use Rattle.line.specs.Enter.{flat_enter}

-- The place of the move of a number.
unfoldable pub place_of : ℕ → List Placed → ℕ
place_of n [] = 0
place_of n (r ∷ rs) = cond (eqb r.move.number n) 0 (suc (place_of n rs))

-- A range of rows, from a place up to another: an entry of some level.
pub record Range : Type 0 where
  pub from : ℕ
  pub to : ℕ

-- The range grows to the node one level up while that is not the root and would keep fewer than 3 entries.
unfoldable pub widened_among : ℕ → ℕ → Range → List ℕ → Range
widened_among zero l g ks = g
widened_among (suc f) l g ks =
    let s = start_among (suc l) g.from ks in
    let e = end_among (suc l) g.from ks in
    elim (eqb (get_or ks 0 0) (suc l) || ltb 3 (entries_among l s e ks))
    [ true ↦ g | false ↦ widened_among f (suc l) (record { from = s; to = e }) ks ]

abbrev pub widened : ℕ → ℕ → Range → List Placed → Range
widened f l g rs = widened_among f l g (heights_in rs)

-- Without a range: the row after it starts at least what the range started.
unfoldable pub lifted : ℕ → List Placed → List Placed
lifted k [] = []
lifted k (r ∷ rs) = record { move = r.move; height = max k r.height } ∷ rs

unfoldable pub cut_out : Range → List Placed → List Placed
cut_out g rs = take g.from rs ++ lifted (height_at rs g.from) (drop g.to rs)

-- While an upper root has one child, the first row loses a level.
unfoldable pub lowered : ℕ → List Placed → List Placed
lowered zero rs = rs
lowered (suc f) rs =
    elim (ltb 1 (height_at rs 0)) [
      | true ↦
          elim (ltb 1 (entries (height_at rs 0 - 1) 0 (length rs) rs))
          [ true ↦ rs | false ↦ lowered f (set_height 0 (height_at rs 0 - 1) rs) ]
      | false ↦ rs
    ]

unfoldable pub flat_enter_all : ℕ → List Move → List Placed → List Placed
flat_enter_all d [] rs = rs
flat_enter_all d (m ∷ ms) rs = flat_enter_all d ms (flat_enter d m rs)

unfoldable pub flat_withdraw : ℕ → ℕ → List Placed → List Placed
flat_withdraw d n rs =
    let p = place_of n rs in
    let g = widened (height_at rs 0) 0 (record { from = p; to = suc p }) rs in
    flat_enter_all d (without n (moves_in (take (g.to - g.from) (drop g.from rs)))) (lowered (height_at rs 0) (cut_out g rs))
