-- Rows that a load accepts: their numbers are below C and different, so there are at most C of them, and their blocks are bytes.
use Rattle.std.specs.Prelude.{ℕ, suc, ◌≤◌, ◌<◌, true, false, List, [], ◌∷◌, map, ◌≡◌, refl, leb, eqb, length}
use Rattle.std.proofs.Common.{ap, ◌∙◌, arith, leb-false}
use Rattle.zorder.specs.Refusal.{cost_past_bad}
use Rattle.zorder.proofs.Laws.Refusal.{first_passes, rest-passes}
use Rattle.zorder.specs.Between.{RowCosts}
use Rattle.model.specs.Basics.{Each, any, has, distinct}
use Rattle.model.specs.Moves.{InputRow, move_of}
use Rattle.model.specs.Calls.{block_bad, row_refusal, rows_refusal, accepted}
use Rattle.model.specs.Sound.{Fit}
use Rattle.model.proofs.Laws.Bool.{or-false-left, or-false-right}
use Rattle.model.proofs.Laws.Basics.{each-mono, each_both, each_map}
use Rattle.model.proofs.Laws.Order.{eqb-sym, distinct_cons}
use Rattle.model.proofs.Laws.Numbers.{distinct-length}
use Rattle.model.proofs.Laws.Blocks.{rows_pass, block-most}
use Rattle.loading.specs.Blocks.{Storable}
use Rattle.loading.specs.File.{Acceptable}

-- ---- one row

row-right : (c d : ℕ) (earlier : List ℕ) (r : InputRow) → row_refusal c d earlier r ≡ 0
    → (r.number < c) × (block_bad r.block ≡ false) × (has r.number earlier ≡ false)
unfolding row_refusal
row-right c d earlier r h =
    let after4 = rest-passes (leb c r.number) 3 _ h in
    let after11 = rest-passes (block_bad r.block) 10 _ after4 in
    let after7 = rest-passes (cost_past_bad d r.costs) 6 _ after11 in (
      leb-false c r.number (first_passes (leb c r.number) 3 _ h),
      first_passes (block_bad r.block) 10 _ after4,
      first_passes (has r.number earlier) 4 _ after7,
    )

-- ---- all rows

pub record Right (c : ℕ) (earlier : List ℕ) (rows : List InputRow) : Type 0 where
  pub below : Each (λ r. r.number < c) rows
  pub small : Each (λ r. block_bad r.block ≡ false) rows
  pub once : distinct (map (λ r. r.number) rows) ≡ true
  pub new : Each (λ r. has r.number earlier ≡ false) rows

pub rows_right : (c d place : ℕ) (earlier : List ℕ) (rows : List InputRow) → rows_refusal c d place earlier rows ≡ accepted → Right c earlier rows
unfolding distinct has any
rows_right c d place earlier [] h = record { below = tt; small = tt; once = refl; new = tt }
rows_right c d place earlier (r ∷ rs) h =
    let p = rows_pass c d place earlier r rs h in
    let first = row-right c d earlier r p.0 in
    let rest = rows_right c d (suc place) (r.number ∷ earlier) rs p.1 in
    record {
      below = (first.0, rest.below);
      small = (first.1, rest.small);
      once = distinct_cons (λ s. s.number) r rs
          (each-mono (λ s. has s.number (r.number ∷ earlier) ≡ false) (λ s. eqb r.number s.number ≡ false) rs
          (λ s k. eqb-sym r.number s.number ∙ or-false-left (eqb s.number r.number) (has s.number earlier) k) rest.new)
          rest.once;
      new = (
        first.2,
        each-mono (λ s. has s.number (r.number ∷ earlier) ≡ false) (λ s. has s.number earlier ≡ false) rs
            (λ s k. or-false-right (eqb s.number r.number) (has s.number earlier) k) rest.new,
      );
    }

-- ---- the moves of the rows

numbers-moves : (rows : List InputRow) → map (λ m. m.number) (map move_of rows) ≡ map (λ r. r.number) rows
unfolding move_of
numbers-moves [] = refl
numbers-moves (r ∷ rs) = ap (λ (ns : List ℕ). r.number ∷ ns) (numbers-moves rs)

module _ (c d : ℕ) (rows : List InputRow) (a : Acceptable c d rows) where
  right : Right c [] rows
  right = rows_right c d 0 [] rows a.right

  pub rows_few : length rows ≤ c
  rows_few = distinct-length (λ r. r.number) c rows right.once right.below

  pub moves-once : distinct (map (λ m. m.number) (map move_of rows)) ≡ true
  moves-once = ap distinct (numbers-moves rows) ∙ right.once

  pub moves-fit : Each (Fit c d) (map move_of rows)
  unfolding move_of
  moves-fit =
      each_map (Fit c d) move_of rows
      (each-mono (λ r. (r.number < c) × RowCosts d r.costs) (λ r. Fit c d (move_of r)) rows (λ r k. record { number = k.0; costs = k.1 })
      (each_both (λ r. r.number < c) (λ r. RowCosts d r.costs) rows right.below a.costs))

  pub rows-storable : Storable c rows
  rows-storable =
      each-mono (λ r. (r.number < c) × (block_bad r.block ≡ false)) (λ r. (r.number < c) × (r.block < 256)) rows
      (λ r k. (k.0, omega (arith, block-most r.block k.1)))
      (each_both (λ r. r.number < c) (λ r. block_bad r.block ≡ false) rows right.below right.small)
