-- What holds of the blocks of a board: read for the numbers on it, through load and changes, and 0 to 63 as long as nothing was
-- refused.
use Rattle.std.specs.Prelude.{ℕ, suc, ◌≤◌, ◌<◌, Bool, true, false, cond, not, ◌&&◌, ◌||◌, List, [], ◌∷◌, map, ◌≡◌, refl, leb, eqb}
use Rattle.std.proofs.Common.{inr, sym, ◌∙◌, arith, eqb-true, eq-eqb, ne_eqb}
use Rattle.std.proofs.Math.Path.{ap, fun_ext}
use Rattle.std.proofs.lemmas.Bool.{not-false}
use Rattle.zorder.proofs.Laws.Refusal.{first_passes, rest-passes}
use Rattle.model.specs.Basics.{Each, any, within}
use Rattle.model.specs.Moves.{Move, InputRow, move_of, move_before, insert, in_z_order}
use Rattle.model.specs.Notice.{notice_of}
use Rattle.model.specs.Withdrawing.{without, unchanged}
use Rattle.model.specs.Calls.{Answer, accepted, Board, block_bad, row_refusal, rows_refusal, give_block, blocks_on, row_blocks, loaded, Change, enter, withdraw, recost, on_board, change_refusal, changed_moves, changed_blocks, changed, list_of, change_notice}
use Rattle.model.specs.Sound.{Fit, BlocksFit, SoundBoard}
use Rattle.model.proofs.Laws.Bool.{test_cases, cond_cases, and_right, and_both, not-flip, or-false-left, or-false-right, same_test, both_ways}
use Rattle.model.proofs.Laws.Basics.{mem-each, each-mono, each-select, any-map, any-ext, any-select}
use Rattle.model.proofs.Laws.Sorting.{each-insert, any-insert, any-sort}
use Rattle.model.proofs.Laws.Order.{eqb-sym, dimension-most, move-order}
use Rattle.model.proofs.Laws.Recosting.{recost-same}
use Rattle.model.proofs.Laws.Notice.{notice-none}
use Rattle.model.proofs.Laws.Tree.{within-range, within-true, within-false}
use Rattle.model.proofs.Laws.Changes.{change_number, off-without}

-- ---- the numbers on the board

pub on-insert : (d : ℕ) (x : Move) (ms : List Move) (k : ℕ) → on_board k (insert d x ms) ≡ (eqb x.number k || on_board k ms)
unfolding on_board insert
on-insert d x ms k = any-insert (move_before d) (λ m. eqb m.number k) x ms

pub on-without : (n : ℕ) (ms : List Move) (k : ℕ) → on_board k (without n ms) ≡ (not (eqb k n) && on_board k ms)
unfolding on_board without
on-without n ms k =
    test_cases (λ (t : Bool). on_board k (without n ms) ≡ (not t && on_board k ms)) (eqb k n)
    (λ e. ap (λ (j : ℕ). on_board j (without n ms)) (eqb-true k n e) ∙ off-without n ms)
    (λ e. any-select (λ m. eqb m.number k) (λ m. not (eqb m.number n)) ms
    ∙ any-ext (λ m. not (eqb m.number n) && eqb m.number k) (λ m. eqb m.number k) ms
    (mem-each (λ m. (not (eqb m.number n) && eqb m.number k) ≡ eqb m.number k) ms (λ m _. other m.number e)))
  where
    other : (j : ℕ) → eqb k n ≡ false → (not (eqb j n) && eqb j k) ≡ eqb j k
    other j e =
        same_test (not (eqb j n) && eqb j k) (eqb j k) (and_right (not (eqb j n)) (eqb j k))
        (λ h. and_both (not (eqb j n)) (eqb j k) (not-flip (eqb j n) (ap (λ (i : ℕ). eqb i n) (eqb-true j k h) ∙ e)) h)

pub on-sorted : (d : ℕ) (ms : List Move) (k : ℕ) → on_board k (in_z_order d ms) ≡ on_board k ms
unfolding on_board in_z_order
on-sorted d ms k = any-sort (move_before d) (λ m. eqb m.number k) ms

pub on-rows : (rows : List InputRow) (k : ℕ) → on_board k (map move_of rows) ≡ any (λ r. eqb r.number k) rows
unfolding on_board move_of
on-rows rows k = any-map (λ m. eqb m.number k) move_of rows

-- ---- a number given a block

pub give-same : (n block : ℕ) (f : ℕ → ℕ) → give_block n block f n ≡ block
unfolding give_block
give-same n block f = ap (λ (t : Bool). cond t block (f n)) (eq-eqb n n refl)

pub give-other : (n block : ℕ) (f : ℕ → ℕ) (k : ℕ) → ¬ (k ≡ n) → give_block n block f k ≡ f k
unfolding give_block
give-other n block f k h = ap (λ (t : Bool). cond t block (f k)) (ne_eqb k n h)

-- the later block stays
give-again : (n u v : ℕ) (f : ℕ → ℕ) → give_block n u (give_block n v f) ≡ give_block n u f
unfolding give_block
give-again n u v f = fun_ext (λ k. once (eqb k n) (f k))
  where
    once : (t : Bool) (w : ℕ) → cond t u (cond t v w) ≡ cond t u w
    once true w = refl
    once false w = refl

-- A change of one number leaves every other block.
pub other_block : (b : Board) (x : Change) (k : ℕ) → ¬ (k ≡ change_number x) → (changed b x).blocks k ≡ b.blocks k
unfolding changed changed_blocks change_number
other_block b (enter n block costs) k h = give-other n block b.blocks k h
other_block b (withdraw n) k h = give-other n 0 b.blocks k h
other_block b (recost n block costs) k h = give-other n block b.blocks k h

-- "Re-costing with equal costs and another block changes the block only, with an empty notice."
module _ (b : Board) (s : SoundBoard b) (n block : ℕ) (costs : List ℕ) (fit : Fit b.size b.dimension (record { number = n; costs = costs }))
    (on : on_board n b.moves ≡ true) (same : unchanged n costs b.moves ≡ true) where
  kept-moves : changed_moves b.dimension (recost n block costs) b.moves ≡ b.moves
  unfolding changed_moves
  kept-moves =
      recost-same b.dimension (Fit b.size b.dimension) (move-order b.dimension b.size (dimension-most b.dimension s.dimension))
      (record { number = n; costs = costs }) fit b.moves s.order s.fit on s.once same

  pub block-only : changed b (recost n block costs) ≡ record { size = b.size; dimension = b.dimension; moves = b.moves; blocks = give_block n block b.blocks }
  unfolding changed changed_blocks
  block-only = λ i. record { size = b.size; dimension = b.dimension; moves = kept-moves i; blocks = give_block n block b.blocks }

  pub block-untold : change_notice b (recost n block costs) ≡ []
  unfolding change_notice list_of
  block-untold = ap (λ (c : Board). notice_of (list_of b) (list_of c)) block-only ∙ notice-none (list_of b)

-- ---- blocks read for the numbers on the board

pub blocks-ext : (ms : List Move) (f g : ℕ → ℕ) → ((k : ℕ) → on_board k ms ≡ true → f k ≡ g k) → blocks_on ms f ≡ blocks_on ms g
unfolding blocks_on
blocks-ext ms f g h = fun_ext (λ k. test_cases (λ (t : Bool). cond t (f k) 0 ≡ cond t (g k) 0) (on_board k ms) (h k) (λ _. refl))

put-blocks : (d n block : ℕ) (costs : List ℕ) (ms : List Move) (f : ℕ → ℕ)
    → blocks_on (insert d (record { number = n; costs = costs }) ms) (give_block n block f) ≡ give_block n block (blocks_on ms f)
unfolding blocks_on give_block
put-blocks d n block costs ms f =
    fun_ext (λ k.
    ap (λ (t : Bool). cond t (give_block n block f k) 0)
    (on-insert d (record { number = n; costs = costs }) ms k ∙ ap (λ (t : Bool). t || on_board k ms) (eqb-sym n k))
    ∙ either (eqb k n) (on_board k ms) (f k))
  where
    either : (a b : Bool) (w : ℕ) → cond (a || b) (cond a block w) 0 ≡ cond a block (cond b w 0)
    either true b w = refl
    either false b w = refl

without-blocks : (n : ℕ) (ms : List Move) (f : ℕ → ℕ) → blocks_on (without n ms) f ≡ give_block n 0 (blocks_on ms f)
unfolding blocks_on give_block
without-blocks n ms f =
    fun_ext (λ k. ap (λ (t : Bool). cond t (f k) 0) (on-without n ms k) ∙ unless (eqb k n) (on_board k ms) (f k))
  where
    unless : (a b : Bool) (w : ℕ) → cond (not a && b) w 0 ≡ cond a 0 (cond b w 0)
    unless true b w = refl
    unless false b w = refl

pub entered-blocks : (d n block : ℕ) (costs : List ℕ) (ms : List Move) (f : ℕ → ℕ)
    → blocks_on (changed_moves d (enter n block costs) ms) (give_block n block f) ≡ changed_blocks (enter n block costs) (blocks_on ms f)
unfolding changed_moves changed_blocks
entered-blocks d n block costs ms f = put-blocks d n block costs ms f

pub withdrawn-blocks : (d n : ℕ) (ms : List Move) (f : ℕ → ℕ) → blocks_on (changed_moves d (withdraw n) ms) f ≡ changed_blocks (withdraw n) (blocks_on ms f)
unfolding changed_moves changed_blocks
withdrawn-blocks d n ms f = without-blocks n ms f

pub recosted-blocks : (d n block : ℕ) (costs : List ℕ) (ms : List Move) (f : ℕ → ℕ)
    → blocks_on (changed_moves d (recost n block costs) ms) (give_block n block f) ≡ changed_blocks (recost n block costs) (blocks_on ms f)
unfolding changed_moves changed_blocks
recosted-blocks d n block costs ms f =
    put-blocks d n block costs (without n ms) f
    ∙ ap (give_block n block) (without-blocks n ms f)
    ∙ give-again n block 0 (blocks_on ms f)

rows-off : (rows : List InputRow) (k : ℕ) → any (λ r. eqb r.number k) rows ≡ false → row_blocks rows k ≡ 0
unfolding any row_blocks
rows-off [] k h = refl
rows-off (r ∷ rs) k h =
    let first = eqb r.number k in
    let others = any (λ r. eqb r.number k) rs in
    give-other r.number r.block (row_blocks rs) k (λ e. both_ways (eq-eqb r.number k (sym e)) (or-false-left first others h))
    ∙ rows-off rs k (or-false-right first others h)

pub loaded-blocks : (d : ℕ) (rows : List InputRow) (f : ℕ → ℕ) → ((k : ℕ) → on_board k (map move_of rows) ≡ true → f k ≡ row_blocks rows k)
    → blocks_on (in_z_order d (map move_of rows)) f ≡ row_blocks rows
unfolding blocks_on
loaded-blocks d rows f h =
    fun_ext (λ k.
    ap (λ (t : Bool). cond t (f k) 0) (on-sorted d (map move_of rows) k)
    ∙ test_cases (λ (t : Bool). cond t (f k) 0 ≡ row_blocks rows k) (on_board k (map move_of rows)) (h k)
    (λ e. sym (rows-off rows k (sym (on-rows rows k) ∙ e))))

-- ---- blocks of 0 to 63

pub block-most : (block : ℕ) → block_bad block ≡ false → block ≤ 63
unfolding block_bad
block-most block h = (within-range 0 63 block (not-false _ h)).1

pub block-low : (block : ℕ) → block ≤ 63 → block_bad block ≡ false
unfolding block_bad
block-low block l = ap not (within-true 0 63 block (omega arith) l)

pub block-high : (block : ℕ) → 63 < block → block_bad block ≡ true
unfolding block_bad
block-high block l = ap not (within-false 0 63 block (inr l))

-- What holds of 0 to 63 holds of the block of each move.
pub fit-each : (P : ℕ → Type 0) (b : Board) → BlocksFit b → ((k : ℕ) → k ≤ 63 → P k) → Each (λ m. P (b.blocks m.number)) b.moves
fit-each P b f h =
    each-mono (λ m. block_bad (b.blocks m.number) ≡ false) (λ m. P (b.blocks m.number)) b.moves
    (λ m e. h (b.blocks m.number) (block-most (b.blocks m.number) e)) f

zero-fits : block_bad 0 ≡ false
unfolding block_bad within
zero-fits = refl

give-fit : (n block : ℕ) (f : ℕ → ℕ) (k : ℕ) → block_bad block ≡ false → block_bad (f k) ≡ false → block_bad (give_block n block f k) ≡ false
unfolding give_block
give-fit n block f k h g = cond_cases (λ (u : ℕ). block_bad u ≡ false) (eqb k n) (λ _. h) (λ _. g)

-- `BlocksFit` of blocks and moves that are no board yet.
abbrev FitOn : (ℕ → ℕ) → List Move → Type 0
FitOn f ms = Each (λ m. block_bad (f m.number) ≡ false) ms

given-fit : (n block : ℕ) (f : ℕ → ℕ) (ms : List Move) → block_bad block ≡ false → FitOn f ms → FitOn (give_block n block f) ms
given-fit n block f ms h =
    each-mono (λ m. block_bad (f m.number) ≡ false) (λ m. block_bad (give_block n block f m.number) ≡ false) ms
    (λ m. give-fit n block f m.number h)

put_fit : (d n block : ℕ) (costs : List ℕ) (f : ℕ → ℕ) (ms : List Move) → block_bad block ≡ false → FitOn f ms
    → FitOn (give_block n block f) (insert d (record { number = n; costs = costs }) ms)
unfolding insert
put_fit d n block costs f ms h fit =
    each-insert (move_before d) (λ m. block_bad (give_block n block f m.number) ≡ false) (record { number = n; costs = costs }) ms
    (ap block_bad (give-same n block f) ∙ h) (given-fit n block f ms h fit)

without-fit : (n : ℕ) (f : ℕ → ℕ) (ms : List Move) → FitOn f ms → FitOn f (without n ms)
unfolding without
without-fit n f ms = each-select (λ m. not (eqb m.number n)) (λ m. block_bad (f m.number) ≡ false) ms

-- Sound blocks stay sound under a change that is not refused.
pub changed-fit : (b : Board) (x : Change) → BlocksFit b → change_refusal b x ≡ 0 → BlocksFit (changed b x)
unfolding changed changed_moves changed_blocks change_refusal
changed-fit b (enter n block costs) f h =
    put_fit b.dimension n block costs b.blocks b.moves (first_passes (block_bad block) 10 _ (rest-passes (leb b.size n) 3 _ h)) f
changed-fit b (withdraw n) f h = given-fit n 0 b.blocks (without n b.moves) zero-fits (without-fit n b.blocks b.moves f)
changed-fit b (recost n block costs) f h =
    put_fit b.dimension n block costs b.blocks (without n b.moves)
    (first_passes (block_bad block) 10 _ (rest-passes (leb b.size n) 3 _ h)) (without-fit n b.blocks b.moves f)

-- Rows that are accepted: the first is, and the others are.
pub rows_pass : (c d place : ℕ) (earlier : List ℕ) (r : InputRow) (rs : List InputRow) → rows_refusal c d place earlier (r ∷ rs) ≡ accepted
    → (row_refusal c d earlier r ≡ 0) × (rows_refusal c d (suc place) (r.number ∷ earlier) rs ≡ accepted)
unfolding rows_refusal accepted
rows_pass c d place earlier r rs =
    let n = row_refusal c d earlier r in
    cond_cases (λ (a : Answer). a ≡ accepted → (n ≡ 0) × (rows_refusal c d (suc place) (r.number ∷ earlier) rs ≡ accepted)) (eqb n 0)
    (λ e h. (eqb-true n 0 e, h))
    (λ e h. both_ways (eq-eqb n 0 (ap (λ (a : Answer). a.number) h)) e)

rows_fit : (c d place : ℕ) (earlier : List ℕ) (rows : List InputRow) → rows_refusal c d place earlier rows ≡ accepted → (k : ℕ) → block_bad (row_blocks rows k) ≡ false
unfolding row_blocks row_refusal
rows_fit c d place earlier [] h k = zero-fits
rows_fit c d place earlier (r ∷ rs) h k =
    let p = rows_pass c d place earlier r rs h in
    give-fit r.number r.block (row_blocks rs) k (first_passes (block_bad r.block) 10 _ (rest-passes (leb c r.number) 3 _ p.0))
    (rows_fit c d (suc place) (r.number ∷ earlier) rs p.1 k)

pub loaded-fit : (c d place : ℕ) (earlier : List ℕ) (rows : List InputRow) → rows_refusal c d place earlier rows ≡ accepted → BlocksFit (loaded c d rows)
unfolding loaded
loaded-fit c d place earlier rows h =
    mem-each (λ m. block_bad (row_blocks rows m.number) ≡ false) (in_z_order d (map move_of rows)) (λ m _. rows_fit c d place earlier rows h m.number)
