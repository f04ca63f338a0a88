-- Stores that write only what a change or a load may write.
use Prim.Native.Nat.{ℕ, ◌+◌, ◌*◌, ◌≤◌, ◌<◌}
use Rattle.std.specs.Prelude.{Bool, true, false, ◌||◌, ◌≡◌, refl, get_or}
use mathlib.Core.List.{List}
use Rattle.std.proofs.Common.{inl, inr, ◌∙◌, arith}
use Rattle.std.proofs.Math.Path.{ap₂}
use Rattle.std.proofs.Math.Decide.{dec_lt}
use Rattle.std.proofs.Math.ListN.{set}
use Rattle.model.proofs.Laws.Bool.{both_ways, or_left, or_right, or-false-left, or-false-right}
use Rattle.promises.specs.Layout.{word_at, set_word, block_place, cost_place, format_number, size_in, dimension_in, format_in, block_in}
use Rattle.promises.specs.Written.{in_area, moves_write, load_writes, Only}
use Rattle.promises.proofs.Laws.Written.{in-area, writes-count, writes-rows, writes-costs, leaves-head, leaves-blocks}
use Rattle.memory.specs.Room.{Room}
use Rattle.memory.specs.Stores.{set_head, set_count}
use Rattle.memory.specs.Frame.{DifferWithin, MovesOnly, RowsOnly, FlagsOnly, BlocksOnly, CostsOnly, WorkOnly}
use Rattle.memory.specs.Laws.Frames.{byte-frame, word-frame}

-- ---- frames over a test

pub only-refl : {writes : ℕ → Bool} (m : List ℕ) → Only writes m m
only-refl m = record { length = refl; same = λ i h. refl }

pub only-trans : {writes : ℕ → Bool} {m m' m'' : List ℕ} → Only writes m m' → Only writes m' m'' → Only writes m m''
only-trans f g = record { length = g.length ∙ f.length; same = λ i h. g.same i h ∙ f.same i h }

pub only-room : (c : ℕ) {writes : ℕ → Bool} {m m' : List ℕ} → Only writes m m' → Room c m → Room c m'
only-room c f room = (omega (arith, f.length), room.1)

-- A range of places that the test holds of.
pub range-only : {a b : ℕ} {m m' : List ℕ} (writes : ℕ → Bool) → ((i : ℕ) → a ≤ i → i < b → writes i ≡ true) → DifferWithin a b m m' → Only writes m m'
range-only {a} {b} {m} {m'} writes written f = record { length = f.length; same = λ i free. go i free (dec_lt i a) (dec_lt i b) }
  where
    go : (i : ℕ) → writes i ≡ false → Dec (i < a) → Dec (i < b) → get_or m' i 0 ≡ get_or m i 0
    go i free (yes l) u = f.same i (inl l)
    go i free (no l) (yes u) = both_ways (written i (omega arith) u) free
    go i free (no l) (no u) = f.same i (inr (omega arith))

-- ---- what a change of moves writes

module _ (c : ℕ) {m m' : List ℕ} where
  pub rows_written : RowsOnly c m m' → MovesOnly c m m'
  rows_written = range-only (moves_write c) (λ i l u. writes-rows c i l (omega arith))

  pub flags-written : FlagsOnly c m m' → MovesOnly c m m'
  flags-written = range-only (moves_write c) (λ i l u. writes-rows c i (omega arith) u)

  pub costs-written : CostsOnly c m m' → MovesOnly c m m'
  costs-written = range-only (moves_write c) (λ i l u. writes-costs c i l (omega arith))

  pub work-written : WorkOnly c m m' → MovesOnly c m m'
  work-written = range-only (moves_write c) (λ i l u. writes-costs c i (omega arith) u)

pub count-written : (c n : ℕ) (m : List ℕ) → MovesOnly c m (set_count n m)
unfolding set_count
count-written c n m = range-only (moves_write c) (writes-count c) (word-frame 4 n m)

module _ (c : ℕ) {m m' : List ℕ} (f : MovesOnly c m m') where
  pub size-left : size_in m' ≡ size_in m
  unfolding size_in word_at
  size-left =
      ap₂ (λ (x y : ℕ). x + 256 * y) (f.same 0 (leaves-head c 0 (omega arith))) (f.same 1 (leaves-head c 1 (omega arith)))

  pub dimension-left : dimension_in m' ≡ dimension_in m
  unfolding dimension_in
  dimension-left = f.same 2 (leaves-head c 2 (omega arith))

  pub format-left : format_in m' ≡ format_in m
  unfolding format_in
  format-left = f.same 3 (leaves-head c 3 (omega arith))

  -- Blocks stay.
  pub block-left : (n : ℕ) → n < c → block_in c m' n ≡ block_in c m n
  unfolding block_in
  block-left n h = f.same (block_place c n) (leaves-blocks c (block_place c n) (omega arith) (omega arith))

-- ---- what a load writes

module _ (c : ℕ) where
  abbrev blocks : ℕ → Bool
  blocks i = in_area (block_place c 0) (block_place c c) i

  pub moves-load : {m m' : List ℕ} → MovesOnly c m m' → Only (load_writes c) m m'
  unfolding load_writes
  moves-load f =
      record {
        length = f.length;
        same = λ i free.
            f.same i (or-false-right (in_area 0 4 i) (moves_write c i) (or-false-left (in_area 0 4 i || moves_write c i) (blocks i) free));
      }

  writes-head : (i : ℕ) → i < 4 → load_writes c i ≡ true
  unfolding load_writes
  writes-head i u = or_left (in_area 0 4 i || moves_write c i) (blocks i) (or_left (in_area 0 4 i) (moves_write c i) (in-area 0 4 i (omega arith) u))

  writes-blocks : (i : ℕ) → block_place c 0 ≤ i → i < cost_place c 0 0 → load_writes c i ≡ true
  unfolding load_writes
  writes-blocks i l u = or_right (in_area 0 4 i || moves_write c i) (blocks i) (in-area (block_place c 0) (block_place c c) i l (omega arith))

  pub blocks-load : {m m' : List ℕ} → BlocksOnly c m m' → Only (load_writes c) m m'
  blocks-load = range-only (load_writes c) writes-blocks

  pub head-written : (d n : ℕ) (m : List ℕ) → Only (load_writes c) m (set_head c d n m)
  unfolding set_head
  head-written d n m =
      let m₁ : List ℕ = set_word 0 c m in
      let m₂ : List ℕ = set m₁ 2 d in
      let m₃ : List ℕ = set m₂ 3 format_number in
      only-trans (range-only (load_writes c) (λ i l u. writes-head i (omega arith)) (word-frame 0 c m))
      (only-trans (range-only (load_writes c) (λ i l u. writes-head i (omega arith)) (byte-frame 2 d m₁))
      (only-trans (range-only (load_writes c) (λ i l u. writes-head i (omega arith)) (byte-frame 3 format_number m₂)) (moves-load (range-only (moves_write c) (writes-count c) (word-frame 4 n m₃)))))
