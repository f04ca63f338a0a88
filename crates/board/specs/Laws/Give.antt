-- The moves changed, then the block given: what a call leaves of sound memory.
use Rattle.std.specs.Prelude.{ℕ, ◌<◌, Bool, true, false, cond, ◌≡◌, refl, eqb, get_or, set}
use Rattle.std.specs.Option.{ForSome, ForNone}
use mathlib.Core.List.{List}
use Rattle.std.proofs.Common.{sym, ◌∙◌, subst, eqb-true}
use Rattle.std.proofs.Math.Path.{ap}
use Rattle.std.proofs.lemmas.Bool.{eqb-false}
use Rattle.std.proofs.Math.ListN.{length}
use Rattle.std.proofs.Math.Seq.{get_or-set_other}
use Rattle.std.proofs.lemmas.List.{set-get_or}
use Rattle.model.specs.Moves.{Move}
use Rattle.model.specs.Changing.{change_tree}
use Rattle.model.specs.Calls as calls
use Rattle.model.specs.Calls.{Change, change_refusal, give_block, blocks_on, changed_moves, changed_blocks, changed, keeps_moves, changes_nothing}
use Rattle.model.specs.Withdrawing.{unchanged}
use Rattle.model.proofs.Laws.Bool.{both_ways, and_right, or-false-left, or-false-right}
use Rattle.model.proofs.Laws.Changes.{change_number, change-number}
use Rattle.model.proofs.Laws.Blocks.{entered-blocks, withdrawn-blocks, recosted-blocks, changed-fit}
use Rattle.line.specs.Line.{moves_in}
use Rattle.promises.specs.Layout.{block_place, size_in, dimension_in, count_in, number_in, block_in, line_in, board_in}
use Rattle.promises.specs.Sound.{Stands, Sound}
use Rattle.promises.specs.Written.{moves_write, block_writes, change_writes}
use Rattle.promises.specs.Promise.{Leaves}
use Rattle.memory.specs.Room.{Room}
use Rattle.memory.specs.Stores.{set_block}
use Rattle.memory.specs.Frame.{BlocksOnly}
use Rattle.memory.specs.Laws.Frames.{frame-refl}
use Rattle.memory.specs.Laws.Written.{only-room, size-left, dimension-left, block-left}
use Rattle.memory.specs.Laws.Lines.{each-numbers}
use Rattle.memory.specs.Laws.Blocks.{same_blocks, set_block-blocks, block-set_block, size-over-blocks, dimension-over-blocks, moves-over-blocks, stands-over-blocks}
use Rattle.memory.specs.Laws.Held.{held-room}
use Rattle.planning.specs.Change.{Moved}
use Rattle.planning.specs.Kind.{call_of, asked_number, given_block}
use Rattle.planning.proofs.Laws.Accepted.{recost-on}
use Rattle.planning.specs.declared.change.Change as asked
use Rattle.planning.specs.declared.change.Change.TheVariants.{Enter, Withdraw, Recost}

module _ {m : List ℕ} (s : Sound m) (x : Change) {b : List ℕ} (moved : Moved x m b s.tree) (ok : change_refusal (board_in m) x ≡ 0) where
  abbrev c : ℕ
  c = size_in m

  abbrev d : ℕ
  d = dimension_in m

  abbrev ms : List Move
  ms = moves_in (line_in m)

  size-between : size_in b ≡ size_in m
  size-between = size-left c moved.only

  room-between : Room (size_in m) b
  room-between = only-room c moved.only (held-room c d (count_in m) m (record { size = refl; dimension = refl; count = refl; sound = s }))

  -- Whatever blocks are written then, as long as the call's are there.
  module _ {m' : List ℕ} (f : BlocksOnly (size_in m) b m') (given : ℕ → ℕ) (blocks : (k : ℕ) → k < size_in m → block_in (size_in m) m' k ≡ given k)
      (tie : blocks_on (changed_moves (dimension_in m) x (moves_in (line_in m))) given ≡ changed_blocks x (blocks_on (moves_in (line_in m)) (block_in (size_in m) m))) where
    over : BlocksOnly (size_in b) b m'
    over = subst (λ (c : ℕ). BlocksOnly c b m') (sym size-between) f

    after : Stands m' (change_tree (dimension_in m) x s.tree)
    after = stands-over-blocks b m' over moved.stands

    size : size_in m' ≡ size_in m
    size = size-over-blocks b m' over ∙ size-between

    dimension : dimension_in m' ≡ dimension_in m
    dimension = dimension-over-blocks b m' over ∙ dimension-left c moved.only

    moves : moves_in (line_in m') ≡ changed_moves (dimension_in m) x (moves_in (line_in m))
    moves = moves-over-blocks b m' over moved.stands ∙ moved.moves

    at : (i : ℕ) → i < count_in m' → block_in (size_in m') m' (number_in (size_in m') m' i) ≡ given (number_in (size_in m') m' i)
    unfolding line_in
    at i l =
        let n = number_in (size_in m') m' i in
        ap (λ (c : ℕ). block_in c m' n) size
        ∙ blocks n (subst (λ (c : ℕ). n < c) size (each-numbers (size_in m') (dimension_in m') (count_in m') m' after.numbers i l))

    all_blocks : blocks_on (moves_in (line_in m')) (block_in (size_in m') m') ≡ changed_blocks x (blocks_on (moves_in (line_in m)) (block_in (size_in m) m))
    unfolding line_in
    all_blocks =
        same_blocks (size_in m') (dimension_in m') (count_in m') m' (block_in (size_in m') m') given at
        ∙ ap (λ (ns : List Move). blocks_on ns given) moves
        ∙ tie

    board : board_in m' ≡ changed (board_in m) x
    unfolding board_in changed
    board = λ i. record { size = size i; dimension = dimension i; moves = moves i; blocks = all_blocks i }

    kept_by : length m' ≡ length b → ((i : ℕ) → change_writes (size_in m) x i ≡ false → get_or m' i 0 ≡ get_or b i 0)
        → Leaves (change_writes (size_in m) x) m m' (changed (board_in m) x) (change_tree (dimension_in m) x s.tree)
    unfolding change_writes
    kept_by long same =
        record {
          holding = record { stands = after; board = board; blocks = changed-fit (board_in m) x s.blocks ok };
          only =
              record {
                length = long ∙ moved.only.length;
                same = λ i free. same i free ∙ moved.only.same i (or-false-left (moves_write c i) (block_writes c x i) free);
              };
        }

  -- No block is given.
  kept-alone : blocks_on (changed_moves (dimension_in m) x (moves_in (line_in m))) (block_in (size_in m) m) ≡ changed_blocks x (blocks_on (moves_in (line_in m)) (block_in (size_in m) m))
      → Leaves (change_writes (size_in m) x) m b (changed (board_in m) x) (change_tree (dimension_in m) x s.tree)
  kept-alone tie = kept_by (frame-refl b) (block_in c m) (block-left c moved.only) tie refl (λ i _. refl)

  -- One is.
  module _ (n block : ℕ) (l : n < size_in m) (other : (i : ℕ) → block_writes (size_in m) x i ≡ false → eqb i (block_place (size_in m) n) ≡ false)
      (tie : blocks_on (changed_moves (dimension_in m) x (moves_in (line_in m))) (give_block n block (block_in (size_in m) m)) ≡ changed_blocks x (blocks_on (moves_in (line_in m)) (block_in (size_in m) m))) where
    now-blocks : (k : ℕ) → k < size_in m → block_in (size_in m) (set_block (size_in m) n block b) k ≡ give_block n block (block_in (size_in m) m) k
    unfolding give_block
    now-blocks k h = block-set_block c n block b room-between l k ∙ ap (cond (eqb k n) block) (block-left c moved.only k h)

    kept-with : Leaves (change_writes (size_in m) x) m (set_block (size_in m) n block b) (changed (board_in m) x) (change_tree (dimension_in m) x s.tree)
    unfolding change_writes set_block
    kept-with =
        let f = set_block-blocks c n block b l in
        kept_by f (give_block n block (block_in c m)) now-blocks tie f.length
        (λ i free. get_or-set_other b (block_place c n) i block 0 (eqb-false i (block_place c n) (other i (or-false-right (moves_write c i) (block_writes c x i) free))))

number-below : {m : List ℕ} (s : Sound m) (x : Change) → change_refusal (board_in m) x ≡ 0 → change_number x < size_in m
unfolding board_in
number-below {m} s x ok = change-number (board_in m) x ok

-- What a change leaves: its moves, and the block that it gives.
pub kept-given : {m : List ℕ} (s : Sound m) (x : asked.Change) {b : List ℕ} → Moved (call_of x) m b s.tree → change_refusal (board_in m) (call_of x) ≡ 0
    → {m' : List ℕ} → ForSome (given_block x) (λ block. m' ≡ set_block (size_in m) (asked_number x) block b) → ForNone (given_block x) (m' ≡ b)
    → Leaves (change_writes (size_in m) (call_of x)) m m' (changed (board_in m) (call_of x)) (change_tree (dimension_in m) (call_of x) s.tree)
unfolding block_writes change_number
kept-given {m} s (Enter coming block) {b} moved ok given kept =
    let x = calls.enter coming.number block coming.costs in
    subst (λ (w : List ℕ). Leaves (change_writes (size_in m) x) m w (changed (board_in m) x) (change_tree (dimension_in m) x s.tree)) (sym (given block refl))
    (kept-with s x moved ok coming.number block (number-below s x ok) (λ i e. e) (entered-blocks (dimension_in m) coming.number block coming.costs (moves_in (line_in m)) (block_in (size_in m) m)))
kept-given {m} s (Withdraw number) {b} moved ok given kept =
    let x = calls.withdraw number in
    subst (λ (w : List ℕ). Leaves (change_writes (size_in m) x) m w (changed (board_in m) x) (change_tree (dimension_in m) x s.tree)) (sym (kept refl))
    (kept-alone s x moved ok (withdrawn-blocks (dimension_in m) number (moves_in (line_in m)) (block_in (size_in m) m)))
kept-given {m} s (Recost coming block) {b} moved ok given kept =
    let x = calls.recost coming.number block coming.costs in
    subst (λ (w : List ℕ). Leaves (change_writes (size_in m) x) m w (changed (board_in m) x) (change_tree (dimension_in m) x s.tree)) (sym (given block refl))
    (kept-with s x moved ok coming.number block (number-below s x ok) (λ i e. e) (recosted-blocks (dimension_in m) coming.number block coming.costs (moves_in (line_in m)) (block_in (size_in m) m)))

-- A change that keeps the moves writes its block alone.
pub given-alone : {m : List ℕ} (x : asked.Change) → keeps_moves (board_in m) (call_of x) ≡ true → {b m' : List ℕ} → b ≡ m
    → ForSome (given_block x) (λ block. m' ≡ set_block (size_in m) (asked_number x) block b) → (i : ℕ) → block_writes (size_in m) (call_of x) i ≡ false → get_or m' i 0 ≡ get_or m i 0
unfolding keeps_moves set_block block_writes
given-alone (Enter coming block) e same given i free = both_ways e refl
given-alone (Withdraw number) e same given i free = both_ways e refl
given-alone {m} (Recost coming block) e same given i free =
    ap (λ (w : List ℕ). get_or w i 0) (given block refl ∙ ap (set_block (size_in m) coming.number block) same)
    ∙ get_or-set_other m (block_place (size_in m) coming.number) i block 0 (eqb-false i (block_place (size_in m) coming.number) free)

-- A change that changes nothing gives a block that is there already.
pub given-again : {m : List ℕ} → Sound m → (x : asked.Change) → change_refusal (board_in m) (call_of x) ≡ 0 → changes_nothing (board_in m) (call_of x) ≡ true
    → {b m' : List ℕ} → b ≡ m → ForSome (given_block x) (λ block. m' ≡ set_block (size_in m) (asked_number x) block b) → m' ≡ m
unfolding changes_nothing board_in blocks_on set_block block_in
given-again s (Enter coming block) ok e same given = both_ways e refl
given-again s (Withdraw number) ok e same given = both_ways e refl
given-again {m} s (Recost coming block) ok e {b} same given =
    let n = coming.number in
    let on = recost-on (board_in m) n block coming.costs ok in
    let there : block ≡ block_in (size_in m) m n =
    eqb-true block ((board_in m).blocks n) (and_right (unchanged n coming.costs (board_in m).moves) (eqb block ((board_in m).blocks n)) e)
    ∙ ap (λ (t : Bool). cond t (block_in (size_in m) m n) 0) on in
    given block refl
    ∙ ap (set_block (size_in m) n block) same
    ∙ ap (set m (block_place (size_in m) n)) there
    ∙ set-get_or m (block_place (size_in m) n) 0
