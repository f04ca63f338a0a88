-- Blocks given row by row, from the last on, and the memory after a load.
use Rattle.std.specs.Prelude.{ℕ, suc, ◌-◌, ◌≤◌, ◌<◌, Bool, true, cond, ◌||◌, List, [], ◌∷◌, map, ◌≡◌, refl, eqb, length, get_or, drop}
use Rattle.std.proofs.Common.{sym, ap, ap₂, ◌∙◌, subst, subst₂, arith, drop-cons, eqb-true}
use Rattle.std.proofs.lemmas.List.{length-map}
use Rattle.std.proofs.Math.ListN.{get_or-map}
use Rattle.std.proofs.Math.Seq.{drop-length}
use Rattle.model.specs.Basics.{any}
use Rattle.model.specs.Moves.{InputRow, move_of, in_z_order}
use Rattle.model.specs.Calls.{on_board, give_block, blocks_on, row_blocks, loaded}
use Rattle.model.proofs.Laws.Bool.{or_cases, both_ways}
use Rattle.model.proofs.Laws.Basics.{each_at}
use Rattle.model.proofs.Laws.Blocks.{give-same, loaded-blocks, loaded-fit}
use Rattle.line.specs.Line.{moves_in}
use Rattle.promises.specs.Layout.{size_in, dimension_in, block_in, line_in, board_in}
use Rattle.promises.specs.Answers.{input_row}
use Rattle.promises.specs.Written.{load_writes, Only}
use Rattle.memory.specs.Room.{Room}
use Rattle.memory.specs.Stores.{set_block}
use Rattle.memory.specs.Frame.{BlocksOnly}
use Rattle.memory.specs.Laws.Frames.{frame-refl, frame-trans, room-over}
use Rattle.memory.specs.Laws.Written.{only-trans, blocks-load}
use Rattle.memory.specs.Laws.Blocks.{set_block-blocks, block-set_block, size-over-blocks, dimension-over-blocks, moves-over-blocks, stands-over-blocks}
use Rattle.loading.specs.Blocks.{Storable, BlocksGiven}
use Rattle.loading.specs.File.{Acceptable, MovesLoaded, Loaded}

-- ---- one row

give-ext : (n block : ℕ) (f g : ℕ → ℕ) (k : ℕ) (on : Bool) → (eqb n k || on) ≡ true → (on ≡ true → f k ≡ g k)
    → give_block n block f k ≡ give_block n block g k
unfolding give_block
give-ext n block f g k on h same =
    or_cases (eqb n k) on h
    (λ e. given f (eqb-true n k e) ∙ sym (given g (eqb-true n k e)))
    (λ o. ap (λ (v : ℕ). cond (eqb k n) block v) (same o))
  where
    given : (f : ℕ → ℕ) → n ≡ k → give_block n block f k ≡ block
    given f e = ap (give_block n block f) (sym e) ∙ give-same n block f

module _ (c : ℕ) (m : List ℕ) where
  given-none : BlocksGiven c [] m m
  unfolding on_board any
  given-none = record { blocks = λ n on. both_ways on refl; frame = frame-refl m }

  given-more : (r : InputRow) (rs : List InputRow) (m' : List ℕ) → Room c m → r.number < c → BlocksGiven c rs m m' → BlocksGiven c (r ∷ rs) m (set_block c r.number r.block m')
  unfolding on_board any move_of row_blocks
  given-more r rs m' room below g =
      record {
        blocks = λ n on.
            block-set_block c r.number r.block m' (room-over c g.frame room) below n
            ∙ give-ext r.number r.block (block_in c m') (row_blocks rs) n (on_board n (map move_of rs)) on (g.blocks n);
        frame = frame-trans g.frame (set_block-blocks c r.number r.block m' below);
      }

-- ---- the rows as the loop counts them down

module _ (c : ℕ) (rows : List (List ℕ)) (m : List ℕ) where
  count : length (map input_row rows) ≡ length rows
  count = length-map rows input_row

  pub lent_none : BlocksGiven c (drop (length rows) (map input_row rows)) m m
  lent_none =
      subst (λ (k : ℕ). BlocksGiven c (drop k (map input_row rows)) m m) count
      (subst (λ (rs : List InputRow). BlocksGiven c rs m m) (sym (drop-length (map input_row rows))) (given-none c m))

  module _ (left : ℕ) (some : 0 < left) (within : left ≤ length rows) (z : List ℕ) (able : Storable c (map input_row rows)) where
    abbrev r : InputRow
    r = input_row (get_or rows (left - 1) z)

    here : get_or (map input_row rows) (left - 1) (input_row z) ≡ input_row (get_or rows (left - 1) z)
    here = get_or-map input_row rows (left - 1) z

    pub lent-storable : ((input_row (get_or rows (left - 1) z)).number < c) × ((input_row (get_or rows (left - 1) z)).block < 256)
    lent-storable =
        subst (λ (r : InputRow). (r.number < c) × (r.block < 256)) here
        (each_at (λ r. (r.number < c) × (r.block < 256)) (map input_row rows) (left - 1) (input_row z) (omega (arith, count)) able)

    next : drop (left - 1) (map input_row rows) ≡ input_row (get_or rows (left - 1) z) ∷ drop left (map input_row rows)
    next =
        let same : suc (left - 1) ≡ left = omega arith in
        drop-cons (map input_row rows) (left - 1) (input_row z) (omega (arith, count))
        ∙ ap₂ (λ (r : InputRow) (k : ℕ). r ∷ drop k (map input_row rows)) here same

    pub lent-more : (number block : ℕ) (m' : List ℕ) → number ≡ (input_row (get_or rows (left - 1) z)).number → block ≡ (input_row (get_or rows (left - 1) z)).block → Room c m
        → BlocksGiven c (drop left (map input_row rows)) m m' → BlocksGiven c (drop (left - 1) (map input_row rows)) m (set_block c number block m')
    lent-more number block m' n b room g =
        subst (λ (rs : List InputRow). BlocksGiven c rs m (set_block c number block m')) (sym next)
        (subst₂ (λ (n b : ℕ). BlocksGiven c (r ∷ drop left (map input_row rows)) m (set_block c n b m')) (sym n) (sym b)
        (given-more c m r (drop left (map input_row rows)) m' room lent-storable.0 g))

-- ---- moves and blocks are the load

module _ (c d : ℕ) (rows : List InputRow) (a : Acceptable c d rows) (m m₁ m₂ : List ℕ) (moved : MovesLoaded c d rows m m₁) (given : BlocksGiven c rows m₁ m₂) where
  over : BlocksOnly (size_in m₁) m₁ m₂
  over = subst (λ (k : ℕ). BlocksOnly k m₁ m₂) (sym moved.size) given.frame

  size : size_in m₂ ≡ c
  size = size-over-blocks m₁ m₂ over ∙ moved.size

  dimension : dimension_in m₂ ≡ d
  dimension = dimension-over-blocks m₁ m₂ over ∙ moved.dimension

  moves : moves_in (line_in m₂) ≡ in_z_order d (map move_of rows)
  moves = moves-over-blocks m₁ m₂ over moved.stands ∙ moved.moves

  blocks : blocks_on (moves_in (line_in m₂)) (block_in (size_in m₂) m₂) ≡ row_blocks rows
  blocks = (λ i. blocks_on (moves i) (block_in (size i) m₂)) ∙ loaded-blocks d rows (block_in c m₂) given.blocks

  board : board_in m₂ ≡ loaded c d rows
  unfolding board_in loaded
  board = λ i. record { size = size i; dimension = dimension i; moves = moves i; blocks = blocks i }

  whole : Only (load_writes c) m m₂
  whole = only-trans moved.frame (blocks-load c given.frame)

  pub load-done : Loaded c d rows m m₂
  load-done =
      record {
        kept = record {
          holding = record {
            stands = stands-over-blocks m₁ m₂ over moved.stands;
            board = board;
            blocks = loaded-fit c d 0 [] rows a.right;
          };
          only = whole;
        };
      }
