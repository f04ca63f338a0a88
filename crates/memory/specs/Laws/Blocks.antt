-- The blocks of a board by the places of its moves, and what a block given leaves as it was.
use Rattle.std.specs.Prelude.{ℕ, ◌≤◌, ◌<◌, true, false, List, ◌≡◌, refl}
use Rattle.std.proofs.Math.Bool.{Bool, cond}
use Rattle.std.proofs.Common.{inl, inr, ◌∙◌, subst₂, arith, eqb-true, eq-eqb}
use Rattle.std.proofs.Math.Path.{sym, ap, subst}
use Rattle.std.proofs.Math.Dec.{eqb}
use Rattle.std.proofs.Math.ListN.{get_or}
use Rattle.std.proofs.Math.Seq.{get_or-set_same, get_or-set_other}
use Rattle.zorder.specs.Refusal.{cost_count_bad}
use Rattle.model.specs.Basics.{Each, any}
use Rattle.model.specs.Moves.{Move}
use Rattle.model.specs.Lists.{skyline}
use Rattle.model.specs.Tree.{Tree, moves_of, ruled}
use Rattle.model.specs.Calls.{size_bad, memory_need, block_bad, on_board, give_block, blocks_on}
use Rattle.model.proofs.Laws.Bool.{by_cases, both_ways}
use Rattle.model.proofs.Laws.Basics.{any-witness, each-mem, select-ext}
use Rattle.model.proofs.Laws.Blocks.{blocks-ext}
use Rattle.line.specs.Line.{moves_in}
use Rattle.promises.specs.Layout.{block_place, size_in, dimension_in, format_in, count_in, number_in, flag_in, block_in, move_in, line_from, line_in, kept_from, kept_in}
use Rattle.promises.specs.Sound.{Stands}
use Rattle.promises.proofs.Laws.Tab.{each-tab}
use Rattle.memory.specs.Room.{Room, Numbers}
use Rattle.memory.specs.Stores.{set_block}
use Rattle.memory.specs.Frame.{BlocksOnly}
use Rattle.memory.specs.Laws.Places.{tab-each, any-tab, any_to-found}
use Rattle.memory.specs.Laws.Frames.{byte-across, word-across, byte-frame, frame-widen}
use Rattle.memory.specs.Laws.Fields.{number-over, height-over, flag-over, costs-over}
use Rattle.memory.specs.Laws.Lines.{moves_in-line, line-ext, each-numbers}

-- ---- by places

module _ (c d n : ℕ) (m : List ℕ) where
  abbrev ms : List Move
  ms = moves_in (line_from c d n m)

  pub on-at : (i : ℕ) → i < n → on_board (number_in c m i) (moves_in (line_from c d n m)) ≡ true
  unfolding on_board move_in
  on-at i l =
      ap (any (λ x. eqb x.number (number_in c m i))) (moves_in-line c d n m)
      ∙ any-tab (move_in c d m) (λ x. eqb x.number (number_in c m i)) n
      ∙ any_to-found (λ j. eqb (number_in c m j) (number_in c m i)) n i l (eq-eqb (number_in c m i) (number_in c m i) refl)

  -- What holds of the numbers at the places holds of each number on the board.
  pub on-place : (P : ℕ → Type 0) → ((i : ℕ) → i < n → P (number_in c m i)) → (k : ℕ) → on_board k (moves_in (line_from c d n m)) ≡ true → P k
  unfolding on_board move_in
  on-place P h k on =
      let x = any-witness (λ x. eqb x.number k) ms on in
      let each : Each (λ x. P x.number) ms = subst (Each (λ x. P x.number)) (sym (moves_in-line c d n m)) (each-tab (move_in c d m) (λ x. P x.number) n h) in
      subst P (eqb-true x.0.number k x.2) (each-mem (λ x. P x.number) each x.1)

  pub same_blocks : (f g : ℕ → ℕ) → ((i : ℕ) → i < n → f (number_in c m i) ≡ g (number_in c m i)) → blocks_on (moves_in (line_from c d n m)) f ≡ blocks_on (moves_in (line_from c d n m)) g
  same_blocks f g h = blocks-ext ms f g (on-place (λ k. f k ≡ g k) h)

  pub block_at : (f : ℕ → ℕ) (i : ℕ) → i < n → blocks_on (moves_in (line_from c d n m)) f (number_in c m i) ≡ f (number_in c m i)
  unfolding blocks_on
  block_at f i l = ap (λ (b : Bool). cond b (f (number_in c m i)) 0) (on-at i l)

  Fits : Move → Type 0
  Fits x = block_bad (blocks_on ms (block_in c m) x.number) ≡ false

  pub right-blocks : ((i : ℕ) → i < n → block_bad (block_in c m (number_in c m i)) ≡ false) → Each (λ x. block_bad (blocks_on (moves_in (line_from c d n m)) (block_in c m) x.number) ≡ false) (moves_in (line_from c d n m))
  unfolding Fits move_in
  right-blocks h =
      subst (Each Fits) (sym (moves_in-line c d n m)) (each-tab (move_in c d m) Fits n (λ i l. ap block_bad (block_at (block_in c m) i l) ∙ h i l))

  pub blocks-right : Each (λ x. block_bad (blocks_on (moves_in (line_from c d n m)) (block_in c m) x.number) ≡ false) (moves_in (line_from c d n m)) → (i : ℕ) → i < n → block_bad (block_in c m (number_in c m i)) ≡ false
  unfolding Fits move_in
  blocks-right h i l =
      sym (ap block_bad (block_at (block_in c m) i l)) ∙ tab-each (move_in c d m) Fits n i l (subst (Each Fits) (moves_in-line c d n m) h)

-- ---- a block given

module _ (c n block : ℕ) (m : List ℕ) where
  pub set_block-blocks : n < c → BlocksOnly c m (set_block c n block m)
  unfolding set_block
  set_block-blocks h = frame-widen (omega arith) (omega arith) (byte-frame (block_place c n) block m)

  pub block-set_block : Room c m → n < c → (k : ℕ) → block_in c (set_block c n block m) k ≡ give_block n block (block_in c m) k
  unfolding set_block block_in give_block
  block-set_block room h k =
      by_cases (eqb k n)
      (λ e.
      ap (λ (j : ℕ). get_or (set_block c n block m) (block_place c j) 0) (eqb-true k n e)
      ∙ get_or-set_same m (block_place c n) block 0 (omega (arith, room.0))
      ∙ sym (ap (λ (b : Bool). cond b block (block_in c m k)) e))
      (λ e.
      get_or-set_other m (block_place c n) (block_place c k) block 0
      (λ q. let same : k ≡ n = omega (arith, q) in both_ways (eq-eqb k n same) e)
      ∙ sym (ap (λ (b : Bool). cond b block (block_in c m k)) e))

-- ---- blocks written: the tree stands as it did

module _ (m m' : List ℕ) (f : BlocksOnly (size_in m) m m') where
  abbrev c : ℕ
  c = size_in m

  pub size-over-blocks : size_in m' ≡ size_in m
  unfolding size_in
  size-over-blocks = word-across f 0 (inl (omega arith))

  pub dimension-over-blocks : dimension_in m' ≡ dimension_in m
  unfolding dimension_in
  dimension-over-blocks = byte-across f 2 (inl (omega arith))

  format-over-blocks : format_in m' ≡ format_in m
  unfolding format_in
  format-over-blocks = byte-across f 3 (inl (omega arith))

  count-over-blocks : count_in m' ≡ count_in m
  unfolding count_in
  count-over-blocks = word-across f 4 (inl (omega arith))

  module _ {t : Tree} (s : Stands m t) where
    line-over-blocks : line_in m' ≡ line_in m
    unfolding line_in
    line-over-blocks =
        (λ i. line_from (size-over-blocks i) (dimension-over-blocks i) (count-over-blocks i) m')
        ∙ line-ext c (dimension_in m) m m' (count_in m)
        (λ i h. number-over f c i (inl (omega (arith, s.count))))
        (λ i h. height-over f c i (inl (omega (arith, s.count))))
        (λ i h. costs-over f c (dimension_in m) (number_in c m i) (inr (omega arith)))

    kept-over-blocks : kept_in m' ≡ kept_in m
    unfolding kept_in kept_from line_in move_in
    kept-over-blocks =
        (λ i. kept_from (size-over-blocks i) m' (moves_in (line-over-blocks i)))
        ∙ select-ext listed' listed (moves_in (line_from c (dimension_in m) (count_in m) m))
        (subst (Each (λ x. listed' x ≡ listed x)) (sym (moves_in-line c (dimension_in m) (count_in m) m))
        (each-tab (move_in c (dimension_in m) m) (λ x. listed' x ≡ listed x) (count_in m)
        (λ i l. ap (λ (v : ℕ). eqb v 1) (flag-over f c (number_in c m i) (inl (omega (arith, numbers i l)))))))
      where
        listed' : Move → Bool
        listed' x = eqb (flag_in c m' x.number) 1

        listed : Move → Bool
        listed x = eqb (flag_in c m x.number) 1

        numbers : Numbers c (count_in m) m
        numbers = each-numbers c (dimension_in m) (count_in m) m s.numbers

    pub moves-over-blocks : moves_in (line_in m') ≡ moves_in (line_in m)
    moves-over-blocks = ap moves_in line-over-blocks

    pub stands-over-blocks : Stands m' t
    stands-over-blocks =
        record {
          size = ap size_bad size-over-blocks ∙ s.size;
          dimension = ap cost_count_bad dimension-over-blocks ∙ s.dimension;
          format = format-over-blocks ∙ s.format;
          room = subst₂ (λ (c n : ℕ). memory_need c ≤ n) (sym size-over-blocks) (sym f.length) s.room;
          count = omega (arith, count-over-blocks, size-over-blocks, s.count);
          numbers = subst (λ (c : ℕ). Each (λ r. r.move.number < c) (line_in m')) (sym size-over-blocks) (subst (Each (λ r. r.move.number < size_in m)) (sym line-over-blocks) s.numbers);
          line = line-over-blocks ∙ s.line;
          rules = ap (λ (d : ℕ). ruled d t) dimension-over-blocks ∙ s.rules;
          kept = kept-over-blocks ∙ s.kept ∙ ap (λ (d : ℕ). skyline d (moves_of t)) (sym dimension-over-blocks);
        }
