-- What sound memory gives of the board that it holds.
use Rattle.std.specs.Prelude.{ℕ, ◌+◌, ◌^◌, ◌≤◌, ◌<◌, true, List, map, ◌≡◌, refl}
use Rattle.std.proofs.Math.Path.{sym, ap}
use Rattle.std.proofs.Common.{◌∙◌, subst, arith}
use Rattle.std.proofs.Math.Decide.{dec_lt}
use Rattle.std.proofs.Math.ListN.{get_or}
use Rattle.zorder.specs.Between.{row_costs, cost_bits, RowCosts}
use Rattle.zorder.proofs.Laws.Between.{padded-row}
use Rattle.model.specs.Basics.{Each, distinct}
use Rattle.model.specs.Moves.{Move, move_before, ordered}
use Rattle.model.specs.Tree.{Tree, moves_of}
use Rattle.model.specs.Calls.{Board}
use Rattle.model.specs.Sound.{Fit, SoundBoard, BlocksFit}
use Rattle.model.proofs.Laws.Basics.{each-mem, each-mono, each_both, each_map}
use Rattle.model.proofs.Laws.Sorting.{rising-once}
use Rattle.model.proofs.Laws.Order.{move-path, move-order, dimension-most}
use Rattle.model.proofs.Laws.Numbers.{once-distinct}
use Rattle.model.proofs.Laws.Tree.{ruled-ordered}
use Rattle.line.specs.Line.{moves_in}
use Rattle.line.specs.Laws.Line.{moves-line}
use Rattle.promises.specs.Layout.{word_at, size_in, dimension_in, count_in, cost_in, costs_in, number_in, move_in, placed_in, tab, line_from, line_in, board_in}
use Rattle.promises.specs.Sound.{Stands, Sound, Holding}
use Rattle.promises.specs.Run.{Bytes}
use Rattle.promises.proofs.Laws.Tab.{length-tab, get_or-tab, get_or-tab-past, each-tab}

-- ---- costs in memory

module _ (m : List ℕ) (b : Bytes m) where
  word_small : (o : ℕ) → word_at o m < 2 ^ cost_bits
  unfolding word_at Bytes
  word_small o = omega (arith, b o, b (o + 1))

  pub costs-row : (c d n : ℕ) → d ≤ row_costs → RowCosts d (costs_in c d m n)
  unfolding costs_in cost_in
  costs-row c d n l = padded-row d (tab (cost_in c m n) d) l (record { count = length-tab (cost_in c m n) d; small = λ i. small i (dec_lt i d) })
    where
      small : (i : ℕ) → Dec (i < d) → get_or (tab (cost_in c m n) d) i 0 < 2 ^ cost_bits
      small i (yes h) = rw (get_or-tab (cost_in c m n) 0 d i h) (word_small _)
      small i (no h) = rw (get_or-tab-past (cost_in c m n) 0 d i (omega arith)) (omega arith)

-- A property of the moves in memory, by their places.
each-move : (m : List ℕ) (P : Move → Type 0) → ((i : ℕ) → P (move_in (size_in m) (dimension_in m) m i)) → Each (λ r. P r.move) (line_in m)
unfolding line_in line_from placed_in
each-move m P f = each-tab (placed_in (size_in m) (dimension_in m) m) (λ r. P r.move) (count_in m) (λ i _. f i)

line-board : (m : List ℕ) (P : Move → Type 0) → Each (λ r. P r.move) (line_in m) → Each P (board_in m).moves
unfolding board_in moves_in
line-board m P = each_map P (λ r. r.move) (line_in m)

-- costs go by number
by_number : (m : List ℕ) → Each (λ x. x.costs ≡ costs_in (size_in m) (dimension_in m) m x.number) (board_in m).moves
unfolding move_in
by_number m =
    line-board m (λ x. x.costs ≡ costs_in (size_in m) (dimension_in m) m x.number)
    (each-move m (λ x. x.costs ≡ costs_in (size_in m) (dimension_in m) m x.number) (λ i. refl))

-- ---- the board

module _ (m : List ℕ) (t : Tree) (s : Stands m t) where
  pub stands-dimension : dimension_in m ≤ row_costs
  stands-dimension = dimension-most (dimension_in m) s.dimension

  pub stands-moves : moves_of t ≡ (board_in m).moves
  unfolding board_in
  stands-moves = sym (moves-line t) ∙ ap moves_in (sym s.line)

  pub stands-order : ordered (dimension_in m) (board_in m).moves ≡ true
  stands-order =
      subst (λ (ms : List Move). ordered (dimension_in m) ms ≡ true) stands-moves (ruled-ordered (dimension_in m) t s.rules)

  module _ (b : Bytes m) where
    pub stands-fit : Each (Fit (size_in m) (dimension_in m)) (board_in m).moves
    unfolding move_in
    stands-fit =
        line-board m (Fit (size_in m) (dimension_in m))
        (each-mono (λ r. (r.move.number < size_in m) × RowCosts (dimension_in m) r.move.costs) (λ r. Fit (size_in m) (dimension_in m) r.move) (line_in m)
        (λ r h. record { number = h.0; costs = h.1 })
        (each_both (λ r. r.move.number < size_in m) (λ r. RowCosts (dimension_in m) r.move.costs) (line_in m) s.numbers
        (each-move m (λ x. RowCosts (dimension_in m) x.costs) (λ i. costs-row m b (size_in m) (dimension_in m) (number_in (size_in m) m i) stands-dimension))))

    -- moves in order are different ones, and equal numbers would have equal costs
    pub stands-once : distinct (map (λ x. x.number) (board_in m).moves) ≡ true
    unfolding ordered
    stands-once =
        once-distinct (λ x. x.number) (board_in m).moves
        (rising-once (Fit (size_in m) (dimension_in m)) (move_before (dimension_in m)) (move-order (dimension_in m) (size_in m) stands-dimension) (board_in m).moves stands-fit stands-order)
        (λ x y j k e. move-path x y
        (e, each-mem Same (by_number m) j ∙ ap (costs_in (size_in m) (dimension_in m) m) e ∙ sym (each-mem Same (by_number m) k)))
      where
        Same : Move → Type 0
        Same x = x.costs ≡ costs_in (size_in m) (dimension_in m) m x.number

    pub stands-board : BlocksFit (board_in m) → SoundBoard (board_in m)
    unfolding board_in
    stands-board blocks =
        record { size = s.size; dimension = s.dimension; fit = stands-fit; once = stands-once; blocks = blocks; order = stands-order }

pub sound-board : (m : List ℕ) → Sound m → Bytes m → SoundBoard (board_in m)
sound-board m s k = stands-board m s.tree s.stands k s.blocks

-- The memory holds a board: it is sound.
abbrev pub holding-sound : {m : List ℕ} {b : Board} {t : Tree} → Holding m b t → Sound m
holding-sound {t = t} h = record { tree = t; stands = h.stands; blocks = subst BlocksFit (sym h.board) h.blocks }

pub holding-board : (m : List ℕ) (b : Board) (t : Tree) → Holding m b t → Bytes m → SoundBoard b
holding-board m b t h k = subst SoundBoard h.board (sound-board m (holding-sound h) k)
