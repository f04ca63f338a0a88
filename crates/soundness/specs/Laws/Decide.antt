-- The tests together decide whether the memory is sound, whatever its bytes are.
use Rattle.std.specs.Prelude.{ℕ, ◌≤◌, Bool, true, false, ◌≡◌, eqb}
use Rattle.std.proofs.lemmas.Bool.{false≢true}
use mathlib.Core.List.{List}
use Rattle.std.proofs.Math.Path.{sym, ap, subst}
use Rattle.std.proofs.Common.{◌∙◌, arith}
use Rattle.zorder.specs.Between.{row_costs}
use Rattle.model.specs.Basics.{Each, select}
use Rattle.model.specs.Moves.{Move, ordered}
use Rattle.model.specs.Lists.{skyline}
use Rattle.model.specs.Tree.{Tree, moves_of}
use Rattle.model.specs.Calls.{memory_need}
use Rattle.model.specs.Sound.{Fit}
use Rattle.model.proofs.Laws.Bool.{both_ways}
use Rattle.model.proofs.Laws.Order.{dimension-most}
use Rattle.model.proofs.Laws.Loading.{size-most}
use Rattle.model.proofs.Laws.Tree.{ruled-filled, both-ruled}
use Rattle.line.specs.Line.{Placed, line_of, moves_in, heights_in}
use Rattle.line.specs.Heights.{heights_right}
use Rattle.line.specs.Laws.Line.{moves-line}
use Rattle.line.specs.Laws.Decode.{tree_of}
use Rattle.line.specs.Laws.Heights.{heights-right, right-heights}
use Rattle.promises.specs.Layout.{size_in, dimension_in, count_in, number_in, flag_in, move_in, tab, heights_from, line_from, line_in, board_in, kept_from, kept_in}
use Rattle.promises.specs.Sound.{Stands, Sound}
use Rattle.promises.specs.Run.{Bytes}
use Rattle.promises.proofs.Laws.Tab.{each-tab}
use Rattle.promises.proofs.Laws.Stands.{costs-row, stands-dimension, stands-moves, stands-order}
use Rattle.memory.specs.Room.{Room, Numbers, Readable}
use Rattle.memory.specs.Held.{HeadOf}
use Rattle.memory.specs.declared.head.Head.{Head}
use Rattle.memory.specs.Tests.{head_right, numbers_right, order_right, is_listed, hidden_before, flags_right, Decides}
use Rattle.memory.specs.Laws.Lines.{moves_in-line, heights_in-line, numbers-each, each-numbers}
use Rattle.memory.specs.Laws.Ordered.{order-right}
use Rattle.memory.specs.Laws.Turns.{numbers-right, blocks-right, right-numbers}
use Rattle.memory.specs.Laws.Blocks as blocks
use Rattle.soundness.specs.Laws.Head.{HeadRight, head-right, right-head}
use Rattle.memory.specs.Laws.Flags.{flags-kept, kept-flags}

-- ---- the moves of the line

module _ (c d n : ℕ) (m : List ℕ) where
  module _ (b : Bytes m) (l : d ≤ row_costs) (h : Numbers c n m) (r : order_right c d n m ≡ true) where
    moves-fit : Each (Fit c d) (tab (move_in c d m) n)
    unfolding move_in
    moves-fit = each-tab (move_in c d m) (Fit c d) n (λ i k. record { number = h i k; costs = costs-row m b c d (number_in c m i) l })

    in_order : ordered d (tab (move_in c d m) n) ≡ true
    in_order = ap (ordered d) (sym (moves_in-line c d n m)) ∙ order-right c d n m ∙ r

    listed : Move → Bool
    listed x = eqb (flag_in c m x.number) 1

    flags-right : flags_right c d n m ≡ true → kept_from c m (moves_in (line_from c d n m)) ≡ skyline d (moves_in (line_from c d n m))
    unfolding flags_right is_listed hidden_before kept_from listed move_in
    flags-right e =
        subst (λ (ms : List Move). select listed ms ≡ skyline d ms) (sym (moves_in-line c d n m))
        (flags-kept d c l listed (move_in c d m) n moves-fit in_order e)

    right-flags : kept_from c m (moves_in (line_from c d n m)) ≡ skyline d (moves_in (line_from c d n m)) → flags_right c d n m ≡ true
    unfolding flags_right is_listed hidden_before kept_from listed move_in
    right-flags e =
        kept-flags d c l listed (move_in c d m) n moves-fit in_order
        (subst (λ (ms : List Move). select listed ms ≡ skyline d ms) (moves_in-line c d n m) e)

-- ---- a sound memory passes each test, and one that passes all is sound

module _ (m : List ℕ) where
  abbrev c : ℕ
  c = size_in m

  abbrev d : ℕ
  d = dimension_in m

  abbrev n : ℕ
  n = count_in m

  pub sound-head : Sound m → head_right m ≡ true
  sound-head s =
      right-head m (record { size = s.stands.size; dimension = s.stands.dimension; format = s.stands.format; room = s.stands.room; count = s.stands.count })

  pub stands-numbers : {t : Tree} → Stands m t → Numbers (size_in m) (count_in m) m
  unfolding line_in
  stands-numbers s = each-numbers c d n m s.numbers

  pub sound-numbers : Sound m → numbers_right (size_in m) (count_in m) m ≡ true
  unfolding line_in board_in
  sound-numbers s = right-numbers c m n (stands-numbers s.stands) (blocks.blocks-right c d n m s.blocks)

  pub sound-order : Sound m → order_right (size_in m) (dimension_in m) (count_in m) m ≡ true
  unfolding line_in board_in
  sound-order s = sym (order-right c d n m) ∙ stands-order m s.tree s.stands

  pub sound-heights : Sound m → heights_right (heights_in (line_in m)) ≡ true
  sound-heights s =
      ap (λ (rs : List Placed). heights_right (heights_in rs)) s.stands.line ∙ heights-right s.tree (ruled-filled d s.tree s.stands.rules)

  module _ (b : Bytes m) where
    pub sound-flags : Sound m → flags_right (size_in m) (dimension_in m) (count_in m) m ≡ true
    unfolding line_in kept_in board_in
    sound-flags s =
        right-flags c d n m b (stands-dimension m s.tree s.stands) (stands-numbers s.stands) (sound-order s)
        (s.stands.kept ∙ ap (skyline d) (stands-moves m s.tree s.stands))

    pub right-sound : head_right m ≡ true → numbers_right (size_in m) (count_in m) m ≡ true
        → order_right (size_in m) (dimension_in m) (count_in m) m ≡ true → heights_right (heights_in (line_in m)) ≡ true
        → flags_right (size_in m) (dimension_in m) (count_in m) m ≡ true → Sound m
    unfolding line_in kept_in board_in
    right-sound e f g h k = record { tree = t; stands = stands; blocks = blocks.right-blocks c d n m (blocks-right c m n f) }
      where
        head : HeadRight m
        head = head-right m e

        numbers : Numbers c n m
        numbers = numbers-right c m n f

        t : Tree
        t = tree_of (line_in m)

        line : line_in m ≡ line_of t
        line = sym (right-heights (line_in m) h).1

        moves : moves_in (line_in m) ≡ moves_of t
        moves = ap moves_in line ∙ moves-line t

        stands : Stands m t
        stands =
            record {
              size = head.size;
              dimension = head.dimension;
              format = head.format;
              room = head.room;
              count = head.count;
              numbers = numbers-each c d n m numbers;
              line = line;
              rules = both-ruled d t (right-heights (line_in m) h).0 (ap (ordered d) (sym moves) ∙ order-right c d n m ∙ g);
              kept = flags-right c d n m b (dimension-most d head.dimension) numbers g k ∙ ap (skyline d) moves;
            }

-- ---- the answers of the code, test by test

module _ (m : List ℕ) where
  refuted : (Sound m → ⊥) → Decides false m
  refuted n = record { sound = λ e. absurd (false≢true e); unsound = λ _. n }

  pub head-decides : head_right m ≡ false → Decides false m
  head-decides e = refuted (λ s. both_ways (sound-head m s) e)

  module _ (h : Head) (own : HeadOf h m) where
    same_numbers : numbers_right h.size h.count m ≡ numbers_right (size_in m) (count_in m) m
    same_numbers = λ i. numbers_right (own.size i) (own.count i) m

    same-order : order_right h.size h.dimension h.count m ≡ order_right (size_in m) (dimension_in m) (count_in m) m
    same-order = λ i. order_right (own.size i) (own.dimension i) (own.count i) m

    same-heights : heights_right (heights_from h.size h.count m) ≡ heights_right (heights_in (line_in m))
    unfolding line_in
    same-heights =
        ap heights_right (sym (heights_in-line h.size h.dimension h.count m))
        ∙ (λ i. heights_right (heights_in (line_from (own.size i) (own.dimension i) (own.count i) m)))

    same_flags : flags_right h.size h.dimension h.count m ≡ flags_right (size_in m) (dimension_in m) (count_in m) m
    same_flags = λ i. flags_right (own.size i) (own.dimension i) (own.count i) m

    pub numbers-decides : numbers_right h.size h.count m ≡ false → Decides false m
    numbers-decides e = refuted (λ s. both_ways (same_numbers ∙ sound-numbers m s) e)

    pub order-decides : order_right h.size h.dimension h.count m ≡ false → Decides false m
    order-decides e = refuted (λ s. both_ways (same-order ∙ sound-order m s) e)

    pub heights-decides : heights_right (heights_from h.size h.count m) ≡ false → Decides false m
    heights-decides e = refuted (λ s. both_ways (same-heights ∙ sound-heights m s) e)

    pub flags-decides : Bytes m → head_right m ≡ true → numbers_right h.size h.count m ≡ true → order_right h.size h.dimension h.count m ≡ true
        → heights_right (heights_from h.size h.count m) ≡ true → (r : Bool) → r ≡ flags_right h.size h.dimension h.count m → Decides r m
    flags-decides b e j k l r q =
        record {
          sound = λ t. right-sound m b e (sym same_numbers ∙ j) (sym same-order ∙ k) (sym same-heights ∙ l) (sym same_flags ∙ sym q ∙ t);
          unsound = λ u s. both_ways (q ∙ same_flags ∙ sound-flags m b s) u;
        }

    -- What the tests passed give those that follow.
    module _ (e : head_right m ≡ true) where
      head : HeadRight m
      head = head-right m e

      pub own_room : Room h.size m × (h.count ≤ h.size)
      unfolding memory_need
      own_room =
          ((omega (arith, own.size, head.room), omega (arith, own.size, size-most (size_in m) head.size)), omega (arith, own.size, own.count, head.count))

      pub own-readable : numbers_right h.size h.count m ≡ true → Readable h m
      own-readable j =
          record {
            room = own_room.0;
            rows = own_room.1;
            numbers = numbers-right h.size m h.count j;
            dimension = omega (arith, own.dimension, dimension-most (dimension_in m) head.dimension);
          }
