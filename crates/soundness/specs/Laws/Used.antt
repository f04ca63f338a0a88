-- The board of a memory, its tree and whether it is sound depend on its bytes in use alone.
use Rattle.std.specs.Prelude.{ℕ, ◌+◌, ◌*◌, ◌≤◌, ◌<◌, true, ◌||◌, ◌≡◌, refl, length, get_or}
use Rattle.std.proofs.Math.Bool.{Bool}
use mathlib.Core.List.{List}
use Rattle.std.proofs.Common.{sym, ap₂, ◌∙◌, arith}
use Rattle.std.proofs.Math.Path.{ap, subst}
use borrow.Author.Tests.{leb-true, le-leb, eq-eqb}
use Rattle.std.proofs.Math.Dec.{eqb}
use Rattle.zorder.specs.Address.{padded}
use Rattle.zorder.specs.Refusal.{cost_count_bad}
use Rattle.model.specs.Basics.{Each, any}
use Rattle.model.specs.Moves.{Move}
use Rattle.model.specs.Lists.{skyline}
use Rattle.model.specs.Tree.{Tree, moves_of, ruled}
use Rattle.model.specs.Calls.{size_bad, memory_need, blocks_on}
use Rattle.model.proofs.Laws.Bool.{or_left, or_right}
use Rattle.model.proofs.Laws.Basics.{select-ext}
use Rattle.line.specs.Line.{moves_in}
use Rattle.promises.specs.Layout.{word_at, number_place, height_place, flag_place, block_place, cost_place, size_in, dimension_in, format_in, count_in, number_in, height_in, flag_in, block_in, cost_in, costs_in, move_in, tab, line_from, line_in, board_in, kept_from, kept_in}
use Rattle.promises.specs.Sound.{Stands}
use Rattle.promises.specs.Written.{in_area}
use Rattle.promises.specs.Used.{head_use, rows_use, move_use, in_use, long_enough, SameInUse}
use Rattle.promises.proofs.Laws.Tab.{each-tab, tab-ext}
use Rattle.promises.proofs.Laws.Written.{in-area}
use Rattle.memory.specs.Laws.Places.{any-tab, any_to-found}
use Rattle.memory.specs.Laws.Lines.{line-ext, moves_in-line}
use Rattle.memory.specs.Laws.Blocks.{same_blocks}

-- ---- fields by their bytes

pub word_same : (m m' : List ℕ) (o : ℕ) → get_or m' o 0 ≡ get_or m o 0 → get_or m' (o + 1) 0 ≡ get_or m (o + 1) 0 → word_at o m' ≡ word_at o m
unfolding word_at
word_same m m' o low high = ap₂ (λ (a b : ℕ). a + 256 * b) low high

module _ (m m' : List ℕ) (same : SameInUse m m') where
  abbrev c : ℕ
  c = size_in m

  abbrev d : ℕ
  d = dimension_in m

  abbrev n : ℕ
  n = count_in m

  abbrev moves-use : ℕ → Bool
  moves-use i = any (move_use (size_in m) (dimension_in m) i) (tab (number_in (size_in m) m) (count_in m))

  head_byte : (i : ℕ) → head_use i ≡ true → get_or m' i 0 ≡ get_or m i 0
  unfolding in_use
  head_byte i h = same.bytes i (or_left (head_use i || rows_use c n i) (moves-use i) (or_left (head_use i) (rows_use c n i) h))

  rows-byte : (i : ℕ) → rows_use (size_in m) (count_in m) i ≡ true → get_or m' i 0 ≡ get_or m i 0
  unfolding in_use
  rows-byte i h = same.bytes i (or_left (head_use i || rows_use c n i) (moves-use i) (or_right (head_use i) (rows_use c n i) h))

  first_byte : (i : ℕ) → i < 4 → get_or m' i 0 ≡ get_or m i 0
  unfolding head_use
  first_byte i u = head_byte i (or_left (in_area 0 4 i) (in_area 4 6 i) (in-area 0 4 i (omega arith) u))

  count-byte : (i : ℕ) → 4 ≤ i → i < 6 → get_or m' i 0 ≡ get_or m i 0
  unfolding head_use
  count-byte i l u = head_byte i (or_right (in_area 0 4 i) (in_area 4 6 i) (in-area 4 6 i l u))

  size_same : size_in m' ≡ size_in m
  unfolding size_in
  size_same = word_same m m' 0 (first_byte 0 (omega arith)) (first_byte 1 (omega arith))

  dimension-same : dimension_in m' ≡ dimension_in m
  unfolding dimension_in
  dimension-same = first_byte 2 (omega arith)

  format-same : format_in m' ≡ format_in m
  unfolding format_in
  format-same = first_byte 3 (omega arith)

  count_same : count_in m' ≡ count_in m
  unfolding count_in
  count_same = word_same m m' 4 (count-byte 4 (omega arith) (omega arith)) (count-byte 5 (omega arith) (omega arith))

  module _ (i : ℕ) (l : i < count_in m) where
    number-byte : (o : ℕ) → number_place i ≤ o → o < number_place i + 2 → get_or m' o 0 ≡ get_or m o 0
    unfolding rows_use
    number-byte o k u =
        rows-byte o
        (or_left (in_area (number_place 0) (number_place n) o) (in_area (height_place c 0) (height_place c n) o)
        (in-area (number_place 0) (number_place n) o (omega arith) (omega arith)))

    number_same : number_in (size_in m) m' i ≡ number_in (size_in m) m i
    unfolding number_in
    number_same = word_same m m' (number_place i) (number-byte (number_place i) (omega arith) (omega arith)) (number-byte (number_place i + 1) (omega arith) (omega arith))

    height-same : height_in (size_in m) m' i ≡ height_in (size_in m) m i
    unfolding height_in rows_use
    height-same =
        rows-byte (height_place c i)
        (or_right (in_area (number_place 0) (number_place n) (height_place c i)) (in_area (height_place c 0) (height_place c n) (height_place c i))
        (in-area (height_place c 0) (height_place c n) (height_place c i) (omega arith) (omega arith)))

    abbrev number : ℕ
    number = number_in (size_in m) m i

    move-byte : (o : ℕ) → move_use (size_in m) (dimension_in m) o (number_in (size_in m) m i) ≡ true → get_or m' o 0 ≡ get_or m o 0
    unfolding in_use
    move-byte o h =
        same.bytes o
        (or_right (head_use o || rows_use c n o) (moves-use o)
        (any-tab (number_in c m) (move_use c d o) n ∙ any_to-found (λ j. move_use c d o (number_in c m j)) n i l h))

    flag_same : flag_in (size_in m) m' (number_in (size_in m) m i) ≡ flag_in (size_in m) m (number_in (size_in m) m i)
    unfolding flag_in move_use
    flag_same =
        let o = flag_place c number in
        move-byte o (or_left (eqb o (flag_place c number) || eqb o (block_place c number)) (in_area (cost_place c number 0) (cost_place c number d) o) (or_left (eqb o (flag_place c number)) (eqb o (block_place c number)) (eq-eqb o (flag_place c number) refl)))

    block_same : block_in (size_in m) m' (number_in (size_in m) m i) ≡ block_in (size_in m) m (number_in (size_in m) m i)
    unfolding block_in move_use
    block_same =
        let o = block_place c number in
        move-byte o (or_left (eqb o (flag_place c number) || eqb o (block_place c number)) (in_area (cost_place c number 0) (cost_place c number d) o) (or_right (eqb o (flag_place c number)) (eqb o (block_place c number)) (eq-eqb o (block_place c number) refl)))

    cost-byte : (o : ℕ) → cost_place (size_in m) (number_in (size_in m) m i) 0 ≤ o → o < cost_place (size_in m) (number_in (size_in m) m i) (dimension_in m) → get_or m' o 0 ≡ get_or m o 0
    unfolding move_use
    cost-byte o k u =
        move-byte o
        (or_right (eqb o (flag_place c number) || eqb o (block_place c number)) (in_area (cost_place c number 0) (cost_place c number d) o) (in-area (cost_place c number 0) (cost_place c number d) o k u))

    costs-same : costs_in (size_in m) (dimension_in m) m' (number_in (size_in m) m i) ≡ costs_in (size_in m) (dimension_in m) m (number_in (size_in m) m i)
    unfolding costs_in cost_in
    costs-same =
        ap (padded d)
        (tab-ext (cost_in c m' number) (cost_in c m number) d
        (λ j g.
        let o = cost_place c number j in
        word_same m m' o (cost-byte o (omega arith) (omega arith)) (cost-byte (o + 1) (omega arith) (omega arith))))

  -- ---- the whole

  line_same : line_in m' ≡ line_in m
  unfolding line_in
  line_same =
      (λ i. line_from (size_same i) (dimension-same i) (count_same i) m')
      ∙ line-ext c d m m' n number_same height-same costs-same

  kept_same : kept_in m' ≡ kept_in m
  unfolding kept_in kept_from line_in move_in
  kept_same =
      (λ i. kept_from (size_same i) m' (moves_in (line_same i)))
      ∙ select-ext listed' listed (moves_in (line_from c d n m))
      (subst (Each (λ x. listed' x ≡ listed x)) (sym (moves_in-line c d n m))
      (each-tab (move_in c d m) (λ x. listed' x ≡ listed x) n (λ i l. ap (λ (v : ℕ). eqb v 1) (flag_same i l))))
    where
      listed' : Move → Bool
      listed' x = eqb (flag_in c m' x.number) 1

      listed : Move → Bool
      listed x = eqb (flag_in c m x.number) 1

  blocks-same : blocks_on (moves_in (line_in m')) (block_in (size_in m') m') ≡ blocks_on (moves_in (line_in m)) (block_in (size_in m) m)
  unfolding line_in
  blocks-same =
      (λ i. blocks_on (moves_in (line_same i)) (block_in (size_same i) m'))
      ∙ same_blocks c d n m (block_in c m') (block_in c m) block_same

  -- The same bytes are in use in both.
  use-same : (i : ℕ) → in_use m' i ≡ in_use m i
  unfolding in_use
  use-same i =
      (λ j. head_use i || rows_use (size_same j) (count_same j) i || any (move_use (size_same j) (dimension-same j) i) (tab (number_in (size_same j) m') (count_same j)))
      ∙ ap (λ (ns : List ℕ). head_use i || rows_use c n i || any (move_use c d i) ns) (tab-ext (number_in c m') (number_in c m) n number_same)

  pub used-sym : SameInUse m' m
  used-sym = record { bytes = λ i h. sym (same.bytes i (sym (use-same i) ∙ h)); long = sym same.long }

  pub used-board : board_in m' ≡ board_in m
  unfolding board_in
  used-board = λ i. record { size = size_same i; dimension = dimension-same i; moves = moves_in (line_same i); blocks = blocks-same i }

  pub used-stands : {t : Tree} → Stands m t → Stands m' t
  unfolding long_enough
  used-stands {t} s =
      record {
        size = ap size_bad size_same ∙ s.size;
        dimension = ap cost_count_bad dimension-same ∙ s.dimension;
        format = format-same ∙ s.format;
        room = leb-true (memory_need (size_in m')) (length m') (same.long ∙ le-leb (memory_need c) (length m) s.room);
        count = omega (arith, count_same, size_same, s.count);
        numbers = subst (λ (c : ℕ). Each (λ r. r.move.number < c) (line_in m')) (sym size_same) (subst (Each (λ r. r.move.number < size_in m)) (sym line_same) s.numbers);
        line = line_same ∙ s.line;
        rules = ap (λ (d : ℕ). ruled d t) dimension-same ∙ s.rules;
        kept = kept_same ∙ s.kept ∙ ap (λ (d : ℕ). skyline d (moves_of t)) (sym dimension-same);
      }

-- The same trees stand in both.
pub used-alone : (m m' : List ℕ) → SameInUse m m' → (t : Tree) → (Stands m t → Stands m' t) × (Stands m' t → Stands m t)
used-alone m m' same t = (used-stands m m' same, used-stands m' m (used-sym m m' same))
