-- The list over the moves in open blocks: what the search before each place finds, and that it is the definition's.
use Prim.Native.Nat.{ℕ, ◌+◌, ◌-◌, ◌/◌, ◌%◌, ◌^◌, ◌≤◌, ◌<◌}
use Rattle.std.proofs.Math.Bool.{Bool, not}
use Rattle.std.specs.Prelude.{true, false, ◌&&◌, ◌≡◌, ltb, take, Option, unwrap_or, is_some}
use mathlib.Core.List.{List}
use Rattle.std.proofs.Math.Path.{refl, sym, ap, subst}
use Rattle.std.proofs.Common.{◌∙◌}
use Rattle.std.proofs.Math.Decide.{dec_lt}
use native.Mathlib.Omega.{arith}
use borrow.Author.Tests.{lt-ltb, le-ltb, eq-eqb, ne_eqb}
use Rattle.std.proofs.Math.Dec.{eqb}
use Rattle.zorder.specs.Address.{row_costs}
use Rattle.model.specs.Basics.{Each, select, any}
use Rattle.model.specs.Moves.{Move}
use Rattle.model.specs.Dominance.{nowhere_greater, hides}
use Rattle.model.specs.Lists.{hidden, skyline, listed_rows}
use Rattle.model.specs.Hours.{Hours, block_open, open_moves}
use Rattle.model.specs.Calls.{block_bad, blocks_on, hours_query, query_rows}
use Rattle.model.proofs.Laws.Bool.{by_cases, both_ways, and_right, and_both, and-false-right, not-flip, not_back}
use Rattle.model.proofs.Laws.Basics.{select-ext, select-select, any-select}
use Rattle.model.proofs.Laws.Blocks.{block-most}
use Rattle.model.proofs.Laws.Hiding.{earlier-hides}
use Rattle.line.specs.Line.{moves_in}
use Rattle.promises.specs.Layout.{number_in, block_in, costs_in, move_in, line_from, line_in, board_in}
use Rattle.promises.specs.Run.{Bytes}
use Rattle.memory.specs.Held.{SoundRows}
use Rattle.search.specs.Search.{in_blocks, looks, looks_at, seen, seen_at, bounds_at, fits, Some, SomeFound}
use Rattle.memory.specs.Tests.{any_to, is_listed}
use Rattle.memory.specs.Laws.Blocks.{block_at, blocks-right}
use Rattle.memory.specs.Laws.Costs.{row-length, words-first}
use Rattle.memory.specs.Laws.Held.{held-dimension, held-ordered, held-listed}
use Rattle.search.specs.Laws.Search.{bounds-lanes}
use Rattle.search.specs.Laws.Hiders.{some-any, some-ext, found-before, words-within}
use Rattle.memory.specs.Laws.Lines.{moves_in-line}
use Rattle.memory.specs.Laws.Places.{any-tab, any_to-past, any_to-mono}
use Rattle.search.specs.declared.search.Among.TheVariants.{InBlocks}
use Rattle.upkeep.specs.Found.{found_moves, move_of}
use Rattle.upkeep.specs.Laws.Found.{each-move, found-selected}
use Rattle.upkeep.specs.Laws.Others.{own-place}
use Rattle.hours.specs.Open.{OpenBlocks, moves_in_blocks, shown}

-- ---- one move

module _ (c d n : ℕ) (m : List ℕ) (s : SoundRows c d n m) (b : Bytes m) (blocks i : ℕ) (l : i < n) where
  abbrev open_at : ℕ → Bool
  open_at j = in_blocks blocks c m (number_in c m j)

  -- Whether the move at place j is in an open block and hides that at i.
  abbrev hides_at : ℕ → Bool
  hides_at j = open_at j && hides d (move_in c d m j) (move_in c d m i)

  -- An earlier move hides if it is nowhere greater.
  fits-hides : (j : ℕ) → j < i → fits (InBlocks blocks) c m (bounds_at c d m i) j ≡ hides_at j
  unfolding fits looks_at looks seen_at seen move_in
  fits-hides j k =
      let few = held-dimension c d n m s in
      ap (λ (t : Bool). open_at j && t)
      (words-within c d m few b (number_in c m j) (costs_in c row_costs m (number_in c m i)) (bounds_at c d m i) (row-length c row_costs m (number_in c m i) (omega arith)) (bounds-lanes c d m i)
      ∙ ap (nowhere_greater (take d (move_in c d m j).costs)) (words-first c m (number_in c m i) d few)
      ∙ sym (earlier-hides d (move_in c d m j) (move_in c d m i) (held-ordered c d n m s j i k l) (row-length c d m (number_in c m j) few ∙ sym (row-length c d m (number_in c m i) few))))

  hidden-places : hidden d (moves_in_blocks c d n blocks m) (move_in c d m i) ≡ any_to hides_at n
  unfolding hidden move_in
  hidden-places =
      any-select (λ p. hides d p (move_in c d m i)) in_open (moves_in (line_from c d n m))
      ∙ ap (any (λ p. in_open p && hides d p (move_in c d m i))) (moves_in-line c d n m)
      ∙ any-tab (move_in c d m) (λ p. in_open p && hides d p (move_in c d m i)) n
    where
      in_open : Move → Bool
      in_open p = in_blocks blocks c m p.number

  -- A later move hides none.
  earlier-places : any_to hides_at n ≡ any_to hides_at i
  earlier-places =
      let all : n ≡ i + (n - i) = omega arith in
      ap (any_to hides_at) all
      ∙ any_to-past hides_at i (n - i)
      (λ j a g. and-false-right (open_at j) (hides d (move_in c d m j) (move_in c d m i)) ((own-place c d n m s b i l).after j a (omega arith)))

  own-found : (r : ℕ) → r ≤ i → eqb r i ≡ not (ltb r i)
  own-found r most = go (dec_lt r i)
    where
      go : Dec (r < i) → eqb r i ≡ not (ltb r i)
      go (yes k) = ne_eqb r i (λ e. omega arith) ∙ ap not (sym (lt-ltb r i k))
      go (no k) = eq-eqb r i (omega arith) ∙ ap not (sym (le-ltb r i (omega arith)))

  pub open-shown : (r : ℕ) → Some (fits (InBlocks blocks) c m (bounds_at c d m i)) i r → in_blocks blocks c m (number_in c m i) ≡ true → eqb r i ≡ shown c d n blocks m (move_in c d m i)
  unfolding shown move_in
  open-shown r found here =
      own-found r found.to
      ∙ ap not (sym (hidden-places ∙ earlier-places ∙ some-any hides_at i r (some-ext fits-hides found)))
      ∙ ap (λ (t : Bool). t && not (hidden d (moves_in_blocks c d n blocks m) (move_in c d m i))) (sym here)

  -- One is found if it is hidden.
  pub open-found : (r : Option ℕ) → SomeFound (fits (InBlocks blocks) c m (bounds_at c d m i)) i r → in_blocks blocks c m (number_in c m i) ≡ true → not (is_some r) ≡ shown c d n blocks m (move_in c d m i)
  open-found r f here = ap not (sym (found-before i r f.below)) ∙ sym (own-found (unwrap_or r i) f.some.to) ∙ open-shown (unwrap_or r i) f.some here

  -- What is listed no move hides, in whatever block.
  all-places : hidden d (moves_in (line_from c d n m)) (move_in c d m i) ≡ any_to (λ j. hides d (move_in c d m j) (move_in c d m i)) n
  unfolding hidden
  all-places = ap (any (λ p. hides d p (move_in c d m i))) (moves_in-line c d n m) ∙ any-tab (move_in c d m) (λ p. hides d p (move_in c d m i)) n

  pub listed-shown : is_listed c m i ≡ true → in_blocks blocks c m (number_in c m i) ≡ true → eqb i i ≡ shown c d n blocks m (move_in c d m i)
  unfolding shown move_in
  listed-shown listed here =
      eq-eqb i i refl
      ∙ sym
      (and_both (in_blocks blocks c m (number_in c m i)) (not (hidden d (moves_in_blocks c d n blocks m) (move_in c d m i))) here
      (not-flip (hidden d (moves_in_blocks c d n blocks m) (move_in c d m i))
      (by_cases (hidden d (moves_in_blocks c d n blocks m) (move_in c d m i))
      (λ t. both_ways
      (all-places
      ∙ any_to-mono hides_at (λ j. hides d (move_in c d m j) (move_in c d m i)) n (λ j k e. and_right (open_at j) (hides d (move_in c d m j) (move_in c d m i)) e) (sym hidden-places ∙ t))
      (not_back (hidden d (moves_in (line_from c d n m)) (move_in c d m i)) (sym (held-listed c d n m s i l) ∙ listed)))
      (λ t. t))))

  pub shut-unshown : in_blocks blocks c m (number_in c m i) ≡ false → eqb n i ≡ shown c d n blocks m (move_in c d m i)
  unfolding shown move_in
  shut-unshown shut =
      ne_eqb n i (λ e. omega arith)
      ∙ ap (λ (t : Bool). t && not (hidden d (moves_in_blocks c d n blocks m) (move_in c d m i))) (sym shut)

-- ---- all moves

module _ (c d n : ℕ) (m : List ℕ) where
  abbrev ms : List Move
  ms = moves_in (line_from c d n m)

  -- The moves shown are the list of those in open blocks.
  shown-skyline : (blocks : ℕ) → select (shown c d n blocks m) ms ≡ skyline d (moves_in_blocks c d n blocks m)
  unfolding skyline shown
  shown-skyline blocks = sym (select-select (λ x. not (hidden d (moves_in_blocks c d n blocks m) x)) (λ x. in_blocks blocks c m x.number) ms)

  module _ (s : SoundRows c d n m) where
    blocks-fit : Each (λ x. block_bad (blocks_on (moves_in (line_from c d n m)) (block_in c m) x.number) ≡ false) (moves_in (line_from c d n m))
    unfolding board_in line_in
    blocks-fit = subst (λ (T : Type 0). T) (λ j. Fit (sym s.size j) (sym s.dimension j) (sym s.count j)) s.sound.blocks
      where
        Fit : ℕ → ℕ → ℕ → Type 0
        Fit c d n = Each (λ x. block_bad (blocks_on (moves_in (line_from c d n m)) (block_in c m) x.number) ≡ false) (moves_in (line_from c d n m))

    -- The block of a move on the board is at most 63, so the search takes it as it is.
    block-open : {t blocks : ℕ} {hours : List Hours} → OpenBlocks t hours blocks → (i : ℕ) → i < n
        → in_blocks blocks c m (number_in c m i) ≡ block_open t hours (blocks_on ms (block_in c m) (number_in c m i))
    unfolding in_blocks
    block-open {t} {blocks} {hours} o i l =
        let k = block_in c m (number_in c m i) in
        let most = block-most k (blocks-right c d n m blocks-fit i l) in
        let same : k % 64 ≡ k = omega arith in
        ap (λ (j : ℕ). eqb (blocks / 2 ^ j % 2) 1) same
        ∙ o.bits k (omega arith)
        ∙ ap (block_open t hours) (sym (block_at c d n m (block_in c m) i l))

    open-selected : {t blocks : ℕ} {hours : List Hours} → OpenBlocks t hours blocks → moves_in_blocks c d n blocks m ≡ open_moves t hours (board_in m).blocks (board_in m).moves
    unfolding open_moves board_in line_in move_in
    open-selected {t} {blocks} {hours} o =
        select-ext (λ x. in_blocks blocks c m x.number) (λ x. block_open t hours (blocks_on ms (block_in c m) x.number)) ms
        (each-move c d n m (λ x. in_blocks blocks c m x.number ≡ block_open t hours (blocks_on ms (block_in c m) x.number)) (block-open o))
        ∙ (λ j. chosen (s.size j) (s.dimension j) (s.count j))
      where
        chosen : ℕ → ℕ → ℕ → List Move
        chosen c d n = select (λ x. block_open t hours (blocks_on (moves_in (line_from c d n m)) (block_in c m) x.number)) (moves_in (line_from c d n m))

    pub hours-rows : {t blocks : ℕ} {hours : List Hours} → OpenBlocks t hours blocks
        → listed_rows (found_moves c d n (λ k. shown c d n blocks m (move_of c d m k)) m) ≡ query_rows (board_in m) (hours_query t hours)
    unfolding query_rows board_in
    hours-rows {blocks = blocks} o = ap listed_rows (found-selected c d n m (shown c d n blocks m) ∙ shown-skyline blocks ∙ (λ j. skyline (s.dimension j) (open-selected o j)))
