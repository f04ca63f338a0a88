-- The line that rows of the memory hold: place by place, over frames, and after stores.
use Prim.Native.Nat.{ℕ, suc, ◌≤◌, ◌<◌}
use mathlib.Core.List.{List}
use Rattle.std.specs.Prelude.{◌≢◌, ◌≡◌, length, get_or}
use Rattle.std.proofs.Math.Path.{sym, ap, ap₂}
use Rattle.std.proofs.Common.{◌∙◌, arith}
use Rattle.zorder.specs.Address.{row_costs}
use Rattle.model.specs.Basics.{Each}
use Rattle.model.specs.Moves.{Move}
use Rattle.line.specs.Line.{Placed, none, moves_in, heights_in}
use Rattle.line.specs.Places as places
use Rattle.line.specs.Places.{move_at, height_at, insert_at}
use Rattle.promises.specs.Layout.{size_in, dimension_in, count_in, number_in, height_in, costs_in, move_in, placed_in, tab, heights_from, line_from, line_in}
use Rattle.memory.specs.Room.{Room, Numbers}
use Rattle.memory.specs.Stores.{set_height, set_costs}
use Rattle.memory.specs.Frame.{DifferWithin, FlagsOnly, WorkOnly}
use Rattle.promises.proofs.Laws.Tab.{each-tab, length-tab, get_or-tab, tab-ext, tab-set, tab-insert, map-tab}
use Rattle.memory.specs.Laws.Places.{tab-each}
use Rattle.memory.specs.Laws.Fields.{number-over-head, height-over-head, costs-over-head, costs-over-rows, number-over-flags, height-over-flags, costs-over-flags, number-over-costs, height-over-costs, number-over-work, height-over-work, costs-over-work}
use Rattle.memory.specs.Laws.Stored.{set_height-rows, set_costs-costs, number-set_height, height-set_height, height-set_height-other, costs-set_costs-other}

-- ---- place by place

module _ (c n : ℕ) (m : List ℕ) where
  pub length-heights_from : length (heights_from c n m) ≡ n
  unfolding heights_from
  length-heights_from = length-tab (height_in c m) n

  pub get_or-heights_from : (i : ℕ) → i < n → get_or (heights_from c n m) i 0 ≡ height_in c m i
  unfolding heights_from
  get_or-heights_from i h = get_or-tab (height_in c m) 0 n i h

module _ (c d n : ℕ) (m : List ℕ) where
  pub length-line : length (line_from c d n m) ≡ n
  unfolding line_from
  length-line = length-tab (placed_in c d m) n

  pub get_or-line : (i : ℕ) → i < n → get_or (line_from c d n m) i none ≡ placed_in c d m i
  unfolding line_from
  get_or-line i h = get_or-tab (placed_in c d m) none n i h

  pub move_at-line : (i : ℕ) → i < n → move_at (line_from c d n m) i ≡ move_in c d m i
  unfolding move_at placed_in
  move_at-line i h = ap (λ (r : Placed). r.move) (get_or-line i h)

  pub height_at-line : (i : ℕ) → i < n → height_at (line_from c d n m) i ≡ height_in c m i
  unfolding height_at placed_in
  height_at-line i h = ap (λ (r : Placed). r.height) (get_or-line i h)

  pub moves_in-line : moves_in (line_from c d n m) ≡ tab (move_in c d m) n
  unfolding line_from moves_in placed_in
  moves_in-line = map-tab (λ (r : Placed). r.move) (placed_in c d m) n

  pub heights_in-line : heights_in (line_from c d n m) ≡ heights_from c n m
  unfolding line_from heights_in heights_from placed_in
  heights_in-line = map-tab (λ (r : Placed). r.height) (placed_in c d m) n

  pub numbers-each : Numbers c n m → Each (λ r. r.move.number < c) (line_from c d n m)
  unfolding line_from placed_in move_in
  numbers-each h = each-tab (placed_in c d m) (λ r. r.move.number < c) n h

  pub each-numbers : Each (λ r. r.move.number < c) (line_from c d n m) → Numbers c n m
  unfolding line_from placed_in move_in
  each-numbers es i l = tab-each (placed_in c d m) (λ r. r.move.number < c) n i l es

  pub line_in-line : size_in m ≡ c → dimension_in m ≡ d → count_in m ≡ n → line_in m ≡ line_from c d n m
  unfolding line_in
  line_in-line e f g = λ i. line_from (e i) (f i) (g i) m

-- ---- equal fields, equal lines

abbrev made : ℕ → List ℕ → Move
made n cs = record { number = n; costs = cs }

abbrev placed : Move → ℕ → Placed
placed x h = record { move = x; height = h }

module _ (c d : ℕ) (m m' : List ℕ) where
  module _ (i j : ℕ) (number : number_in c m' j ≡ number_in c m i) (costs : costs_in c d m' (number_in c m i) ≡ costs_in c d m (number_in c m i)) where
    pub move-ext : move_in c d m' j ≡ move_in c d m i
    unfolding move_in
    move-ext = ap₂ made number (ap (costs_in c d m') number ∙ costs)

    pub placed-ext : height_in c m' j ≡ height_in c m i → placed_in c d m' j ≡ placed_in c d m i
    unfolding placed_in
    placed-ext height = ap₂ placed move-ext height

  pub line-ext : (n : ℕ) → ((i : ℕ) → i < n → number_in c m' i ≡ number_in c m i) → ((i : ℕ) → i < n → height_in c m' i ≡ height_in c m i) → ((i : ℕ) → i < n → costs_in c d m' (number_in c m i) ≡ costs_in c d m (number_in c m i)) → line_from c d n m' ≡ line_from c d n m
  unfolding line_from
  line-ext n number height costs = tab-ext (placed_in c d m') (placed_in c d m) n (λ i h. placed-ext i i (number i h) (costs i h) (height i h))

  -- A row put in at place p.
  pub line-insert : (n p : ℕ) (r : Placed) → p ≤ n → ((i : ℕ) → i < p → placed_in c d m' i ≡ placed_in c d m i) → placed_in c d m' p ≡ r → ((i : ℕ) → p ≤ i → i < n → placed_in c d m' (suc i) ≡ placed_in c d m i) → line_from c d (suc n) m' ≡ insert_at p r (line_from c d n m)
  unfolding line_from insert_at
  line-insert = tab-insert (placed_in c d m) (placed_in c d m')

module _ (c d n : ℕ) {m m' : List ℕ} where
  pub line-over-head : DifferWithin 0 16 m m' → line_from c d n m' ≡ line_from c d n m
  line-over-head f = line-ext c d m m' n (λ i h. number-over-head c f i) (λ i h. height-over-head c f i) (λ i h. costs-over-head c f d _)

  pub line-over-flags : FlagsOnly c m m' → n ≤ c → line_from c d n m' ≡ line_from c d n m
  line-over-flags f few =
      line-ext c d m m' n
      (λ i h. number-over-flags c f i (omega arith))
      (λ i h. height-over-flags c f i (omega arith))
      (λ i h. costs-over-flags c f d _)

  pub line-over-work : WorkOnly c m m' → n ≤ c → d ≤ row_costs → Numbers c n m → line_from c d n m' ≡ line_from c d n m
  line-over-work f few l numbers =
      line-ext c d m m' n
      (λ i h. number-over-work c f i (omega arith))
      (λ i h. height-over-work c f i (omega arith))
      (λ i h. costs-over-work c f d _ l (numbers i h))

-- ---- after stores

module _ (c d n : ℕ) (m : List ℕ) where
  -- The costs of a number that stands at none of the places.
  pub line-set_costs : (k : ℕ) (costs : List ℕ) → k < c → length costs ≤ row_costs → n ≤ c → d ≤ row_costs → ((i : ℕ) → i < n → number_in c m i ≢ k) → line_from c d n (set_costs c k costs m) ≡ line_from c d n m
  line-set_costs k costs h count few l absent =
      let f = set_costs-costs c k m h costs count in
      line-ext c d m (set_costs c k costs m) n
      (λ i b. number-over-costs c f i (omega arith))
      (λ i b. height-over-costs c f i (omega arith))
      (λ i b. costs-set_costs-other c k m (number_in c m i) (absent i b) d costs l count)

  pub line-set_height : (i k : ℕ) → Room c m → i < n → n ≤ c → line_from c d n (set_height c i k m) ≡ places.set_height i k (line_from c d n m)
  unfolding line_from placed_in places.set_height
  line-set_height i k room h few =
      tab-set (placed_in c d m) (placed_in c d m') n i (placed (move_at (line_from c d n m) i) k) h
      (ap₂ placed (move-ext c d m m' i i (number i (omega arith)) (costs i) ∙ sym (move_at-line c d n m i h)) (height-set_height c i m room (omega arith) k))
      (λ j b ne. placed-ext c d m m' j j (number j (omega arith)) (costs j) (height-set_height-other c i m j ne k))
    where
      m' : List ℕ
      m' = set_height c i k m

      number : (j : ℕ) → j < c → number_in c m' j ≡ number_in c m j
      number j b = number-set_height c i m j k b

      costs : (j : ℕ) → costs_in c d m' (number_in c m j) ≡ costs_in c d m (number_in c m j)
      costs j = costs-over-rows c (set_height-rows c i m (omega arith) k) d (number_in c m j)
