-- The frame of each store, and what is read after it.
use Prim.Native.Nat.{ℕ, zero, suc, ◌+◌, ◌≤◌, ◌<◌}
use Rattle.std.specs.Prelude.{Bool, true, false, cond, ◌⊎◌, ◌≢◌, ◌≡◌, refl, eqb, length, get_or, set, take}
use mathlib.Core.List.{List, [], ◌∷◌}
use Rattle.std.proofs.Common.{inl, inr, ◌∙◌, add-zero, zero-add, arith, length-take-le}
use Rattle.std.proofs.Math.Logic.{⊎_map}
use Rattle.std.proofs.Math.Path.{sym, ap}
use Rattle.std.proofs.Math.Decide.{dec_lt}
use Rattle.std.proofs.Math.ListN.{length-set}
use Rattle.std.proofs.Math.Seq.{get_or-set_same, get_or-take}
use Rattle.zorder.specs.Address.{row_costs, padded}
use Rattle.zorder.specs.Between.{RowCosts}
use Rattle.zorder.proofs.Laws.Between.{row-padded}
use Rattle.promises.specs.Layout.{set_word, format_number, number_place, height_place, flag_place, cost_place, work_place, size_in, dimension_in, format_in, count_in, number_in, height_in, flag_in, cost_in, work_in, costs_in}
use Rattle.memory.specs.Room.{Room}
use Rattle.memory.specs.Stores.{set_head, set_count, set_number, set_height, set_listed, set_costs_from, set_costs, set_work}
use Rattle.memory.specs.Frame.{DifferWithin, RowsOnly, FlagsOnly, CostsOnly, WorkOnly}
use Rattle.memory.specs.Laws.Frames.{frame-refl, frame-trans, frame-widen, byte-frame, word-frame, byte-across, word-across, word-stored, word-length}
use Rattle.memory.specs.Laws.Fields.{number-over, height-over, flag-over, costs-over, work-over}
use Rattle.promises.proofs.Laws.Tab.{tab-of}

apart : {i j : ℕ} → j ≢ i → (j < i) ⊎ (i < j)
apart {i} {j} ne = go (dec_lt j i)
  where
    go : Dec (j < i) → (j < i) ⊎ (i < j)
    go (yes l) = inl l
    go (no n) = inr (omega arith)

-- ---- frames

pub set_count-frame : (n : ℕ) (m : List ℕ) → DifferWithin 4 6 m (set_count n m)
unfolding set_count
set_count-frame n m = word-frame 4 n m

pub set_head-frame : (c d n : ℕ) (m : List ℕ) → DifferWithin 0 16 m (set_head c d n m)
unfolding set_head
set_head-frame c d n m =
    let m₁ : List ℕ = set_word 0 c m in
    let m₂ : List ℕ = set m₁ 2 d in
    let m₃ : List ℕ = set m₂ 3 format_number in
    frame-trans (frame-widen (omega arith) (omega arith) (word-frame 0 c m))
    (frame-trans (frame-widen (omega arith) (omega arith) (byte-frame 2 d m₁))
    (frame-trans (frame-widen (omega arith) (omega arith) (byte-frame 3 format_number m₂)) (frame-widen (omega arith) (omega arith) (word-frame 4 n m₃))))

module _ (c i : ℕ) (m : List ℕ) where
  pub set_number-frame : (v : ℕ) → DifferWithin (number_place i) (number_place i + 2) m (set_number c i v m)
  unfolding set_number
  set_number-frame v = word-frame (number_place i) v m

  pub set_height-frame : (h : ℕ) → DifferWithin (height_place c i) (height_place c i + 1) m (set_height c i h m)
  unfolding set_height
  set_height-frame h = byte-frame (height_place c i) h m

  pub set_listed-frame : (b : Bool) → DifferWithin (flag_place c i) (flag_place c i + 1) m (set_listed c i b m)
  unfolding set_listed
  set_listed-frame b = byte-frame (flag_place c i) (cond b 1 0) m

  pub set_work-frame : (v : ℕ) → DifferWithin (work_place c i) (work_place c i + 2) m (set_work c i v m)
  unfolding set_work
  set_work-frame v = word-frame (work_place c i) v m

set_costs_from-frame : (c n j : ℕ) (vs m : List ℕ) → DifferWithin (cost_place c n j) (cost_place c n (j + length vs)) m (set_costs_from c n j vs m)
unfolding set_costs_from
set_costs_from-frame c n j [] m = frame-refl m
set_costs_from-frame c n j (v ∷ vs) m =
    frame-trans (frame-widen (omega arith) (omega arith) (word-frame (cost_place c n j) v m))
    (frame-widen (omega arith) (omega arith) (set_costs_from-frame c n (suc j) vs (set_word (cost_place c n j) v m)))

pub set_costs-frame : (c n : ℕ) (costs m : List ℕ) → DifferWithin (cost_place c n 0) (cost_place c n (length costs)) m (set_costs c n costs m)
unfolding set_costs
set_costs-frame c n costs m = frame-widen (omega arith) (omega arith) (set_costs_from-frame c n 0 costs m)

-- The same by areas, for an index within them.
module _ (c i : ℕ) (m : List ℕ) (h : i < c) where
  pub set_number-rows : (v : ℕ) → RowsOnly c m (set_number c i v m)
  set_number-rows v = frame-widen (omega arith) (omega arith) (set_number-frame c i m v)

  pub set_height-rows : (k : ℕ) → RowsOnly c m (set_height c i k m)
  set_height-rows k = frame-widen (omega arith) (omega arith) (set_height-frame c i m k)

  pub set_listed-flags : (b : Bool) → FlagsOnly c m (set_listed c i b m)
  set_listed-flags b = frame-widen (omega arith) (omega arith) (set_listed-frame c i m b)

  pub set_costs-costs : (costs : List ℕ) → length costs ≤ row_costs → CostsOnly c m (set_costs c i costs m)
  set_costs-costs costs few = frame-widen (omega arith) (omega arith) (set_costs-frame c i costs m)

  pub set_work-work : (v : ℕ) → WorkOnly c m (set_work c i v m)
  set_work-work v = frame-widen (omega arith) (omega arith) (set_work-frame c i m v)

pub set_count-head : (n : ℕ) (m : List ℕ) → DifferWithin 0 16 m (set_count n m)
set_count-head n m = frame-widen (omega arith) (omega arith) (set_count-frame n m)

-- ---- the length

pub length-set_number : (c i v : ℕ) (m : List ℕ) → length (set_number c i v m) ≡ length m
length-set_number c i v m = (set_number-frame c i m v).length

-- ---- the head

module _ (c d n : ℕ) (m : List ℕ) (h : 16 ≤ length m) where
  abbrev m₁ : List ℕ
  m₁ = set_word 0 c m

  abbrev m₂ : List ℕ
  m₂ = set m₁ 2 d

  abbrev m₃ : List ℕ
  m₃ = set m₂ 3 format_number

  pub size-set_head : size_in (set_head c d n m) ≡ c
  unfolding set_head size_in
  size-set_head =
      word-across (word-frame 4 n m₃) 0 (inl (omega arith))
      ∙ word-across (byte-frame 3 format_number m₂) 0 (inl (omega arith))
      ∙ word-across (byte-frame 2 d m₁) 0 (inl (omega arith))
      ∙ word-stored 0 c m (omega arith)

  pub dimension-set_head : dimension_in (set_head c d n m) ≡ d
  unfolding set_head dimension_in
  dimension-set_head =
      byte-across (word-frame 4 n m₃) 2 (inl (omega arith))
      ∙ byte-across (byte-frame 3 format_number m₂) 2 (inl (omega arith))
      ∙ get_or-set_same m₁ 2 d 0 (omega (arith, word-length 0 c m))

  pub format-set_head : format_in (set_head c d n m) ≡ format_number
  unfolding set_head format_in
  format-set_head =
      byte-across (word-frame 4 n m₃) 3 (inl (omega arith))
      ∙ get_or-set_same m₂ 3 format_number 0 (omega (arith, length-set m₁ 2 d, word-length 0 c m))

  pub count-set_head : count_in (set_head c d n m) ≡ n
  unfolding set_head count_in
  count-set_head = word-stored 4 n m₃ (omega (arith, length-set m₂ 3 format_number, length-set m₁ 2 d, word-length 0 c m))

module _ (n : ℕ) (m : List ℕ) where
  pub count-set_count : 16 ≤ length m → count_in (set_count n m) ≡ n
  unfolding set_count count_in
  count-set_count h = word-stored 4 n m (omega arith)

  pub size-set_count : size_in (set_count n m) ≡ size_in m
  unfolding size_in
  size-set_count = word-across (set_count-frame n m) 0 (inl (omega arith))

  pub dimension-set_count : dimension_in (set_count n m) ≡ dimension_in m
  unfolding dimension_in
  dimension-set_count = byte-across (set_count-frame n m) 2 (inl (omega arith))

  pub format-set_count : format_in (set_count n m) ≡ format_in m
  unfolding format_in
  format-set_count = byte-across (set_count-frame n m) 3 (inl (omega arith))

-- ---- rows, flags and work by index

module _ (c i : ℕ) (m : List ℕ) where
  module _ (room : Room c m) (h : i < c) where
    pub number-set_number : (v : ℕ) → number_in c (set_number c i v m) i ≡ v
    unfolding number_in set_number
    number-set_number v = word-stored (number_place i) v m (omega arith)

    pub height-set_height : (k : ℕ) → height_in c (set_height c i k m) i ≡ k
    unfolding height_in set_height
    height-set_height k = get_or-set_same m (height_place c i) k 0 (omega arith)

    pub flag-set_listed : (b : Bool) → flag_in c (set_listed c i b m) i ≡ cond b 1 0
    unfolding flag_in set_listed
    flag-set_listed b = get_or-set_same m (flag_place c i) (cond b 1 0) 0 (omega arith)

    pub work-set_work : (v : ℕ) → work_in c (set_work c i v m) i ≡ v
    unfolding work_in set_work
    work-set_work v = word-stored (work_place c i) v m (omega arith)

    pub listed-set_listed : (b : Bool) → eqb (flag_in c (set_listed c i b m) i) 1 ≡ b
    listed-set_listed b = ap (λ (n : ℕ). eqb n 1) (flag-set_listed b) ∙ one_or_zero b
      where
        one_or_zero : (b : Bool) → eqb (cond b 1 0) 1 ≡ b
        one_or_zero true = refl
        one_or_zero false = refl

  module _ (j : ℕ) (ne : j ≢ i) where
    pub number-set_number-other : (v : ℕ) → number_in c (set_number c i v m) j ≡ number_in c m j
    number-set_number-other v = number-over (set_number-frame c i m v) c j (⊎_map (λ l. omega arith) (λ l. omega arith) (apart ne))

    pub height-set_height-other : (k : ℕ) → height_in c (set_height c i k m) j ≡ height_in c m j
    height-set_height-other k = height-over (set_height-frame c i m k) c j (⊎_map (λ l. omega arith) (λ l. omega arith) (apart ne))

    pub flag-set_listed-other : (b : Bool) → flag_in c (set_listed c i b m) j ≡ flag_in c m j
    flag-set_listed-other b = flag-over (set_listed-frame c i m b) c j (⊎_map (λ l. omega arith) (λ l. omega arith) (apart ne))

    pub work-set_work-other : (v : ℕ) → work_in c (set_work c i v m) j ≡ work_in c m j
    work-set_work-other v = work-over (set_work-frame c i m v) c j (⊎_map (λ l. omega arith) (λ l. omega arith) (apart ne))

    pub costs-set_costs-other : (d : ℕ) (costs : List ℕ) → d ≤ row_costs → length costs ≤ row_costs → costs_in c d (set_costs c i costs m) j ≡ costs_in c d m j
    costs-set_costs-other d costs l few = costs-over (set_costs-frame c i costs m) c d j (⊎_map (λ k. omega arith) (λ k. omega arith) (apart ne))

  pub number-set_height : (j k : ℕ) → j < c → number_in c (set_height c i k m) j ≡ number_in c m j
  number-set_height j k l = number-over (set_height-frame c i m k) c j (inl (omega arith))

  pub height-set_number : (j v : ℕ) → i < c → height_in c (set_number c i v m) j ≡ height_in c m j
  height-set_number j v l = height-over (set_number-frame c i m v) c j (inr (omega arith))

-- ---- costs

cost-set_costs_from : (c n j : ℕ) (vs m : List ℕ) (i : ℕ) → cost_place c n (j + length vs) ≤ length m → i < length vs → cost_in c (set_costs_from c n j vs m) n (j + i) ≡ get_or vs i 0
unfolding set_costs_from cost_in
cost-set_costs_from c n j [] m i room h = absurd (omega arith)
cost-set_costs_from c n j (v ∷ vs) m zero room h =
    let m₁ : List ℕ = set_word (cost_place c n j) v m in
    ap (λ (k : ℕ). cost_in c (set_costs_from c n (suc j) vs m₁) n k) (add-zero j)
    ∙ word-across (set_costs_from-frame c n (suc j) vs m₁) (cost_place c n j) (inl (omega arith))
    ∙ word-stored (cost_place c n j) v m (omega arith)
cost-set_costs_from c n j (v ∷ vs) m (suc i) room h =
    let m₁ : List ℕ = set_word (cost_place c n j) v m in
    let next : j + suc i ≡ suc j + i = omega arith in
    ap (λ (k : ℕ). cost_in c (set_costs_from c n (suc j) vs m₁) n k) next
    ∙ cost-set_costs_from c n (suc j) vs m₁ i (omega (arith, word-length (cost_place c n j) v m)) (omega arith)

module _ (c d n : ℕ) (costs m : List ℕ) (l : d ≤ row_costs) (row : RowCosts d costs) where
  cost-set_costs : Room c m → n < c → (i : ℕ) → i < d → cost_in c (set_costs c n costs m) n i ≡ get_or costs i 0
  unfolding set_costs
  cost-set_costs room h i k =
      let m' : List ℕ = set_costs c n costs m in
      ap (λ (j : ℕ). cost_in c m' n j) (sym (zero-add i)) ∙ cost-set_costs_from c n 0 costs m i (omega (arith, row.count)) (omega (arith, row.count))

  pub costs-set_costs : Room c m → n < c → costs_in c d (set_costs c n costs m) n ≡ costs
  unfolding costs_in
  costs-set_costs room h =
      let m' : List ℕ = set_costs c n costs m in
      ap (padded d)
      (sym (tab-of (cost_in c m' n) 0 d (take d costs) (length-take-le d costs (omega (arith, row.count)))
      (λ i k. get_or-take d costs i 0 k ∙ sym (cost-set_costs room h i k))))
      ∙ row-padded d costs l row
