-- A field outside a frame is as it was. What stands behind a frame does so for every index, what stands before it for the
-- indices of its own area.
use Rattle.std.specs.Prelude.{ℕ, ◌+◌, ◌≤◌, ◌<◌, List, ◌≡◌}
use Rattle.std.proofs.Common.{inl, inr, arith}
use Rattle.std.proofs.Math.Logic.{⊎_map}
use Rattle.std.proofs.Math.Path.{ap}
use Rattle.zorder.specs.Address.{row_costs, padded}
use Rattle.promises.specs.Layout.{number_place, height_place, flag_place, cost_place, work_place, number_in, height_in, flag_in, cost_in, work_in, costs_in}
use Rattle.memory.specs.Frame.{DifferWithin, RowsOnly, FlagsOnly, CostsOnly, WorkOnly}
use Rattle.memory.specs.Laws.Frames.{Apart, byte-across, word-across}
use Rattle.promises.proofs.Laws.Tab.{tab-ext}

-- ---- each field, over any frame

module _ {a b : ℕ} {m m' : List ℕ} (f : DifferWithin a b m m') where
  module _ (c : ℕ) where
    pub number-over : (i : ℕ) → Apart a b (number_place i) (number_place i + 2) → number_in c m' i ≡ number_in c m i
    unfolding number_in
    number-over i = word-across f (number_place i)

    pub height-over : (i : ℕ) → Apart a b (height_place c i) (height_place c i + 1) → height_in c m' i ≡ height_in c m i
    unfolding height_in
    height-over i = byte-across f (height_place c i)

    pub flag-over : (n : ℕ) → Apart a b (flag_place c n) (flag_place c n + 1) → flag_in c m' n ≡ flag_in c m n
    unfolding flag_in
    flag-over n = byte-across f (flag_place c n)

    pub costs-over : (d n : ℕ) → Apart a b (cost_place c n 0) (cost_place c n d) → costs_in c d m' n ≡ costs_in c d m n
    unfolding costs_in cost_in
    costs-over d n h =
        ap (padded d)
        (tab-ext (cost_in c m' n) (cost_in c m n) d
        (λ j l. word-across f (cost_place c n j) (⊎_map (λ k. omega arith) (λ k. omega arith) h)))

    pub work-over : (i : ℕ) → Apart a b (work_place c i) (work_place c i + 2) → work_in c m' i ≡ work_in c m i
    unfolding work_in
    work-over i = word-across f (work_place c i)

-- ---- over the frames that occur

module _ (c : ℕ) {m m' : List ℕ} (f : DifferWithin 0 16 m m') where
  pub number-over-head : (i : ℕ) → number_in c m' i ≡ number_in c m i
  number-over-head i = number-over f c i (inr (omega arith))

  pub height-over-head : (i : ℕ) → height_in c m' i ≡ height_in c m i
  height-over-head i = height-over f c i (inr (omega arith))

  pub flag-over-head : (n : ℕ) → flag_in c m' n ≡ flag_in c m n
  flag-over-head n = flag-over f c n (inr (omega arith))

  pub costs-over-head : (d n : ℕ) → costs_in c d m' n ≡ costs_in c d m n
  costs-over-head d n = costs-over f c d n (inr (omega arith))

module _ (c : ℕ) {m m' : List ℕ} (f : RowsOnly c m m') where
  pub flag-over-rows : (n : ℕ) → flag_in c m' n ≡ flag_in c m n
  flag-over-rows n = flag-over f c n (inr (omega arith))

  pub costs-over-rows : (d n : ℕ) → costs_in c d m' n ≡ costs_in c d m n
  costs-over-rows d n = costs-over f c d n (inr (omega arith))

  pub work-over-rows : (i : ℕ) → work_in c m' i ≡ work_in c m i
  work-over-rows i = work-over f c i (inr (omega arith))

module _ (c : ℕ) {m m' : List ℕ} (f : FlagsOnly c m m') where
  pub number-over-flags : (i : ℕ) → i < c → number_in c m' i ≡ number_in c m i
  number-over-flags i h = number-over f c i (inl (omega arith))

  pub height-over-flags : (i : ℕ) → i < c → height_in c m' i ≡ height_in c m i
  height-over-flags i h = height-over f c i (inl (omega arith))

  pub costs-over-flags : (d n : ℕ) → costs_in c d m' n ≡ costs_in c d m n
  costs-over-flags d n = costs-over f c d n (inr (omega arith))

module _ (c : ℕ) {m m' : List ℕ} (f : CostsOnly c m m') where
  pub number-over-costs : (i : ℕ) → i < c → number_in c m' i ≡ number_in c m i
  number-over-costs i h = number-over f c i (inl (omega arith))

  pub height-over-costs : (i : ℕ) → i < c → height_in c m' i ≡ height_in c m i
  height-over-costs i h = height-over f c i (inl (omega arith))

  pub flag-over-costs : (n : ℕ) → n < c → flag_in c m' n ≡ flag_in c m n
  flag-over-costs n h = flag-over f c n (inl (omega arith))

module _ (c : ℕ) {m m' : List ℕ} (f : WorkOnly c m m') where
  pub number-over-work : (i : ℕ) → i < c → number_in c m' i ≡ number_in c m i
  number-over-work i h = number-over f c i (inl (omega arith))

  pub height-over-work : (i : ℕ) → i < c → height_in c m' i ≡ height_in c m i
  height-over-work i h = height-over f c i (inl (omega arith))

  pub flag-over-work : (n : ℕ) → n < c → flag_in c m' n ≡ flag_in c m n
  flag-over-work n h = flag-over f c n (inl (omega arith))

  pub costs-over-work : (d n : ℕ) → d ≤ row_costs → n < c → costs_in c d m' n ≡ costs_in c d m n
  costs-over-work d n l h = costs-over f c d n (inl (omega arith))
