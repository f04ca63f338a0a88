-- The costs of a number, place by place, and as many words as a row has.
use Prim.Native.Nat.{ℕ, ◌+◌, ◌-◌, ◌≤◌, ◌<◌}
use mathlib.Core.List.{List, ◌++◌}
use Rattle.std.specs.Prelude.{◌≡◌, take}
use Rattle.std.proofs.Common.{sym, ◌∙◌, arith, get_or-take, ext_get_or, length-take-le}
use Rattle.std.proofs.Math.Path.{ap}
use Rattle.std.proofs.Math.Decide.{dec_lt}
use Rattle.std.proofs.Math.ListN.{length, get_or, replicate, length-append, length-replicate, get_or-replicate, get_or-append, get_or-eq_default}
use Rattle.std.proofs.Math.Seq.{get_or-append-add}
use Rattle.zorder.specs.Address.{row_costs, padded}
use Rattle.promises.specs.Layout.{word_at, cost_place, cost_in, tab, costs_in}
use Rattle.promises.specs.Run.{Bytes}
use Rattle.promises.proofs.Laws.Tab.{length-tab, get_or-tab}

module _ (c d : ℕ) (m : List ℕ) (number : ℕ) (few : d ≤ row_costs) where
  pub row-length : length (costs_in c d m number) ≡ row_costs
  unfolding costs_in padded
  row-length =
      let cost = tab (cost_in c m number) d in
      omega (arith, length-append cost (replicate (row_costs - d) 0), length-tab (cost_in c m number) d, length-replicate {A = ℕ} (row_costs - d) 0)

  pub row-cost : (j : ℕ) → j < d → get_or (costs_in c d m number) j 0 ≡ cost_in c m number j
  unfolding costs_in padded
  row-cost j h =
      let cost = cost_in c m number in
      get_or-append (tab cost d) (replicate (row_costs - d) 0) 0 j (omega (arith, length-tab cost d)) ∙ get_or-tab cost 0 d j h

  pub row-past : (j : ℕ) → d ≤ j → j < row_costs → get_or (costs_in c d m number) j 0 ≡ 0
  unfolding costs_in padded
  row-past j h l =
      let cost = tab (cost_in c m number) d in
      let zeros : List ℕ = replicate (row_costs - d) 0 in
      let from : j ≡ length cost + (j - d) = omega (arith, length-tab (cost_in c m number) d) in
      ap (λ (k : ℕ). get_or (cost ++ zeros) k 0) from
      ∙ get_or-append-add cost zeros (j - d) 0
      ∙ get_or-replicate (row_costs - d) (j - d) 0 0 (omega arith)

-- All words of a row: the first d are the d costs.
module _ (c : ℕ) (m : List ℕ) (number : ℕ) where
  pub words-first : (d : ℕ) → d ≤ row_costs → take d (costs_in c row_costs m number) ≡ take d (costs_in c d m number)
  words-first d few =
      ext_get_or 0 (take d all) (take d own) (count all (row-length c row_costs m number (omega arith)) ∙ sym (count own (row-length c d m number few)))
      (λ j l.
      let h : j < d = omega (arith, l, count all (row-length c row_costs m number (omega arith))) in
      get_or-take d all j 0 h
      ∙ row-cost c row_costs m number (omega arith) j (omega arith)
      ∙ sym (row-cost c d m number few j h)
      ∙ sym (get_or-take d own j 0 h))
    where
      all : List ℕ
      all = costs_in c row_costs m number

      own : List ℕ
      own = costs_in c d m number

      count : (row : List ℕ) → length row ≡ row_costs → length (take d row) ≡ d
      count row e = length-take-le d row (omega arith)

  pub words_small : Bytes m → (j : ℕ) → get_or (costs_in c row_costs m number) j 0 < 65536
  unfolding Bytes cost_in word_at
  words_small b j = go (dec_lt j row_costs)
    where
      go : Dec (j < row_costs) → get_or (costs_in c row_costs m number) j 0 < 65536
      go (yes l) = omega (arith, row-cost c row_costs m number (omega arith) j l, word)
        where
          word : cost_in c m number j < 65536
          word = omega (arith, b (cost_place c number j), b (cost_place c number j + 1))
      go (no l) = omega (arith, get_or-eq_default (costs_in c row_costs m number) 0 {n = j} (omega (arith, row-length c row_costs m number (omega arith))))
