-- Demand 2's round trip: costs that are accepted give an address that gives those costs back, and the other way round.
use Rattle.std.specs.Prelude.{ℕ, ◌-◌, ◌*◌, ◌^◌, ◌≤◌, ◌<◌, Bool, false, List, [], ◌∷◌, Result, Ok, Err, IsOk, ◌≡◌, refl, length, get_or, replicate}
use Rattle.std.proofs.Common.{true≢false, sym, ◌∙◌, subst, mul_comm, arith, take_at}
use Rattle.std.proofs.Math.Path.{ap}
use borrow.Author.Tests.{lt-leb}
use Rattle.zorder.specs.Address.{row_costs, cost_bits, groups, address, costs_of, padded}
use Rattle.zorder.specs.Between.{RowCosts}
use Rattle.zorder.specs.Promise.{number_of, AddressPromise, CostsPromise}
use Rattle.zorder.specs.Refusal.{refusal, cost_count_bad, cost_past_bad, address_bad, address_refusal, costs_refusal}
use Rattle.zorder.specs.Words.{word_bits, value, words_of}
use Rattle.zorder.specs.declared.AddressWords.{AddressWords}
use Rattle.zorder.specs.declared.refusal.Refusal.{Refusal}
use Rattle.zorder.specs.declared.refusal.Refusal.TheVariants.{BadCostCount, BadArgument}
use Rattle.zorder.proofs.Laws.Address.{address-lt'}
use Rattle.zorder.proofs.Laws.Between.{padded-row, row-costs, row-padded}
use Rattle.zorder.proofs.Laws.Inverse.{costs_of-costs, address-costs, costs-address}
use Rattle.zorder.proofs.Laws.Words.{value-words, words-value}
use Rattle.zorder.proofs.Laws.Refusal.{count-right, address-right, first_passes, rest-passes}

-- ---- rows and addresses

module _ (d : ℕ) (cs : List ℕ) (l : d ≤ row_costs) (h : RowCosts d cs) where
  pub row-address : address_bad d (address d cs) ≡ false
  unfolding address_bad
  row-address = lt-leb (2 ^ (cost_bits * d)) (address d cs) (address-lt' d cs (omega (arith, h.count)))

  pub row-again : padded d (costs_of d (address d cs)) ≡ cs
  unfolding address
  row-again = ap (padded d) (costs-address d _ (row-costs d cs l h)) ∙ row-padded d cs l h

module _ (d a : ℕ) (l : d ≤ row_costs) where
  pub address-row : RowCosts d (padded d (costs_of d a))
  address-row = padded-row d (costs_of d a) l (costs_of-costs d a)

  pub address-again : address_bad d a ≡ false → address d (padded d (costs_of d a)) ≡ a
  unfolding address padded
  address-again h =
      ap (groups cost_bits) (take_at (costs_of d a) (replicate (row_costs - d) 0) d (costs_of-costs d a).count)
      ∙ address-costs d a (subst (λ (n : ℕ). a < 2 ^ n) (mul_comm cost_bits d) (address-right d a h))

-- ---- the two calls, by their promises alone

pub accepted-number : {T : Type 0} (r : Result T Refusal) → number_of r ≡ 0 → IsOk r
unfolding number_of
accepted-number (Ok told) e = refl
accepted-number (Err BadCostCount) e = absurd (omega arith)
accepted-number (Err BadArgument) e = absurd (omega arith)

-- Checks that turn a call down give its number, so an accepted call passed both.
passed : (a b : Bool) → refusal ((a, 2) ∷ (b, 7) ∷ []) ≡ 0 → (a ≡ false) × (b ≡ false)
passed a b e = (first_passes a 1 _ e, first_passes b 6 _ (rest-passes a 1 _ e))

accepts : {a b : Bool} → a ≡ false → b ≡ false → refusal ((a, 2) ∷ (b, 7) ∷ []) ≡ 0
unfolding refusal
accepts {a} {b} e f = rw (e, f)

-- An accepted call has the number 0.
number-zero : {T : Type 0} (told : T) → number_of (Ok told) ≡ 0
unfolding number_of
number-zero told = refl

told-costs : (d a : ℕ) (s : Result (List ℕ) Refusal) → CostsPromise d a s → IsOk s → s ≡ Ok (padded d (costs_of d a))
told-costs d a (Ok cs) q ok = ap Ok q.costs
told-costs d a (Err e) q ok = absurd (true≢false (sym ok))

told-address : (d : ℕ) (cs : List ℕ) (r : Result AddressWords Refusal) → AddressPromise d cs r → IsOk r → r ≡ Ok (words_of (address d cs))
told-address d cs (Ok a) q ok = ap Ok q.address
told-address d cs (Err e) q ok = absurd (true≢false (sym ok))

module _ (d : ℕ) (cs : List ℕ) (count : length cs ≡ row_costs) (small : (i : ℕ) → get_or cs i 0 < 2 ^ cost_bits)
    (a : AddressWords) (p : AddressPromise d cs (Ok a)) where
  address-passed : (cost_count_bad d ≡ false) × (cost_past_bad d cs ≡ false)
  unfolding address_refusal
  address-passed = passed (cost_count_bad d) (cost_past_bad d cs) (sym p.number ∙ number-zero a)

  address-told : value a ≡ address d cs
  address-told = ap value p.address ∙ value-words (address d cs)

  costs-row : RowCosts d cs
  costs-row = record { count = count; small = small; past = address-passed.1 }

  -- Costs, their address, and its costs.
  pub costs-back : (s : Result (List ℕ) Refusal) → CostsPromise d (value a) s → s ≡ Ok cs
  unfolding costs_refusal
  costs-back s q =
      told-costs d (value a) s q (accepted-number s (q.number ∙ accepts address-passed.0 (ap (address_bad d) address-told ∙ row-address d cs l costs-row)))
      ∙ ap (λ (n : ℕ). Ok (padded d (costs_of d n))) address-told
      ∙ ap Ok (row-again d cs l costs-row)
    where
      l : d ≤ row_costs
      l = (count-right d address-passed.0).1

-- An address, its costs, and their address.
module _ (d : ℕ) (a : AddressWords) (cs : List ℕ) (p : CostsPromise d (value a) (Ok cs)) where
  costs-passed : (cost_count_bad d ≡ false) × (address_bad d (value a) ≡ false)
  unfolding costs_refusal
  costs-passed = passed (cost_count_bad d) (address_bad d (value a)) (sym p.number ∙ number-zero cs)

  pub address-back : a.lower < 2 ^ word_bits → (r : Result AddressWords Refusal) → AddressPromise d cs r → r ≡ Ok a
  unfolding address_refusal
  address-back word r q =
      told-address d cs r q (accepted-number r (q.number ∙ accepts costs-passed.0 (ap (cost_past_bad d) p.costs ∙ (address-row d (value a) l).past)))
      ∙ ap (λ (es : List ℕ). Ok (words_of (address d es))) p.costs
      ∙ ap (λ (n : ℕ). Ok (words_of n)) (address-again d (value a) l costs-passed.1)
      ∙ ap Ok (words-value a word)
    where
      l : d ≤ row_costs
      l = (count-right d costs-passed.0).1
