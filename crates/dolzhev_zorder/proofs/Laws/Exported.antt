-- Demand 2's round trip and Card 13's upper word, of the exported answers themselves.
use Rattle.std.specs.Prelude.{ℕ, zero, suc, ◌^◌, ◌≤◌, ◌<◌, Bool, true, false, List, [], ◌∷◌, Result, Ok, Err, IfOk, ◌≡◌, refl, length, get_or}
use Rattle.std.specs.Result.{result_unwrap_or}
use Rattle.std.proofs.Common.{arith, sym, ◌∙◌, ap}
use Rattle.zorder.specs.Address.{row_costs, cost_bits, address, costs_of, padded}
use Rattle.zorder.specs.Promise.{number_of, detail_of, AddressPromise, CostsPromise}
use Rattle.zorder.specs.Refusal.{refusal, or_zero, or_zeros, cost_count_bad, cost_past_bad, address_bad, address_refusal, costs_refusal}
use Rattle.zorder.specs.Words.{word_bits, value, words_of}
use Rattle.zorder.specs.declared.AddressWords.{AddressWords}
use Rattle.zorder.specs.declared.refusal.Refusal.{Refusal}
use Rattle.zorder.specs.declared.refusal.Refusal.TheVariants.{BadCostCount, BadArgument}
use Rattle.zorder.proofs.Laws.RoundTrip.{costs-back, address-back}
use Rattle.zorder.proofs.Laws.Words.{upper-zero}
use Rattle.dolzhev_zorder.specs.Exported.{AddressExported, CostsExported}
use Rattle.dolzhev_zorder.specs.declared.AddressAnswer.{AddressAnswer}
use Rattle.dolzhev_zorder.specs.declared.CostsAnswer.{CostsAnswer}

-- ---- an accepted answer is what `zorder` promises

module _ {d : ℕ} {cs : List ℕ} {r : AddressAnswer} (p : AddressExported d cs r) where
  pub exported-address : r.refusal ≡ 0 → AddressPromise d cs (Ok r.address)
  unfolding number_of detail_of or_zero
  exported-address e =
      let none : address_refusal d cs ≡ 0 = sym p.refusal ∙ e in
      record {
        number = sym none;
        detail = refl;
        address = p.address ∙ ap (λ (n : ℕ). words_of (or_zero n (address d cs))) none;
      }

  -- Told or refused.
  pub exported-upper-zero : d ≤ 4 → length cs ≡ row_costs → r.address.upper ≡ 0
  unfolding or_zero words_of
  exported-upper-zero few count =
      ap (λ (a : AddressWords). a.upper) p.address ∙ upper (address_refusal d cs)
    where
      upper : (n : ℕ) → (words_of (or_zero n (address d cs))).upper ≡ 0
      upper zero = upper-zero d few cs (omega (arith, count, few))
      upper (suc n) = refl

module _ {d : ℕ} {a : AddressWords} {s : CostsAnswer} (p : CostsExported d a s) where
  pub exported-costs : s.refusal ≡ 0 → CostsPromise d (value a) (Ok s.costs.costs)
  unfolding number_of detail_of or_zeros
  exported-costs e =
      let none : costs_refusal d (value a) ≡ 0 = sym p.refusal ∙ e in
      record {
        number = sym none;
        detail = refl;
        costs = p.costs ∙ ap (λ (n : ℕ). or_zeros n (padded d (costs_of d (value a)))) none;
      }

-- ---- what the two checks give, as a call of `zorder` answers it

checked : {T : Type 0} → Bool → Bool → T → Result T Refusal
checked true b told = Err BadCostCount
checked false true told = Err BadArgument
checked false false told = Ok told

module _ {T : Type 0} (told : T) where
  checked-number : (a b : Bool) → number_of (checked a b told) ≡ refusal ((a, 2) ∷ (b, 7) ∷ [])
  unfolding number_of refusal checked
  checked-number true b = refl
  checked-number false true = refl
  checked-number false false = refl

  checked-detail : (a b : Bool) → detail_of (checked a b told) ≡ 0
  unfolding detail_of checked
  checked-detail true b = refl
  checked-detail false true = refl
  checked-detail false false = refl

  checked-told : (a b : Bool) → IfOk (checked a b told) (λ x. x ≡ told)
  unfolding checked
  checked-told true b = tt
  checked-told false true = tt
  checked-told false false = refl

costs-checked : (d a : ℕ) → CostsPromise d a (checked (cost_count_bad d) (address_bad d a) (padded d (costs_of d a)))
unfolding costs_refusal
costs-checked d a =
    let told = padded d (costs_of d a) in
    record {
      number = checked-number told (cost_count_bad d) (address_bad d a);
      detail = checked-detail told (cost_count_bad d) (address_bad d a);
      costs = checked-told told (cost_count_bad d) (address_bad d a);
    }

address-checked : (d : ℕ) (cs : List ℕ) → AddressPromise d cs (checked (cost_count_bad d) (cost_past_bad d cs) (words_of (address d cs)))
unfolding address_refusal
address-checked d cs =
    let told = words_of (address d cs) in
    record {
      number = checked-number told (cost_count_bad d) (cost_past_bad d cs);
      detail = checked-detail told (cost_count_bad d) (cost_past_bad d cs);
      address = checked-told told (cost_count_bad d) (cost_past_bad d cs);
    }

ok-told : {T : Type 0} {x y : T} → ◌≡◌ {A = Result T Refusal} (Ok x) (Ok y) → x ≡ y
ok-told {x = x} e = ap (λ r. result_unwrap_or r x) e

-- ---- the two calls, one after the other

-- Costs, their address, and its costs.
pub exported-costs-back : {d : ℕ} {cs : List ℕ} {r : AddressAnswer} → AddressExported d cs r → r.refusal ≡ 0 → length cs ≡ row_costs → ((i : ℕ) → get_or cs i 0 < 2 ^ cost_bits)
    → (s : CostsAnswer) → CostsExported d r.address s → (s.refusal ≡ 0) × (s.costs.costs ≡ cs)
unfolding costs_refusal number_of
exported-costs-back {d} {cs} {r} p e count small s q =
    let told = exported-address p e in
    let back = costs-back d cs count small r.address told in
    let bad = address_bad d (value r.address) in
    let own = checked (cost_count_bad d) bad (padded d (costs_of d (value r.address))) in
    let none : s.refusal ≡ 0 =
    q.refusal ∙ sym (checked-number (padded d (costs_of d (value r.address))) (cost_count_bad d) bad) ∙ ap number_of (back own (costs-checked d (value r.address))) in
    (none, ok-told (back (Ok s.costs.costs) (exported-costs q none)))

-- An address, its costs, and their address.
pub exported-address-back : {d : ℕ} {a : AddressWords} {s : CostsAnswer} → CostsExported d a s → s.refusal ≡ 0 → a.lower < 2 ^ word_bits
    → (r : AddressAnswer) → AddressExported d s.costs.costs r → (r.refusal ≡ 0) × (r.address ≡ a)
unfolding address_refusal number_of
exported-address-back {d} {a} {s} p e word r q =
    let cs = s.costs.costs in
    let back = address-back d a cs (exported-costs p e) word in
    let own = checked (cost_count_bad d) (cost_past_bad d cs) (words_of (address d cs)) in
    let none : r.refusal ≡ 0 =
    q.refusal ∙ sym (checked-number (words_of (address d cs)) (cost_count_bad d) (cost_past_bad d cs)) ∙ ap number_of (back own (address-checked d cs)) in
    (none, ok-told (back (Ok r.address) (exported-address q none)))
