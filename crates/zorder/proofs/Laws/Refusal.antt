-- What checks that were passed say.
use Rattle.std.specs.Prelude.{ℕ, zero, suc, ◌+◌, ◌*◌, ◌^◌, ◌≤◌, ◌<◌, Bool, true, false, cond, ◌&&◌, ◌||◌, List, [], ◌∷◌, ◌≡◌, refl, ltb, eqb, length, get_or, drop, replicate}
use Rattle.std.proofs.Common.{true≢false, sym, ap, ap₂, ◌∙◌, add-one, arith, drop_of_length-le, drop-cons, ltb-false, leb-false}
use Rattle.std.proofs.Math.Dec.{eqb-suc-zero}
use Rattle.std.specs.List.{list_all}
use Rattle.zorder.specs.Address.{row_costs, cost_bits}
use Rattle.zorder.specs.Refusal.{Check, refusal, all_zero, cost_count_bad, address_bad}

neither : (a b : Bool) → (a || b) ≡ false → (a ≡ false) × (b ≡ false)
neither true b e = absurd (true≢false e)
neither false b e = (refl, e)

pub count-right : (d : ℕ) → cost_count_bad d ≡ false → (2 ≤ d) × (d ≤ row_costs)
unfolding cost_count_bad
count-right d e =
    let parts = neither (ltb d 2) (ltb row_costs d) e in
    (ltb-false d 2 parts.0, ltb-false row_costs d parts.1)

pub address-right : (d a : ℕ) → address_bad d a ≡ false → a < 2 ^ (cost_bits * d)
unfolding address_bad
address-right d a e = leb-false (2 ^ (cost_bits * d)) a e

-- No check of these turns a call down.
pub first_passes : (b : Bool) (k : ℕ) (cs : List Check) → refusal ((b, suc k) ∷ cs) ≡ 0 → b ≡ false
unfolding refusal
first_passes true k cs h = absurd (omega arith)
first_passes false k cs h = refl

pub rest-passes : (b : Bool) (k : ℕ) (cs : List Check) → refusal ((b, suc k) ∷ cs) ≡ 0 → refusal cs ≡ 0
unfolding refusal
rest-passes true k cs h = absurd (omega arith)
rest-passes false k cs h = h

-- ---- costs that are all zero

pub all_zero-zeros : (n : ℕ) → all_zero (replicate n 0) ≡ true
unfolding all_zero
all_zero-zeros zero = refl
all_zero-zeros (suc n) = all_zero-zeros n

pub all_zero-at : (cs : List ℕ) → all_zero cs ≡ true → (i : ℕ) → get_or cs i 0 ≡ 0
unfolding all_zero
all_zero-at [] h i = refl
all_zero-at (zero ∷ cs) h zero = refl
all_zero-at (zero ∷ cs) h (suc i) = all_zero-at cs h i
all_zero-at (suc c ∷ cs) h i = absurd (true≢false (sym h ∙ ap (λ (t : Bool). cond t (all_zero cs) false) (eqb-suc-zero c)))

-- Costs are tested one by one: a test, by its answer, and the end.
pub all-zero-step : (l : List ℕ) (i : ℕ) (b : Bool) → i < length l → eqb (get_or l i 0) 0 ≡ b → all_zero (drop i l) ≡ cond b (all_zero (drop (i + 1) l)) false
unfolding all_zero
all-zero-step l i b more test =
    ap all_zero (drop-cons l i 0 more)
    ∙ ap₂ (λ (t : Bool) (n : ℕ). cond t (all_zero (drop n l)) false) test (sym (add-one i))

pub all-zero-end : (l : List ℕ) (i : ℕ) → length l ≤ i → all_zero (drop i l) ≡ true
unfolding all_zero
all-zero-end l i end = ap all_zero (drop_of_length-le l {i = i} end)

-- The same test of each cost, as the list's own.
pub all_zero_list : (cs : List ℕ) → all_zero cs ≡ list_all (λ (c : ℕ). eqb c 0) cs
unfolding all_zero
all_zero_list [] = refl
all_zero_list (c ∷ cs) = ap (λ (t : Bool). cond (eqb c 0) t false) (all_zero_list cs) ∙ cond-and (eqb c 0) (list_all (λ (k : ℕ). eqb k 0) cs)
  where
    cond-and : (a b : Bool) → cond a b false ≡ (a && b)
    cond-and true b = refl
    cond-and false b = refl
