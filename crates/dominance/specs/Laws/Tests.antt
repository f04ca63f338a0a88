-- Factors that are 1 where a test passes, else 0: sums and ors over them go by `Sums`, and which costs they count the test says.
use Rattle.std.specs.Prelude.{ℕ, ◌/◌, ◌%◌, ◌^◌, ◌≤◌, ◌<◌, Bool, cond, List, ◌≡◌, length, take}
use Rattle.std.proofs.Math.Path.{sym, ap}
use Rattle.std.proofs.Common.{◌∙◌, arith, mod-lt, eqb-true}
use Rattle.std.proofs.lemmas.Bool.{eqb-false}
use Rattle.zorder.specs.Address.{row_costs}
use Rattle.model.specs.Basics.{select, numbers_from}
use Rattle.model.specs.Dominance.{at}
use Rattle.model.proofs.Laws.Bool.{test_cases}
use Rattle.model.proofs.Laws.Basics.{at_most_one}
use Rattle.dominance.specs.Lanes.{is_first, is_chosen}
use Rattle.dominance.specs.Laws.Lanes.{factor-test}
use Rattle.dominance.specs.Laws.Sums.{counted, at-counted}

abbrev pub factor_of : (ℕ → Bool) → ℕ → ℕ
factor_of test i = cond (test i) 1 0

pub factor-small : (test : ℕ → Bool) (i : ℕ) → factor_of test i < 2
factor-small test i = omega (arith, at_most_one (test i))

pub counted-test : (test : ℕ → Bool) (s : List ℕ) → counted (factor_of test) s ≡ select test s
unfolding counted
counted-test test s = λ i. select (λ j. factor-test (test j) i) s

-- The costs that are among the first d.
pub at-selected : (d : ℕ) (p : List ℕ) → d ≤ row_costs → length p ≡ row_costs → at (select (is_first d) (numbers_from 0 row_costs)) p ≡ take d p
at-selected d p h l = ap (λ (s : List ℕ). at s p) (sym (counted-test (is_first d) (numbers_from 0 row_costs))) ∙ at-counted d p h l

-- A bit of a set as a factor.
pub bit-number : (set i : ℕ) → set / 2 ^ i % 2 ≡ factor_of (is_chosen set) i
bit-number set i =
    test_cases (λ t. set / 2 ^ i % 2 ≡ cond t 1 0) (is_chosen set i)
    (λ e. eqb-true (set / 2 ^ i % 2) 1 e)
    (λ e. omega (arith, eqb-false (set / 2 ^ i % 2) 1 e, mod-lt (set / 2 ^ i) {m = 2} (omega arith)))
