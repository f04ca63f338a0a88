-- Counting the places that pass a test, also from place to place as a search finds them.
use Prim.Native.Nat.{ℕ, zero, suc, ◌+◌, ◌≤◌, ◌<◌}
use Rattle.std.specs.Prelude.{Bool, true, false, [], ◌∷◌, ◌≡◌}
use Rattle.std.proofs.Math.Bool.{cond}
use Rattle.std.proofs.Math.Logic.{⊎_elim}
use Rattle.std.proofs.Math.Path.{refl, ap, ap₂}
use Rattle.std.proofs.Common.{sym, ◌∙◌, eq-or-lt_of_le, le_of_suc-le-suc, add-one}
use Rattle.std.proofs.Math.Nat.{add-zero}
use native.Mathlib.Omega.{arith}
use Rattle.model.specs.Basics.{count, select}
use Rattle.model.proofs.Laws.Bool.{by_cases, both_ways}
use Rattle.model.proofs.Laws.Basics.{at_most_one, count-append, count-cons}
use Rattle.promises.specs.Layout.{tab}
use Rattle.search.specs.Columns.{count_to}
use Rattle.search.specs.Search.{None, First}
use Rattle.search.specs.Laws.Search.{none-join}

one : (b : Bool) → b ≡ true → ◌≡◌ {A = ℕ} (cond b 1 0) 1
one b e = ap (λ (t : Bool). cond {A = ℕ} t 1 0) e

module _ (p : ℕ → Bool) where
  pub count_none : count_to p 0 ≡ 0
  unfolding count_to
  count_none = refl

  pub count-more : (n : ℕ) → count_to p (n + 1) ≡ count_to p n + cond (p n) 1 0
  unfolding count_to
  count-more n = ap (count_to p) (add-one n)

  pub count_most : (n : ℕ) → count_to p n ≤ n
  unfolding count_to
  count_most zero = omega arith
  count_most (suc n) = omega (arith, count_most n, at_most_one (p n))

  -- Of more places no fewer pass.
  pub count-grows : (i n : ℕ) → i ≤ n → count_to p i ≤ count_to p n
  unfolding count_to
  count-grows i zero l = let e : i ≡ 0 = omega arith in omega (arith, ap (count_to p) e)
  count-grows i (suc n) l =
      ⊎_elim (λ e. omega (arith, ap (count_to p) e)) (λ k. omega (arith, count-grows i n (le_of_suc-le-suc k))) (eq-or-lt_of_le l)

  -- Places that do not pass do not count.
  pub count-skip : (i n : ℕ) → i ≤ n → None p i n → count_to p n ≡ count_to p i
  unfolding count_to
  count-skip i zero l none = let e : 0 ≡ i = omega arith in ap (count_to p) e
  count-skip i (suc n) l none =
      ⊎_elim (λ e. ap (count_to p) (sym e))
      (λ k.
      ap₂ (λ (a : ℕ) (t : Bool). a + cond {A = ℕ} t 1 0) (count-skip i n (le_of_suc-le-suc k) (λ j a g. none j a (omega arith))) (none n (le_of_suc-le-suc k) (omega arith))
      ∙ add-zero (count_to p i))
      (eq-or-lt_of_le l)

  -- A place that passes makes every later count greater.
  pub count-passed : (i n : ℕ) → i < n → p i ≡ true → count_to p i < count_to p n
  count-passed i n l e = omega (arith, count-grows (i + 1) n (omega arith), count-more i, one (p i) e)

  pub count-zero : (n i : ℕ) → i < n → count_to p n ≤ 0 → p i ≡ false
  count-zero n i l few = by_cases (p i) (λ e. absurd (omega (arith, count-passed i n l e))) (λ e. e)

  pub count-some : (n : ℕ) → 0 < count_to p n → (i : ℕ) × (i < n) × (p i ≡ true)
  unfolding count_to
  count-some zero l = absurd (omega arith)
  count-some (suc n) l =
      by_cases (p n) (λ e. (n, omega arith, e))
      (λ e. let more = count-some n (omega (arith, ap (λ (t : Bool). cond {A = ℕ} t 1 0) e)) in (more.0, omega (arith, more.1), more.2))

-- The entries of a list by places that pass a test.
pub count-tab : {A : Type 0} (q : A → Bool) (f : ℕ → A) (n : ℕ) → count q (tab f n) ≡ count_to (λ i. q (f i)) n
unfolding tab count select count_to
count-tab q f zero = refl
count-tab q f (suc n) =
    count-append q (tab f n) (f n ∷ [])
    ∙ ap₂ (λ (a b : ℕ). a + b) (count-tab q f n) (count-cons q (f n) [])

-- ---- by a search from place to place

-- A search among n places has come to j: of the places before, those that pass the test are counted.
pub record CountedTo (fit test : ℕ → Bool) (n j k : ℕ) : Type 0 where
  pub to : j ≤ n
  pub counts : k ≡ count_to test j
  pub found : j < n → fit j ≡ true

-- What passes the test is found.
module _ {fit test : ℕ → Bool} {n : ℕ} (finds : (j : ℕ) → j < n → test j ≡ true → fit j ≡ true) where
  passed_none : {i r : ℕ} → First fit i n r → None test i r
  passed_none f j a g = by_cases (test j) (λ t. both_ways (finds j (omega (arith, f.to)) t) (f.passed j a g)) (λ t. t)

  pub counted-first : {i r k : ℕ} → None test 0 i → First fit i n r → k ≡ 0 → CountedTo fit test n r k
  counted-first {i} {r} none f e =
      record { to = f.to; counts = e ∙ sym (count-skip test 0 r (omega arith) (none-join test 0 i r none (passed_none f)) ∙ count_none test); found = f.found }

  pub counted_next : {j k r k' : ℕ} → CountedTo fit test n j k → j < n → (t : Bool) → (fit j ≡ true → test j ≡ t) → k' ≡ k + cond t 1 0 → First fit (j + 1) n r
      → CountedTo fit test n r k'
  counted_next {j} {k} {r} o l t says e f =
      record {
        to = f.to;
        counts =
            e
            ∙ ap₂ (λ (a : ℕ) (b : Bool). a + cond {A = ℕ} b 1 0) o.counts (sym (says (o.found l)))
            ∙ sym (count-skip test (j + 1) r f.from (passed_none f) ∙ count-more test j);
        found = f.found;
      }

pub counted-few : {fit test : ℕ → Bool} {n j k : ℕ} → CountedTo fit test n j k → k ≤ j
counted-few {test = test} {j = j} o = omega (arith, o.counts, count_most test j)

pub counted-all : {fit test : ℕ → Bool} {n j k : ℕ} → CountedTo fit test n j k → n ≤ j → k ≡ count_to test n
counted-all {test = test} {n = n} {j = j} o l = let all : j ≡ n = omega (arith, o.to) in o.counts ∙ ap (count_to test) all
