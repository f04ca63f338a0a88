-- Numbers from one up to another.
use Rattle.std.specs.Prelude.{ℕ, zero, suc, ◌+◌, ◌-◌, ◌≤◌, ◌<◌, List, [], ◌∷◌, ◌++◌, ◌≡◌, refl, length}
use Rattle.std.proofs.Common.{sym, ap, ap₂, ◌∙◌, add-zero, add-suc, suc-add, zero-add, add-one, arith}
use Rattle.model.specs.Basics.{Each, numbers_from}

pub each-numbers : (P : ℕ → Type 0) (a k : ℕ) → ((i : ℕ) → a ≤ i → i < a + k → P i) → Each P (numbers_from a k)
unfolding numbers_from
each-numbers P a zero f = tt
each-numbers P a (suc k) f =
    (f a (omega arith) (omega arith), each-numbers P (suc a) k (λ i l h. f i (omega arith) (omega arith)))

pub each-place : (P : ℕ → Type 0) (n : ℕ) → ((i : ℕ) → i < n → P i) → Each P (numbers_from 0 n)
each-place P n f = each-numbers P 0 n (λ i _ h. f i (omega arith))

pub numbers-append : (a j k : ℕ) → numbers_from a (j + k) ≡ numbers_from a j ++ numbers_from (a + j) k
unfolding numbers_from
numbers-append a zero k = ap₂ numbers_from (sym (add-zero a)) (zero-add k)
numbers-append a (suc j) k =
    ap (numbers_from a) (suc-add j k)
    ∙ ap (λ (l : List ℕ). a ∷ l) (numbers-append (suc a) j k ∙ ap (λ (b : ℕ). numbers_from (suc a) j ++ numbers_from b k) (suc-add a j ∙ sym (add-suc a j)))

pub length-numbers : (k n : ℕ) → length (numbers_from n k) ≡ k
unfolding numbers_from
length-numbers zero n = refl
length-numbers (suc k) n = ap suc (length-numbers k (suc n))

-- ---- what is left of the numbers below n from i on, as a loop over them goes

unfoldable pub from : ℕ → ℕ → List ℕ
from n i = numbers_from i (n - i)

pub from_all : (n : ℕ) → from n 0 ≡ numbers_from 0 n
unfolding from
from_all n = let e : n - 0 ≡ n = omega arith in ap (numbers_from 0) e

pub from_more : (n i : ℕ) → i < n → from n i ≡ i ∷ from n (i + 1)
unfolding from numbers_from
from_more n i h =
    let e : n - i ≡ suc (n - (i + 1)) = omega arith in
    ap (numbers_from i) e ∙ ap (λ (j : ℕ). i ∷ numbers_from j (n - (i + 1))) (sym (add-one i))

pub from_end : (n i : ℕ) → n ≤ i → from n i ≡ []
unfolding from numbers_from
from_end n i h = let e : n - i ≡ 0 = omega arith in ap (numbers_from i) e
