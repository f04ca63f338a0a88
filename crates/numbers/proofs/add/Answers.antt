-- `add` meets its contract. Assumes nothing.
use Prim.Native.Nat.{ℕ, ◌/◌, ◌%◌, ◌^◌, ◌<◌}
use mathlib.Core.Bool.{Bool, ◌||◌}
use mathlib.Core.List.{List}
use mathlib.Core.Logic.{◌≢◌}
use mathlib.Core.Path.{◌≡◌, sym, subst, ap, ◌∙◌}
use native.Mathlib.Decide.{ℕ_discrete}
use native.Mathlib.Nat.{one-mul}
use native.Mathlib.Omega.{arith}
use borrow.Author.Tests.{eq-eqb, ne_eqb}
use lib.Bits.{bit_or}
use lib.Dec.{eqb}
use lib.ListN.{length, get_or, set}
use lib.Pow.{shl_exact}
use lib.Seq.{get_or-set_same, get_or-set_other}
use Rattle.numbers.proofs.Bits.{set-bit-same, set-bit-other}
use Rattle.numbers.specs.Set.{in_set, With}
use Rattle.numbers.proofs.add.Goals as goal

-- The word of n, with its bit set, in place of the old one.
module _ (ws : List ℕ) (n : ℕ) (fits : n / 64 < length ws) where
  abbrev more : List ℕ
  more = set ws (n / 64) (bit_or (get_or ws (n / 64) 0) (2 ^ (n % 64)))

  word : get_or more (n / 64) 0 ≡ bit_or (get_or ws (n / 64) 0) (2 ^ (n % 64))
  word = get_or-set_same ws (n / 64) _ 0 fits

  bit-other : (k : ℕ) → k ≢ n → get_or more (k / 64) 0 / 2 ^ (k % 64) % 2 ≡ get_or ws (k / 64) 0 / 2 ^ (k % 64) % 2
  bit-other k ne = by_word (ℕ_discrete (k / 64) (n / 64))
    where
      bit : List ℕ → ℕ → ℕ
      bit vs at = get_or vs at 0 / 2 ^ (k % 64) % 2

      by_word : Dec (k / 64 ≡ n / 64) → bit more (k / 64) ≡ bit ws (k / 64)
      by_word (yes e) =
          ap (bit more) e
          ∙ ap (λ (w : ℕ). w / 2 ^ (k % 64) % 2) word
          ∙ set-bit-other (get_or ws (n / 64) 0) (n % 64) (k % 64) (λ f. ne (omega arith))
          ∙ ap (bit ws) (sym e)
      by_word (no d) = ap (λ (w : ℕ). w / 2 ^ (k % 64) % 2) (get_or-set_other ws (n / 64) (k / 64) _ 0 d)

  set-with : With ws n more
  unfolding With in_set
  set-with k = by_number (ℕ_discrete k n)
    where
      by_number : Dec (k ≡ n) → in_set more k ≡ (eqb k n || in_set ws k)
      by_number (yes e) =
          ap (in_set more) e
          ∙ ap (λ (w : ℕ). eqb (w / 2 ^ (n % 64) % 2) 1) word
          ∙ set-bit-same (get_or ws (n / 64) 0) (n % 64)
          ∙ ap (λ (b : Bool). b || in_set ws k) (sym (eq-eqb k n e))
      by_number (no d) =
          ap (λ (b : ℕ). eqb b 1) (bit-other k d) ∙ ap (λ (b : Bool). b || in_set ws k) (sym (ne_eqb k n d))

pub returns : goal.returns
returns c =
    let a = c.args in
    let place : a.n % 64 < 64 = omega arith in
    subst (λ (v : ℕ). With a.set.now a.n (set a.set.now (a.n / 64) (bit_or (get_or a.set.now (a.n / 64) 0) v)))
    (sym (shl_exact {a = 1} 1 (a.n % 64) 64 (omega arith) (omega arith) ∙ one-mul (2 ^ (a.n % 64))))
    (set-with a.set.now a.n (omega arith))
