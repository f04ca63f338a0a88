-- Columns asked and filled: turns of the loops.
use Rattle.std.specs.Prelude.{ℕ, zero, suc, ◌+◌, ◌-◌, ◌*◌, ◌≤◌, ◌<◌, Bool, false, cond, ◌&&◌, ◌≡◌, eqb, ltb, set}
use Rattle.std.proofs.Math.Bool.{true}
use mathlib.Core.List.{List}
use Rattle.std.proofs.Math.Path.{refl, sym, ap}
use Rattle.std.proofs.Common.{◌∙◌, subst, add-one, length-set, get_or-set_same, get_or-set_other}
use Rattle.std.proofs.Math.Decide.{ℕ_discrete, dec_lt}
use native.Mathlib.Omega.{arith}
use borrow.Author.Tests.{leb-true, le-leb, lt-ltb, ltb-true, ltb-false, eqb-true, eq-eqb, ne_eqb}
use Rattle.std.specs.Int.Bits.{bit_or, or_add_and}
use Rattle.std.proofs.lemmas.Nat.{and_le_l, and_le_r}
use Rattle.std.proofs.Math.Dec.{leb}
use Rattle.std.proofs.Math.ListN.{length, get_or, get_or-eq_default}
use Rattle.zorder.specs.Address.{row_costs}
use Rattle.model.specs.Dominance.{less, nowhere_greater}
use Rattle.model.proofs.Laws.Bool.{by_cases, both_ways, and_left, and_right, and_both, same_test}
use Rattle.model.proofs.Laws.Dominance.{nowhere-greater-places, places-nowhere-greater}
use Rattle.memory.specs.Tests.{all_to}
use Rattle.search.specs.Columns.{column_fits, fitting, Column, Bounds, FittingColumn, NoneFits, SomeFits, Put}
use Rattle.memory.specs.Laws.Places.{all_to-at, all_to-all}
use Rattle.search.specs.Laws.Counts.{count-zero, count-some}

-- ---- one column asked

pub zero_number : (a : ℕ) → 1 - cond (less 0 a) 1 0 ≡ cond (eqb a 0) 1 0
unfolding less
zero_number zero = refl
zero_number (suc a) =
    ap (λ (t : Bool). 1 - cond t 1 0) (lt-ltb 0 (suc a) (omega arith)) ∙ sym (ap (λ (t : Bool). cond {A = ℕ} t 1 0) (ne_eqb (suc a) 0 (λ e. omega arith)))

or-zero : (w a b : ℕ) → eqb (bit_or w (a - b)) 0 ≡ (eqb w 0 && leb a b)
or-zero w a b =
    same_test (eqb (bit_or w (a - b)) 0) (eqb w 0 && leb a b)
    (λ t.
    let z = eqb-true (bit_or w (a - b)) 0 t in
    and_both (eqb w 0) (leb a b) (eq-eqb w 0 (omega (arith, z, or_add_and w (a - b), and_le_r w (a - b))))
    (le-leb a b (omega (arith, z, or_add_and w (a - b), and_le_l w (a - b)))))
    (λ t.
    let x = eqb-true w 0 (and_left (eqb w 0) (leb a b) t) in
    let y = leb-true a b (and_right (eqb w 0) (leb a b) t) in
    eq-eqb (bit_or w (a - b)) 0 (omega (arith, x, y, or_add_and w (a - b))))

module _ (columns q : List ℕ) (j : ℕ) where
  pub asked-none : eqb 0 0 ≡ column_fits 0 columns q j
  unfolding column_fits all_to
  asked-none = refl

  pub asked-more : (w k : ℕ) → eqb w 0 ≡ column_fits k columns q j
      → eqb (bit_or w (get_or columns (64 * k + j) 0 - get_or q k 0)) 0 ≡ column_fits (k + 1) columns q j
  unfolding column_fits all_to
  asked-more w k e =
      or-zero w (get_or columns (64 * k + j) 0) (get_or q k 0)
      ∙ ap (λ (b : Bool). b && leb (get_or columns (64 * k + j) 0) (get_or q k 0)) e
      ∙ ap (all_to (λ i. leb (get_or columns (64 * i + j) 0) (get_or q i 0))) (sym (add-one k))

  -- A column that is nowhere greater is found by any number of costs.
  pub column-fits : (row : List ℕ) → length row ≡ row_costs → length q ≡ row_costs → Column columns j row → nowhere_greater row q ≡ true
      → (w : ℕ) → w ≤ row_costs → column_fits w columns q j ≡ true
  unfolding column_fits
  column-fits row e f h g w l =
      all_to-all (λ k. leb (get_or columns (64 * k + j) 0) (get_or q k 0)) w
      (λ k i. le-leb (get_or columns (64 * k + j) 0) (get_or q k 0) (omega (arith, h k (omega arith), nowhere-greater-places row q (e ∙ sym f) g k)))

-- ---- all columns asked

module _ (columns q : List ℕ) (wide : length q ≡ row_costs) (w count : ℕ) (counted : count ≡ fitting w columns q) where
  -- Where none is counted, by any number of costs, none is nowhere greater.
  none-counted : w ≤ row_costs → ltb 0 count ≡ false → NoneFits columns q
  unfolding fitting
  none-counted few none t l row e held =
      by_cases (nowhere_greater row q)
      (λ g. both_ways (column-fits columns q t row e wide held g w few)
      (count-zero (column_fits w columns q) 64 t l (omega (arith, counted, ltb-false 0 count none))))
      (λ g. g)

  -- Where one is counted by all costs that count, it is.
  some-counted : Bounds w q → ltb 0 count ≡ true → FittingColumn columns q
  unfolding fitting column_fits
  some-counted bounds some =
      let one = count-some (column_fits w columns q) 64 (omega (arith, counted, ltb-true 0 count some)) in
      record {
        column = one.0;
        inside = one.1;
        fits = λ row e small held.
            places-nowhere-greater row q (λ k. go one.0 one.2 row e small held k (dec_lt k row_costs) (dec_lt k w));
      }
    where
      go : (t : ℕ) → all_to (λ k. leb (get_or columns (64 * k + t) 0) (get_or q k 0)) w ≡ true → (row : List ℕ) → length row ≡ row_costs
          → ((k : ℕ) → get_or row k 0 < 65536) → Column columns t row → (k : ℕ) → Dec (k < row_costs) → Dec (k < w) → get_or row k 0 ≤ get_or q k 0
      go t fits row e small held k (yes l) (yes asked) =
          omega (arith, held k l, leb-true (get_or columns (64 * k + t) 0) (get_or q k 0) (all_to-at (λ i. leb (get_or columns (64 * i + t) 0) (get_or q i 0)) w k asked fits))
      go t fits row e small held k (yes l) (no past) = omega (arith, small k, bounds k (omega arith) l)
      go t fits row e small held k (no past) _ =
          let none : get_or row k 0 ≡ 0 = get_or-eq_default row 0 {n = k} (omega (arith, e)) in omega arith

  pub fits_said : w ≤ row_costs → Bounds w q → SomeFits columns q (ltb 0 count)
  fits_said few bounds = record { true-says = some-counted bounds; false-says = none-counted few }

-- ---- one column filled

-- The first n costs of it.
pub record PutTo (old : List ℕ) (t : ℕ) (row : List ℕ) (n : ℕ) (new : List ℕ) : Type 0 where
  pub wide : length new ≡ length old
  pub here : (k : ℕ) → k < n → get_or new (64 * k + t) 0 ≡ get_or row k 0
  pub other : (s k : ℕ) → s < 64 → (s ≡ t → ⊥) → get_or new (64 * k + s) 0 ≡ get_or old (64 * k + s) 0

module _ {old : List ℕ} {t : ℕ} {row : List ℕ} where
  pub put-none : PutTo old t row 0 old
  put-none = record { wide = refl; here = λ k l. absurd (omega arith); other = λ s k l e. refl }

  pub put-more : (n : ℕ) (new : List ℕ) → t < 64 → 64 * n + t < length old → PutTo old t row n new → PutTo old t row (n + 1) (set new (64 * n + t) (get_or row n 0))
  put-more n new small room h = record {
    wide = length-set new (64 * n + t) (get_or row n 0) ∙ h.wide;
    here = λ k l. go k l (ℕ_discrete k n);
    other = λ s k l e. get_or-set_other new (64 * n + t) (64 * k + s) (get_or row n 0) 0 (λ g. e (omega arith)) ∙ h.other s k l e;
  }
    where
      go : (k : ℕ) → k < n + 1 → Dec (k ≡ n) → get_or (set new (64 * n + t) (get_or row n 0)) (64 * k + t) 0 ≡ get_or row k 0
      go k l (yes same) =
          ap (λ (i : ℕ). get_or (set new (64 * n + t) (get_or row n 0)) (64 * i + t) 0) same
          ∙ get_or-set_same new (64 * n + t) (get_or row n 0) 0 (omega (arith, h.wide))
          ∙ ap (λ (i : ℕ). get_or row i 0) (sym same)
      go k l (no differs) = get_or-set_other new (64 * n + t) (64 * k + t) (get_or row n 0) 0 (λ g. differs (omega arith)) ∙ h.here k (omega arith)

  pub put_all : {n : ℕ} {new : List ℕ} → row_costs ≤ n → PutTo old t row n new → Put old t row new
  put_all l h = record { here = λ k g. h.here k (omega arith); other = h.other }

-- ---- every column filled, one after another

pub filled-column : (row old new : List ℕ) (t : ℕ) → t < 64 → ((s : ℕ) → s < t → Column old s row) → Put old t row new → (s : ℕ) → s < t + 1 → Column new s row
filled-column row old new t l before put s n = go (ℕ_discrete s t)
  where
    go : Dec (s ≡ t) → Column new s row
    go (yes same) = subst (λ (z : ℕ). Column new z row) (sym same) put.here
    go (no other) = λ k g. put.other s k (omega arith) other ∙ before s (omega arith) k g
