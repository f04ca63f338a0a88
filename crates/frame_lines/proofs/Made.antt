-- A row of which every number is what a closure gives of its place; a call leaves the closure as it was.
use Prim.Native.Nat.{ℕ, zero, suc, ◌+◌, ◌≤◌, ◌<◌}
use mathlib.Core.List.{List}
use mathlib.Core.Path.{◌≡◌, refl, sym, ap, ◌∙◌}
use native.Mathlib.Omega.{arith}
use borrow.Author.Tests.{eqb-true, eqb-false}
use lib.Dec.{eqb}
use lib.ListN.{get_or}
use Rattle.std.specs.Array.{IsFromFnResultFrom, IsFromFnResult}
use Rattle.std.specs.Fn.{Mut, Called}
use Rattle.std.proofs.Common.{ext_get_or, subst}
use Rattle.promises.specs.Layout.{tab}
use Rattle.promises.proofs.Laws.Tab.{length-tab, get_or-tab}
use Rattle.model.proofs.Laws.Bool.{by_cases}

module _ {F : Type 0} (g : Mut F (ℕ × Unit {0}) ℕ) (f : F) (at : ℕ → ℕ) (call : (i y : ℕ) (q : F) → Called g f (i, tt) y q → (y ≡ at i) × (q ≡ f)) where
  made_from : (row : List ℕ) (p : F) (i n : ℕ) → p ≡ f → IsFromFnResultFrom g p row i n → (k : ℕ) → i ≤ k → k < i + n → get_or row k 0 ≡ at k
  made_from row p i zero e made k low high = absurd (omega arith)
  made_from row p i (suc n) e (q, y, is, called, rest) k low high =
      let gave = call i y q (subst (λ (x : F). Called g x (i, tt) y q) e called) in
      by_cases (eqb k i)
      (λ e. let here : k ≡ i = eqb-true k i e in ap (λ (j : ℕ). get_or row j 0) here ∙ is.1 0 ∙ gave.0 ∙ ap at (sym here))
      (λ e. let past : k ≡ i → ⊥ = eqb-false k i e in made_from row q (i + 1) n gave.1 rest k (omega arith) (omega arith))

  pub made-tab : (row : List ℕ) (n : ℕ) → IsFromFnResult g f row n → row ≡ tab at n
  made-tab row n made =
      ext_get_or 0 row (tab at n) (made.long ∙ sym (length-tab at n))
      (λ k h. let below : k < n = omega (arith, made.long) in made_from row f 0 n refl made.each k (omega arith) (omega arith) ∙ sym (get_or-tab at 0 n k below))
