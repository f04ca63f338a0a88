-- `raise::starts_group` meets its contract. Assumes nothing.
use Prim.Native.Nat.{ℕ, ◌+◌, ◌%◌, ◌≤◌, ◌<◌}
use mathlib.Core.Bool.{Bool, true, false, ◌&&◌, ◌||◌}
use mathlib.Core.Logic.{◌⊎◌, inl, inr, ⊎_elim}
use mathlib.Core.Path.{◌≡◌, refl, sym, ap, ◌∙◌}
use borrow.Author.Tests.{eq-eqb, ne_eqb, le-leb, lt-leb, lt-ltb, le-ltb}
use lib.Dec.{leb, ltb, eqb}
use Rattle.model.proofs.Laws.Bool.{and_both, and-false-right}
use Rattle.line.specs.Load.{starts_group}
use Rattle.tree.proofs.raise.starts_group.Goals.{else-j-eq0-2-via-then-j-eq0-2+else-j-n, else-j-eq0-2-via-else-j-eq0-2}
use Rattle.tree.proofs.raise.starts_group.Goals as goal

module _ (n j : ℕ) where
  abbrev few : Bool
  few = eqb (n % 8) 1 || eqb (n % 8) 2

  -- What the three tests give.
  starts : (a b t : Bool) → eqb j 0 ≡ a → (eqb (j % 8) 0 && leb (j + 3) n) ≡ b → (eqb (j + 3) n && ltb 8 n) ≡ t → (a || b || (t && few)) ≡ starts_group n j
  unfolding starts_group
  starts a b t e f g = sym (λ i. e i || f i || (g i && few))

  eighth : j % 8 ≡ 0 → leb (j + 3) n ≡ true → (eqb (j % 8) 0 && leb (j + 3) n) ≡ true
  eighth e l = and_both (eqb (j % 8) 0) (leb (j + 3) n) (eq-eqb (j % 8) 0 e) l

  not-eighth : ((j % 8 ≡ 0) × (leb (j + 3) n ≡ false)) ⊎ (j % 8 ≡ 0 → ⊥) → (eqb (j % 8) 0 && leb (j + 3) n) ≡ false
  not-eighth =
      ⊎_elim (λ w. and-false-right (eqb (j % 8) 0) (leb (j + 3) n) w.1)
      (λ w. ap (λ (b : Bool). b && leb (j + 3) n) (ne_eqb (j % 8) 0 w))

  last : (j + 3 ≡ n) × (8 < n) → (eqb (j + 3) n && ltb 8 n) ≡ true
  last w = and_both (eqb (j + 3) n) (ltb 8 n) (eq-eqb (j + 3) n w.0) (lt-ltb 8 n w.1)

  not-last : ((j + 3 ≡ n) × (n ≤ 8)) ⊎ (j + 3 ≡ n → ⊥) → (eqb (j + 3) n && ltb 8 n) ≡ false
  not-last =
      ⊎_elim (λ w. and-false-right (eqb (j + 3) n) (ltb 8 n) (le-ltb 8 n w.1))
      (λ w. ap (λ (b : Bool). b && ltb 8 n) (ne_eqb (j + 3) n w))

pub returns-then-j-eq0 : goal.returns-then-j-eq0
returns-then-j-eq0 c =
    let a = c.args in
    starts a.n a.j true _ _ (eq-eqb a.j 0 c.if-j-eq0.true) refl refl

pub returns-then-j-n : goal.returns-then-j-n
returns-then-j-n c =
    let a = c.args in
    starts a.n a.j false true _ (ne_eqb a.j 0 c.if-j-eq0.false) (eighth a.n a.j c.if-j-eq0-2.true (le-leb (a.j + 3) a.n c.if-j-n.true)) refl

pub returns-then-n-eq1 : goal.returns-then-n-eq1
returns-then-n-eq1 c =
    let a = c.args in
    let b = not-eighth a.n a.j (elim c.else-j-eq0-2.branch [ else-j-eq0-2-via-then-j-eq0-2+else-j-n w ↦ inl (w.if-j-eq0-2.true, lt-leb (a.j + 3) a.n w.if-j-n.false) | else-j-eq0-2-via-else-j-eq0-2 w ↦ inr w.if-j-eq0-2.false ]) in
    let t = last a.n a.j c.if-n-gt8.true in
    let one = eq-eqb (a.n % 8) 1 c.if-n-eq1.true in
    one
    ∙ ap (λ (u : Bool). u || eqb (a.n % 8) 2) (sym one)
    ∙ starts a.n a.j false false true (ne_eqb a.j 0 c.if-j-eq0.false) b t

pub returns-else-n-eq1 : goal.returns-else-n-eq1
returns-else-n-eq1 c =
    let a = c.args in
    let b = not-eighth a.n a.j (elim c.else-j-eq0-2.branch [ else-j-eq0-2-via-then-j-eq0-2+else-j-n w ↦ inl (w.if-j-eq0-2.true, lt-leb (a.j + 3) a.n w.if-j-n.false) | else-j-eq0-2-via-else-j-eq0-2 w ↦ inr w.if-j-eq0-2.false ]) in
    let t = last a.n a.j c.if-n-gt8.true in
    ap (λ (u : Bool). u || eqb (a.n % 8) 2) (sym (ne_eqb (a.n % 8) 1 c.if-n-eq1.false))
    ∙ starts a.n a.j false false true (ne_eqb a.j 0 c.if-j-eq0.false) b t

pub returns-else-n-gt8 : goal.returns-else-n-gt8
returns-else-n-gt8 c =
    let a = c.args in
    let b = not-eighth a.n a.j (elim c.else-j-eq0-2.branch [ else-j-eq0-2-via-then-j-eq0-2+else-j-n w ↦ inl (w.if-j-eq0-2.true, lt-leb (a.j + 3) a.n w.if-j-n.false) | else-j-eq0-2-via-else-j-eq0-2 w ↦ inr w.if-j-eq0-2.false ]) in
    c.if-n-gt8.false-raw ∙ starts a.n a.j false false false (ne_eqb a.j 0 c.if-j-eq0.false) b (not-last a.n a.j c.if-n-gt8.either)
