-- What keeps a move out of the list: dominance, or equal costs and a lower number.
use Prim.Native.Nat.{ℕ, ◌≤◌, ◌<◌}
use Rattle.std.specs.Prelude.{Bool, true, false, not, ◌&&◌, ◌||◌, ◌⊎◌, ◌≡◌, eqb, length, get_or}
use Rattle.std.proofs.lemmas.Bool.{false≢true}
use Rattle.std.proofs.Math.Logic.{inl, inr}
use Rattle.std.proofs.Common.{⊎_elim, ◌∙◌, ap, subst, le_refl, lt_trans, arith, get_or-take}
use mathlib.Core.List.{List, [], ◌∷◌}
use Rattle.std.proofs.Math.Path.{refl, sym}
use Rattle.std.proofs.Math.Nat.{suc_inj}
use Rattle.std.proofs.Math.Dec.{ltb}
use Rattle.std.proofs.Math.ListN.{take}
use borrow.Author.Tests.{ltb-true, ltb-false, lt-ltb, le-ltb, eq-eqb}
use Rattle.zorder.specs.Address.{address, padded}
use Rattle.zorder.specs.Between.{RowCosts, row_costs, before, same_place}
use Rattle.zorder.proofs.Laws.Between.{row-padded, before-irrefl}
use Rattle.zorder.proofs.Laws.FirstCosts.{before-alike}
use Rattle.model.specs.Basics.{equal}
use Rattle.model.specs.Moves.{Move, move_before, z_before}
use Rattle.model.specs.Dominance.{less, nowhere_greater, somewhere_less, better, dominates, equal_costs, lower_twin, hides}
use Rattle.model.specs.Sound.{Fit}
use Rattle.model.proofs.Laws.Bool.{by_cases, both_ways, and_left, and_right, and_both, and-given, not_back, or_cases, or_left, or_right, or-false-left, or-false-right, or-false-both, and-false-right}
use Rattle.model.proofs.Laws.Basics.{equal-refl, equal-true}
use Rattle.model.proofs.Laws.Dominance.{places-nowhere-greater, dominates-places, dominates-irrefl, dominates-trans, row-lengths, dominates-before, take-same-length}

-- ---- equal costs

pub equal-first : (d : ℕ) (p q : List ℕ) → equal_costs d p q ≡ true → take d p ≡ take d q
unfolding equal_costs
equal-first d p q = equal-true (take d p) (take d q)

first-equal : (d : ℕ) (p q : List ℕ) → take d p ≡ take d q → equal_costs d p q ≡ true
unfolding equal_costs
first-equal d p q e = ap (equal (take d p)) (sym e) ∙ equal-refl (take d p)

pub equal-self : (d : ℕ) (p : List ℕ) → equal_costs d p p ≡ true
equal-self d p = first-equal d p p refl

pub equal-sym : (d : ℕ) (p q : List ℕ) → equal_costs d p q ≡ true → equal_costs d q p ≡ true
equal-sym d p q e = first-equal d q p (sym (equal-first d p q e))

pub equal-trans : (d : ℕ) (p q r : List ℕ) → equal_costs d p q ≡ true → equal_costs d q r ≡ true → equal_costs d p r ≡ true
equal-trans d p q r e f = first-equal d p r (equal-first d p q e ∙ equal-first d q r f)

-- What has equal costs is dominated by the same, and dominates the same.
pub equal-dominated : (d : ℕ) (x p q : List ℕ) → equal_costs d p q ≡ true → dominates d x p ≡ dominates d x q
unfolding dominates
equal-dominated d x p q e = ap (better (take d x)) (equal-first d p q e)

pub equal-dominates : (d : ℕ) (x p q : List ℕ) → equal_costs d p q ≡ true → dominates d p x ≡ dominates d q x
unfolding dominates
equal-dominates d x p q e = ap (λ (l : List ℕ). better l (take d x)) (equal-first d p q e)

-- Rows with equal costs have all costs equal, since those past d are zero, and so one place.
pub equal-rows : (d : ℕ) (p q : List ℕ) → d ≤ row_costs → RowCosts d p → RowCosts d q → equal_costs d p q ≡ true → p ≡ q
equal-rows d p q l h k e = sym (row-padded d p l h) ∙ ap (padded d) (equal-first d p q e) ∙ row-padded d q l k

equal-place : (d : ℕ) (p q : List ℕ) → d ≤ row_costs → RowCosts d p → RowCosts d q → equal_costs d p q ≡ true → same_place d p q ≡ true
unfolding same_place
equal-place d p q l h k e = eq-eqb (address d p) (address d q) (ap (address d) (equal-rows d p q l h k e))

-- ---- in one pass over the costs

neither-equal : (p q : List ℕ) → length p ≡ length q → nowhere_greater p q ≡ true → somewhere_less p q ≡ false → equal p q ≡ true
unfolding nowhere_greater somewhere_less less equal
neither-equal [] [] n g h = refl
neither-equal [] (b ∷ q) n g h = absurd (omega arith)
neither-equal (a ∷ p) [] n g h = absurd (omega arith)
neither-equal (a ∷ p) (b ∷ q) n g h =
    let most = ltb-false b a (not_back (ltb b a) (and_left (not (ltb b a)) (nowhere_greater p q) g)) in
    let least = ltb-false a b (or-false-left (ltb a b) (somewhere_less p q) h) in
    and_both (eqb a b) (equal p q) (eq-eqb a b (omega (arith, most, least)))
    (neither-equal p q (suc_inj n) (and_right (not (ltb b a)) (nowhere_greater p q) g) (or-false-right (ltb a b) (somewhere_less p q) h))

equal-nowhere-greater : (p q : List ℕ) → equal p q ≡ true → nowhere_greater p q ≡ true
equal-nowhere-greater p q e =
    subst (λ (r : List ℕ). nowhere_greater p r ≡ true) (equal-true p q e) (places-nowhere-greater p p (λ i. le_refl (get_or p i 0)))

-- Better, or equal and lower by another test: nowhere greater, and somewhere less or lower.
pub better-or-equal : (p q : List ℕ) (lower : Bool) → length p ≡ length q
    → (nowhere_greater p q && (somewhere_less p q || lower)) ≡ (better p q || (equal p q && lower))
unfolding better
better-or-equal p q lower n = decide (nowhere_greater p q) (somewhere_less p q) (equal p q) (neither-equal p q n) (equal-nowhere-greater p q)
  where
    decide : (nowhere somewhere same : Bool) → (nowhere ≡ true → somewhere ≡ false → same ≡ true) → (same ≡ true → nowhere ≡ true)
        → (nowhere && (somewhere || lower)) ≡ ((nowhere && somewhere) || (same && lower))
    decide true true same f g = refl
    decide true false same f g = ap (λ (b : Bool). b && lower) (sym (f refl refl))
    decide false somewhere true f g = absurd (false≢true (g refl))
    decide false somewhere false f g = refl

-- ---- moves

-- What keeps a move out of the list: the laws of lists use only these.
pub record Hiding {A : Type 0} (P : A → Type 0) (lt hides : A → A → Bool) : Type 0 where
  pub irrefl : (x : A) → P x → hides x x ≡ false
  pub trans : (x y z : A) → P x → P y → P z → hides x y ≡ true → hides y z ≡ true → hides x z ≡ true
  pub earlier : (x y : A) → P x → P y → hides x y ≡ true → lt x y ≡ true

module _ (d : ℕ) (m n : Move) where
  pub lower-twin : equal_costs d m.costs n.costs ≡ true → m.number < n.number → lower_twin d m n ≡ true
  unfolding lower_twin
  lower-twin e l = and_both (equal_costs d m.costs n.costs) (ltb m.number n.number) e (lt-ltb m.number n.number l)

  pub twin-costs : lower_twin d m n ≡ true → equal_costs d m.costs n.costs ≡ true
  unfolding lower_twin
  twin-costs = and_left (equal_costs d m.costs n.costs) (ltb m.number n.number)

  pub twin-number : lower_twin d m n ≡ true → m.number < n.number
  unfolding lower_twin
  twin-number e = ltb-true m.number n.number (and_right (equal_costs d m.costs n.costs) (ltb m.number n.number) e)

  pub dominates-hides : dominates d m.costs n.costs ≡ true → hides d m n ≡ true
  unfolding hides
  dominates-hides = or_left (dominates d m.costs n.costs) (lower_twin d m n)

  pub twin-hides : lower_twin d m n ≡ true → hides d m n ≡ true
  unfolding hides
  twin-hides = or_right (dominates d m.costs n.costs) (lower_twin d m n)

  -- Nothing else hides.
  pub hides-cases : hides d m n ≡ true → (dominates d m.costs n.costs ≡ true) ⊎ (lower_twin d m n ≡ true)
  unfolding hides
  hides-cases e = or_cases (dominates d m.costs n.costs) (lower_twin d m n) e inl inr

  pub hides-nowhere-greater : length m.costs ≡ length n.costs → hides d m n ≡ true → (i : ℕ) → i < d → get_or m.costs i 0 ≤ get_or n.costs i 0
  hides-nowhere-greater k e i l =
      ⊎_elim
      (λ h. (dominates-places d m.costs n.costs k h).nowhere i l)
      (λ t.
      let same = ap (λ (p : List ℕ). get_or p i 0) (equal-first d m.costs n.costs (twin-costs t)) in
      omega (arith, get_or-take d m.costs i 0 l, get_or-take d n.costs i 0 l, same))
      (hides-cases e)

pub hides-irrefl : (d : ℕ) (m : Move) → hides d m m ≡ false
unfolding hides lower_twin
hides-irrefl d m =
    or-false-both (dominates d m.costs m.costs) (lower_twin d m m) (dominates-irrefl d m.costs)
    (and-false-right (equal_costs d m.costs m.costs) (ltb m.number m.number) (le-ltb m.number m.number (le_refl m.number)))

hides-trans : (d : ℕ) (x y z : Move) → length x.costs ≡ length y.costs → length y.costs ≡ length z.costs
    → hides d x y ≡ true → hides d y z ≡ true → hides d x z ≡ true
hides-trans d x y z k l e f = cases (hides-cases d x y e) (hides-cases d y z f)
  where
    cases : (dominates d x.costs y.costs ≡ true) ⊎ (lower_twin d x y ≡ true)
        → (dominates d y.costs z.costs ≡ true) ⊎ (lower_twin d y z ≡ true) → hides d x z ≡ true
    cases (inl a) (inl b) = dominates-hides d x z (dominates-trans d x.costs y.costs z.costs k l a b)
    cases (inl a) (inr b) = dominates-hides d x z (sym (equal-dominated d x.costs y.costs z.costs (twin-costs d y z b)) ∙ a)
    cases (inr a) (inl b) = dominates-hides d x z (equal-dominates d z.costs x.costs y.costs (twin-costs d x y a) ∙ b)
    cases (inr a) (inr b) =
        let same = equal-trans d x.costs y.costs z.costs (twin-costs d x y a) (twin-costs d y z b) in
        twin-hides d x z (lower-twin d x z same (lt_trans (twin-number d x y a) (twin-number d y z b)))

-- What hides stands earlier: by its address, or in the same place by its number.
hides-before : (d : ℕ) (m n : Move) → d ≤ row_costs → RowCosts d m.costs → RowCosts d n.costs → hides d m n ≡ true → move_before d m n ≡ true
unfolding move_before z_before
hides-before d m n l h k e =
    ⊎_elim
    (λ g. or_left (before d m.costs n.costs) (same_place d m.costs n.costs && ltb m.number n.number) (dominates-before d m.costs n.costs l h k g))
    (λ t. or_right (before d m.costs n.costs) (same_place d m.costs n.costs && ltb m.number n.number)
    (and_both (same_place d m.costs n.costs) (ltb m.number n.number)
    (equal-place d m.costs n.costs l h k (twin-costs d m n t)) (lt-ltb m.number n.number (twin-number d m n t))))
    (hides-cases d m n e)

-- Of two moves the earlier one hides the other exactly if it is nowhere greater: of equal costs the lower number stands first.
module _ (d : ℕ) (m n : Move) (b : move_before d m n ≡ true) where
  same-lower : take d m.costs ≡ take d n.costs → ltb m.number n.number ≡ true
  unfolding move_before z_before
  same-lower e =
      or_cases (before d m.costs n.costs) (same_place d m.costs n.costs && ltb m.number n.number) b
      (λ h. both_ways h (before-alike d m.costs n.costs n.costs n.costs e refl ∙ before-irrefl d n.costs))
      (and_right (same_place d m.costs n.costs) (ltb m.number n.number))

  pub earlier-hides : length m.costs ≡ length n.costs → hides d m n ≡ nowhere_greater (take d m.costs) (take d n.costs)
  unfolding hides lower_twin dominates equal_costs
  earlier-hides k = sym (better-or-equal p q lower (take-same-length d m.costs n.costs k)) ∙ and-given (nowhere_greater p q) (somewhere_less p q || lower) either
    where
      p : List ℕ
      p = take d m.costs

      q : List ℕ
      q = take d n.costs

      lower : Bool
      lower = ltb m.number n.number

      either : nowhere_greater p q ≡ true → (somewhere_less p q || lower) ≡ true
      either h =
          by_cases (somewhere_less p q) (or_left (somewhere_less p q) lower)
          (λ g. or_right (somewhere_less p q) lower (same-lower (equal-true p q (neither-equal p q (take-same-length d m.costs n.costs k) h g))))

pub move-hiding : (d c : ℕ) → d ≤ row_costs → Hiding (Fit c d) (move_before d) (hides d)
move-hiding d c l =
    record {
      irrefl = λ x hx. hides-irrefl d x;
      trans = λ x y z hx hy hz. hides-trans d x y z (row-lengths hx.costs hy.costs) (row-lengths hy.costs hz.costs);
      earlier = λ x y hx hy. hides-before d x y l hx.costs hy.costs;
    }
