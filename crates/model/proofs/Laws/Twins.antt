-- Twins, moves with equal costs (Card 4): the list has of those that nothing dominates the lowest number alone.
use Rattle.std.specs.Prelude.{ℕ, ◌≤◌, ◌<◌, Bool, true, false, ◌&&◌, ◌||◌, ◌≡◌, refl}
use Rattle.std.proofs.Math.Bool.{not, and-false}
use mathlib.Core.List.{List, Memᴰ}
use Rattle.std.proofs.Common.{⊎_elim, ◌∙◌, subst, le_refl, le_of_lt, arith, ltb-true, ltb-false}
use Rattle.std.proofs.Math.Path.{sym, ap}
use Rattle.std.proofs.Math.Dec.{ltb}
use Rattle.zorder.specs.Between.{row_costs}
use Rattle.model.specs.Basics.{Each, select, any}
use Rattle.model.specs.Moves.{Move, ordered}
use Rattle.model.specs.Dominance.{dominates, equal_costs, lower_twin, hides}
use Rattle.model.specs.Lists.{hidden, skyline, band}
use Rattle.model.specs.Sound.{Fit}
use Rattle.model.proofs.Laws.Bool.{by_cases, test_cases, not_back, both_ways}
use Rattle.model.proofs.Laws.Basics.{each-mem, mem-each, select-mem, select-ext, select-select, any-mem, any-ext, any-or, any-select}
use Rattle.model.proofs.Laws.Hiding.{equal-self, equal-sym, equal-trans, equal-dominated, dominates-hides, lower-twin, twin-costs, twin-number, twin-hides, hides-cases}
use Rattle.model.proofs.Laws.Skyline.{skyline-mem, mem-skyline, skyline-hider}
use Rattle.model.proofs.Laws.Queries.{undominated, band-zero}

-- ---- the list and the undominated moves

module _ (d : ℕ) where
  -- Of moves with equal costs the lowest number alone.
  unfoldable pub lowest_twins : List Move → List Move
  lowest_twins ms = select (λ m. not (any (λ p. lower_twin d p m) ms)) ms

  module _ (ms : List Move) where
    abbrev is_dominated : Move → Bool
    is_dominated m = any (λ p. dominates d p.costs m.costs) ms

    hidden-either : (m : Move) → hidden d ms m ≡ (is_dominated m || any (λ p. lower_twin d p m) ms)
    unfolding hidden hides lower_twin
    hidden-either m = any-or (λ p. dominates d p.costs m.costs) (λ p. lower_twin d p m) ms

    twin-dominated : (p m : Move) → equal_costs d p.costs m.costs ≡ true → is_dominated p ≡ is_dominated m
    twin-dominated p m t =
        any-ext (λ x. dominates d x.costs p.costs) (λ x. dominates d x.costs m.costs) ms
        (mem-each _ ms (λ x _. equal-dominated d x.costs p.costs m.costs t))

    -- a twin of an undominated move is undominated
    twin-undominated : (p m : Move) → is_dominated m ≡ false → lower_twin d p m ≡ (not (is_dominated p) && lower_twin d p m)
    unfolding lower_twin
    twin-undominated p m e =
        test_cases (λ (b : Bool). (b && ltb p.number m.number) ≡ (not (is_dominated p) && (b && ltb p.number m.number))) (equal_costs d p.costs m.costs)
        (λ t. ap (λ (b : Bool). not b && ltb p.number m.number) (sym (twin-dominated p m t ∙ e)))
        (λ t. sym (and-false (not (is_dominated p))))

    shown-alike : (m : Move) → not (hidden d ms m) ≡ (not (is_dominated m) && not (any (λ p. lower_twin d p m) (undominated d ms)))
    unfolding undominated
    shown-alike m =
        ap not (hidden-either m)
        ∙ test_cases (λ (b : Bool). not (b || any (λ p. lower_twin d p m) ms) ≡ (not b && not (any (λ p. lower_twin d p m) (undominated d ms)))) (is_dominated m)
        (λ e. refl)
        (λ e. ap not
        (any-ext (λ p. lower_twin d p m) (λ p. not (is_dominated p) && lower_twin d p m) ms (mem-each _ ms (λ p _. twin-undominated p m e))
        ∙ sym (any-select (λ p. lower_twin d p m) (λ p. not (is_dominated p)) ms)))

    -- The list: the undominated moves with, of equal costs, the lowest number alone.
    pub skyline-twins : skyline d ms ≡ lowest_twins (undominated d ms)
    unfolding skyline lowest_twins undominated
    skyline-twins =
        select-ext (λ m. not (hidden d ms m)) (λ m. not (is_dominated m) && not (any (λ p. lower_twin d p m) (undominated d ms))) ms (mem-each _ ms (λ m _. shown-alike m))
        ∙ sym (select-select (λ m. not (any (λ p. lower_twin d p m) (undominated d ms))) (λ m. not (is_dominated m)) ms)

    pub listed-undominated : {m : Move} → Memᴰ m (skyline d ms) → Memᴰ m (undominated d ms)
    unfolding lowest_twins
    listed-undominated {m} k = (select-mem (λ n. not (any (λ p. lower_twin d p n) (undominated d ms))) (undominated d ms) (subst (Memᴰ m) skyline-twins k)).0

    -- Every listed move is in band 0, which may show more.
    pub listed-in-band : {m : Move} → Memᴰ m (skyline d ms) → Memᴰ m (band d 0 ms)
    listed-in-band {m} k = subst (Memᴰ m) (sym (band-zero d ms)) (listed-undominated k)

    -- ---- listed moves

    pub listed-unhidden : {m : Move} (p : Move) → Memᴰ m (skyline d ms) → Memᴰ p ms → ¬ (hides d p m ≡ true)
    unfolding hidden
    listed-unhidden {m} p k i e = both_ways (any-mem (λ q. hides d q m) i e) (skyline-mem d ms k).1

    -- A move whose twin of lower number is on the board is not listed.
    pub higher-twin-unlisted : (p m : Move) → Memᴰ p ms → lower_twin d p m ≡ true → ¬ Memᴰ m (skyline d ms)
    higher-twin-unlisted p m i t k = listed-unhidden p k i (twin-hides d p m t)

    -- no twin on the board has a lower number than a listed move
    no_lower : {p m : Move} → Memᴰ p ms → Memᴰ m (skyline d ms) → equal_costs d p.costs m.costs ≡ true → m.number ≤ p.number
    no_lower {p} {m} i k e =
        by_cases (ltb p.number m.number)
        (λ l. absurd (higher-twin-unlisted p m i (lower-twin d p m e (ltb-true p.number m.number l)) k))
        (ltb-false p.number m.number)

    -- Equal costs are listed once.
    pub listed-once : {p m : Move} → Memᴰ p (skyline d ms) → Memᴰ m (skyline d ms) → equal_costs d p.costs m.costs ≡ true
        → p.number ≡ m.number
    listed-once {p} {m} j k e =
        omega (arith, no_lower (skyline-mem d ms j).0 k e, no_lower (skyline-mem d ms k).0 j (equal-sym d p.costs m.costs e))

    -- What hides a twin of a listed move is a twin too, of a number between the two.
    pub twin-hider : {x : Move} → Memᴰ x (skyline d ms) → (p y : Move) → Memᴰ p ms
        → equal_costs d x.costs y.costs ≡ true → hides d p y ≡ true
        → (equal_costs d p.costs x.costs ≡ true) × (x.number ≤ p.number) × (p.number < y.number)
    twin-hider {x} k p y i e h =
        ⊎_elim
        (λ g. absurd (listed-unhidden p k i (dominates-hides d p x (equal-dominated d p.costs x.costs y.costs e ∙ g))))
        (λ t.
        let same = equal-trans d p.costs y.costs x.costs (twin-costs d p y t) (equal-sym d x.costs y.costs e) in
        (same, no_lower i k same, twin-number d p y t))
        (hides-cases d p y h)

-- The listed move with the costs of an undominated one.
pub record ShownBy (d : ℕ) (ms : List Move) (m : Move) : Type 0 where
  pub shown : Move
  pub listed : Memᴰ shown (skyline d ms)
  pub costs : equal_costs d shown.costs m.costs ≡ true
  pub number : shown.number ≤ m.number

-- So the costs of every undominated move are shown.
pub undominated-shown : (d c : ℕ) → d ≤ row_costs → (ms : List Move) → Each (Fit c d) ms → ordered d ms ≡ true
    → {m : Move} → Memᴰ m (undominated d ms) → ShownBy d ms m
unfolding undominated
undominated-shown d c l ms es r {m} k =
    by_cases (hidden d ms m)
    (λ h. let w = skyline-hider d c l ms es r m (each-mem (Fit c d) es s.0) h in
    ⊎_elim
    (λ e. both_ways (any-mem (λ p. dominates d p.costs m.costs) (skyline-mem d ms w.listed).0 e) none)
    (λ t. record { shown = w.hider; listed = w.listed; costs = twin-costs d w.hider m t; number = le_of_lt (twin-number d w.hider m t) })
    (hides-cases d w.hider m w.hiding))
    (λ h. record { shown = m; listed = mem-skyline d s.0 h; costs = equal-self d m.costs; number = le_refl m.number })
  where
    s : Memᴰ m ms × (not (any (λ p. dominates d p.costs m.costs) ms) ≡ true)
    s = select-mem (λ n. not (any (λ p. dominates d p.costs n.costs) ms)) ms k

    none : any (λ p. dominates d p.costs m.costs) ms ≡ false
    none = not_back (any (λ p. dominates d p.costs m.costs) ms) s.1
