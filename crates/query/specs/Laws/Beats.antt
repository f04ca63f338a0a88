-- What is nowhere greater than a move beats whatever that beats: so what some move of a board beats, a listed one does.
use Rattle.std.specs.Prelude.{ℕ, ◌≤◌, ◌<◌, Bool, true, ◌≡◌, ltb}
use Rattle.std.proofs.Math.Bool.{not}
use mathlib.Core.List.{List, [], ◌∷◌}
use Rattle.std.proofs.Math.Path.{refl}
use Rattle.std.proofs.Math.Nat.{le_trans}
use Rattle.std.proofs.Common.{lt_of_le_of_lt, ltb-true, ltb-false, lt-ltb, le-ltb}
use Rattle.std.proofs.Math.ListN.{get_or}
use Rattle.zorder.specs.Address.{row_costs}
use Rattle.model.specs.Basics.{Each, any, parts, numbers_from}
use Rattle.model.specs.Moves.{Move, ordered}
use Rattle.model.specs.Dominance.{less, nowhere_greater, somewhere_less, better, at, dominates_at, dominates_on}
use Rattle.model.specs.Lists.{hidden, skyline, chosen_costs}
use Rattle.model.specs.Sound.{Fit}
use Rattle.model.proofs.Laws.Bool.{by_cases, same_test, and_left, and_right, and_both, not-flip, not_back, or_cases, or_left, or_right}
use Rattle.model.proofs.Laws.Basics.{each-mem, mem-each, parts-each, any-mem, any-mono, any-witness}
use Rattle.model.proofs.Laws.Chosen.{chosen-below}
use Rattle.model.proofs.Laws.Dominance.{row-lengths}
use Rattle.model.proofs.Laws.Hiding.{hides-nowhere-greater}
use Rattle.model.proofs.Laws.Range.{each-place}
use Rattle.model.proofs.Laws.Skyline.{skyline-mem, mem-skyline, skyline-hider}
use Rattle.query.specs.Rule.{beats}
use Rattle.query.specs.declared.rule.Rule.{Rule}
use Rattle.query.specs.declared.rule.Rule.TheVariants.{OnK, Chosen}

-- ---- the costs at some places

module _ (p q : List ℕ) where
  abbrev pub WithinOn : List ℕ → Type 0
  WithinOn s = Each (λ i. get_or p i 0 ≤ get_or q i 0) s

  pub nowhere-each : (s : List ℕ) → nowhere_greater (at s p) (at s q) ≡ true → WithinOn s
  unfolding at nowhere_greater less
  nowhere-each [] e = tt
  nowhere-each (i ∷ s) e =
      let here = not (ltb (get_or q i 0) (get_or p i 0)) in
      let rest = nowhere_greater (at s p) (at s q) in
      (ltb-false (get_or q i 0) (get_or p i 0) (not_back (ltb (get_or q i 0) (get_or p i 0)) (and_left here rest e)), nowhere-each s (and_right here rest e))

  each-nowhere : (s : List ℕ) → WithinOn s → nowhere_greater (at s p) (at s q) ≡ true
  unfolding at nowhere_greater less
  each-nowhere [] es = refl
  each-nowhere (i ∷ s) es =
      and_both (not (ltb (get_or q i 0) (get_or p i 0))) (nowhere_greater (at s p) (at s q))
      (not-flip (ltb (get_or q i 0) (get_or p i 0)) (le-ltb (get_or q i 0) (get_or p i 0) es.0)) (each-nowhere s es.1)

-- ---- a row z that is nowhere greater than y on the first d costs

module _ (d : ℕ) (z y x : List ℕ) (below : (i : ℕ) → i < d → get_or z i 0 ≤ get_or y i 0) where
  somewhere-below : (s : List ℕ) → Each (λ i. i < d) s → somewhere_less (at s y) (at s x) ≡ true → somewhere_less (at s z) (at s x) ≡ true
  unfolding at somewhere_less less
  somewhere-below [] es e = e
  somewhere-below (i ∷ s) es e =
      or_cases (ltb (get_or y i 0) (get_or x i 0)) (somewhere_less (at s y) (at s x)) e
      (λ h. or_left (ltb (get_or z i 0) (get_or x i 0)) (somewhere_less (at s z) (at s x))
      (lt-ltb (get_or z i 0) (get_or x i 0) (lt_of_le_of_lt (below i es.0) (ltb-true (get_or y i 0) (get_or x i 0) h))))
      (λ h. or_right (ltb (get_or z i 0) (get_or x i 0)) (somewhere_less (at s z) (at s x)) (somewhere-below s es.1 h))

  at-below : (s : List ℕ) → Each (λ i. i < d) s → dominates_at s y x ≡ true → dominates_at s z x ≡ true
  unfolding dominates_at better
  at-below s es e =
      let nowhere = nowhere_greater (at s y) (at s x) in
      let somewhere = somewhere_less (at s y) (at s x) in
      and_both (nowhere_greater (at s z) (at s x)) (somewhere_less (at s z) (at s x))
      (each-nowhere z x s (mem-each _ s (λ i k. le_trans (below i (each-mem (λ i. i < d) es k))
      (each-mem (λ i. get_or y i 0 ≤ get_or x i 0) (nowhere-each y x s (and_left nowhere somewhere e)) k))))
      (somewhere-below s es (and_right nowhere somewhere e))

  pub beats-below : (rule : Rule) → beats d rule y x ≡ true → beats d rule z x ≡ true
  unfolding beats dominates_on
  beats-below (OnK k) =
      any-mono (λ s. dominates_at s y x) (λ s. dominates_at s z x) (parts k (numbers_from 0 d))
      (λ s j. at-below s (each-mem (λ s. Each (λ i. i < d) s) (parts-each (λ i. i < d) k (numbers_from 0 d) (each-place (λ i. i < d) d (λ i l. l))) j))
  beats-below (Chosen set) = at-below (chosen_costs d set) (chosen-below d set)

-- ---- a board

module _ (d c : ℕ) (l : d ≤ row_costs) (ms : List Move) (es : Each (Fit c d) ms) (r : ordered d ms ≡ true) (rule : Rule) (x : List ℕ) where
  abbrev beater : Move → Bool
  beater p = beats d rule p.costs x

  pub listed-beats : any beater ms ≡ any beater (skyline d ms)
  listed-beats =
      same_test (any beater ms) (any beater (skyline d ms))
      (λ e.
      let w = any-witness beater ms e in
      let fit = each-mem (Fit c d) es w.1 in
      by_cases (hidden d ms w.0)
      (λ h.
      let k = skyline-hider d c l ms es r w.0 fit h in
      let same = row-lengths (each-mem (Fit c d) es (skyline-mem d ms k.listed).0).costs fit.costs in
      any-mem beater k.listed
      (beats-below d k.hider.costs w.0.costs x (hides-nowhere-greater d k.hider w.0 same k.hiding) rule w.2))
      (λ h. any-mem beater (mem-skyline d w.1 h) w.2))
      (λ e. let w = any-witness beater (skyline d ms) e in any-mem beater (skyline-mem d ms w.1).0 w.2)
