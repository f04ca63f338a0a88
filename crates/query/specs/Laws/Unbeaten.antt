-- The moves that none beats: it is enough to hold a move against the listed ones, and of these, on chosen costs, against those
-- that are nowhere greater there.
use Prim.Native.Nat.{ℕ, ◌%◌, ◌^◌, ◌≤◌, ◌<◌}
use Rattle.std.proofs.Math.Bool.{Bool, not}
use Rattle.std.specs.Prelude.{true, ◌&&◌, ◌≡◌, leb, ltb, get_or, Option, unwrap_or, is_some, IfSome}
use Rattle.std.specs.Prelude as std
use mathlib.Core.List.{List, Memᴰ}
use Rattle.std.proofs.Math.Path.{sym, ap, subst}
use Rattle.std.proofs.Common.{◌∙◌, arith, lt-ltb, le-ltb, le-leb}
use Rattle.std.proofs.Math.Decide.{dec_lt}
use Rattle.std.proofs.lemmas.Bool.{lt-leb}
use Rattle.zorder.specs.Address.{row_costs}
use Rattle.model.specs.Basics.{any}
use Rattle.model.specs.Moves.{Move}
use Rattle.model.specs.Dominance.{nowhere_greater, somewhere_less, better, at, dominates_at}
use Rattle.model.specs.Lists.{chosen_costs}
use Rattle.model.proofs.Laws.Bool.{by_cases, both_ways, and_left, and_right, and_both, not-flip}
use Rattle.model.proofs.Laws.Basics.{each-mem, mem-select}
use Rattle.model.proofs.Laws.Chosen.{chosen-below, chosen-within}
use Rattle.line.specs.Line.{moves_in}
use Rattle.dominance.specs.Lanes.{Lanes, bound, is_chosen}
use Rattle.dominance.specs.Laws.Lanes.{places-bounds}
use Rattle.promises.specs.Layout.{number_in, costs_in, move_in, line_from}
use Rattle.promises.specs.Run.{Bytes}
use Rattle.memory.specs.Held.{SoundRows}
use Rattle.search.specs.Search.{looks, looks_at, seen, seen_at, fits, None, Some, SomeFound}
use Rattle.search.specs.Laws.Hiders.{some-any}
use Rattle.memory.specs.Tests.{any_to, is_listed}
use Rattle.memory.specs.Laws.Costs.{row-length, row-cost, words_small}
use Rattle.memory.specs.Laws.Held.{held-dimension, held-order, held-fit, held_any}
use Rattle.memory.specs.Laws.Lines.{moves_in-line}
use Rattle.memory.specs.Laws.Places.{any-tab, any_to-found, all_to-all}
use Rattle.search.specs.declared.search.Among.TheVariants as among
use Rattle.upkeep.specs.Laws.Places.{below-place}
use Rattle.query.specs.Rule.{beats}
use Rattle.query.specs.Unbeaten.{unbeaten, beats_at, listed_beats}
use Rattle.query.specs.Laws.Beats.{nowhere-each, listed-beats}
use Rattle.query.specs.declared.rule.Rule.{Rule}
use Rattle.query.specs.declared.rule.Rule.TheVariants.{Chosen}

-- ---- chosen costs

module _ (c d : ℕ) (m : List ℕ) (few : d ≤ row_costs) (b : Bytes m) (set : ℕ) (x q : List ℕ) (bounds : Lanes (bound (is_chosen (set % 2 ^ d)) x) q) where
  chosen : (i : ℕ) → i < row_costs → is_chosen (set % 2 ^ d) i ≡ true → Memᴰ i (chosen_costs d set)
  unfolding chosen_costs
  chosen i l t = subst (Memᴰ i) (chosen-within row_costs d set few) (mem-select (is_chosen (set % 2 ^ d)) (below-place row_costs i l) t)

  -- What beats x there is within the bounds.
  beats-within : (k : ℕ) → dominates_at (chosen_costs d set) (costs_in c d m k) x ≡ true → nowhere_greater (costs_in c row_costs m k) q ≡ true
  unfolding dominates_at better
  beats-within k e =
      places-bounds (is_chosen (set % 2 ^ d)) (costs_in c row_costs m k) x q bounds (row-length c row_costs m k (omega arith)) (words_small c m k b) within
    where
      s : List ℕ
      s = chosen_costs d set

      within : (i : ℕ) → i < row_costs → is_chosen (set % 2 ^ d) i ≡ true → get_or (costs_in c row_costs m k) i 0 ≤ get_or x i 0
      within i l t =
          let first = each-mem (λ j. j < d) (chosen-below d set) (chosen i l t) in
          omega (
            arith,
            row-cost c row_costs m k (omega arith) i l,
            row-cost c d m k few i first,
            each-mem (λ j. get_or (costs_in c d m k) j 0 ≤ get_or x j 0) (nowhere-each (costs_in c d m k) x s (and_left (nowhere_greater (at s (costs_in c d m k)) (at s x)) (somewhere_less (at s (costs_in c d m k)) (at s x)) e)) (chosen i l t),
          )

  pub passed-beat-not : {j r : ℕ} → None (fits among.Listed c m q) j r → None (listed_beats c d (Chosen set) m x) j r
  unfolding beats fits looks_at looks seen_at seen is_listed move_in
  passed-beat-not none k a g =
      by_cases (listed_beats c d (Chosen set) m x k)
      (λ e.
      let listed = and_left (is_listed c m k) (beats_at c d (Chosen set) m x k) e in
      let beat = and_right (is_listed c m k) (beats_at c d (Chosen set) m x k) e in
      both_ways (and_both (is_listed c m k) (nowhere_greater (costs_in c row_costs m (number_in c m k)) q) listed (beats-within (number_in c m k) beat)) (none k a g))
      (λ e. e)

-- ---- sound memory

pub unlisted-beat-not : (c d : ℕ) (rule : Rule) (m x : List ℕ) {j r : ℕ} → None (is_listed c m) j r → None (listed_beats c d rule m x) j r
unlisted-beat-not c d rule m x none k a g = ap (λ (t : Bool). t && beats_at c d rule m x k) (none k a g)

module _ {c d n : ℕ} {m : List ℕ} (s : SoundRows c d n m) (b : Bytes m) (rule : Rule) (x : List ℕ) where
  listed-enough : any_to (beats_at c d rule m x) n ≡ any_to (listed_beats c d rule m x) n
  unfolding move_in
  listed-enough =
      sym (any-tab (move_in c d m) beater n)
      ∙ ap (any beater) (sym (moves_in-line c d n m))
      ∙ listed-beats d c (held-dimension c d n m s) (moves_in (line_from c d n m)) (held-fit c d n m s b) (held-order c d n m s) rule x
      ∙ held_any c d n m s beater
    where
      beater : Move → Bool
      beater p = beats d rule p.costs x

  -- Where no listed move beats x, none does.
  pub none-beats : None (listed_beats c d rule m x) 0 n → None (beats_at c d rule m x) 0 n
  unfolding any_to
  none-beats none k a g =
      by_cases (beats_at c d rule m x k)
      (λ e. both_ways (any_to-found (beats_at c d rule m x) n k g e)
      (listed-enough ∙ ap not (all_to-all (λ j. not (listed_beats c d rule m x j)) n (λ j l. not-flip (listed_beats c d rule m x j) (none j (omega arith) l)))))
      (λ e. e)

-- ---- what was found

pub beater-tells : (c d n : ℕ) (m : List ℕ) (rule : Rule) (x : Move) {r : ℕ} → Some (beats_at c d rule m x.costs) n r → unbeaten d rule (moves_in (line_from c d n m)) x ≡ leb n r
unfolding unbeaten
beater-tells c d n m rule x {r} some =
    ap not (ap (any beater) (moves_in-line c d n m) ∙ any-tab (move_in c d m) beater n ∙ some-any (beats_at c d rule m x.costs) n r some) ∙ none-less (dec_lt r n)
  where
    beater : Move → Bool
    beater p = beats d rule p.costs x.costs

    none-less : Dec (r < n) → not (ltb r n) ≡ leb n r
    none-less (yes l) = ap not (lt-ltb r n l) ∙ sym (lt-leb n r l)
    none-less (no l) = ap not (le-ltb r n (omega arith)) ∙ sym (le-leb n r (omega arith))

-- None beats it where none was found.
pub beater-found : (c d n : ℕ) (m : List ℕ) (rule : Rule) (x : Move) {r : Option ℕ} → SomeFound (beats_at c d rule m x.costs) n r → unbeaten d rule (moves_in (line_from c d n m)) x ≡ not (is_some r)
beater-found c d n m rule x {r} f = beater-tells c d n m rule x f.some ∙ past r f.below
  where
    past : (r : Option ℕ) → IfSome r (λ j. j < n) → leb n (unwrap_or r n) ≡ not (is_some r)
    past std.None h = le-leb n n (omega arith)
    past (std.Some j) h = lt-leb n j h
