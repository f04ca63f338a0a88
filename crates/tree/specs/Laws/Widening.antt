-- A turn of the loop that widens the range.
use Prim.Native.Nat.{ℕ, zero, suc, ◌+◌, ◌-◌, ◌≤◌, ◌<◌}
use Rattle.std.specs.Prelude.{List, ◌≡◌}
use Rattle.std.proofs.Common.{sym, ap₂, ◌∙◌, add-one}
use Rattle.std.proofs.Math.Path.{ap}
use Rattle.std.proofs.Math.Decide.{dec_lt}
use native.Mathlib.Omega.{arith}
use Rattle.std.proofs.Math.ListN.{get_or}
use Rattle.line.specs.Places.{start_among, end_among, entries_among}
use Rattle.line.specs.Withdraw.{Range, widened_among}
use Rattle.line.specs.Laws.Widened.{stops-at-root, stops, grows}
use Rattle.promises.specs.Layout.{height_in, heights_from}
use Rattle.memory.specs.Laws.Lines.{get_or-heights_from}
use Rattle.nodes.specs.Places.{NodeStart, NodeEnd, Entries}

-- ---- the range

module _ (ks : List ℕ) where
  -- The code counts levels from 1.
  abbrev pub widening : ℕ → Range → Range
  widening l g = widened_among (get_or ks 0 0 + 1 - l) (l - 1) g ks

  turns : (k : ℕ) (g : Range) → suc k ≤ get_or ks 0 0 → widening (suc k) g ≡ widened_among (suc (get_or ks 0 0 - suc k)) k g ks
  turns k g h =
      let fuel : get_or ks 0 0 + 1 - suc k ≡ suc (get_or ks 0 0 - suc k) = omega arith in
      let level : suc k - 1 ≡ k = omega arith in
      ap₂ (λ (f i : ℕ). widened_among f i g ks) fuel level

  module _ (g : Range) where
    pub widening-first : widening 1 g ≡ widened_among (get_or ks 0 0) 0 g ks
    widening-first = let fuel : get_or ks 0 0 + 1 - 1 ≡ get_or ks 0 0 = omega arith in ap (λ (f : ℕ). widened_among f 0 g ks) fuel

    pub widening-end : (l : ℕ) → 0 < l → get_or ks 0 0 ≤ l → l ≤ get_or ks 0 0 + 1 → widening l g ≡ g
    unfolding widened_among
    widening-end zero pos h b = absurd (omega arith)
    widening-end (suc k) pos h b = go (dec_lt k (get_or ks 0 0))
      where
        go : Dec (k < get_or ks 0 0) → widening (suc k) g ≡ g
        go (yes j) = turns k g (omega arith) ∙ stops-at-root (get_or ks 0 0 - suc k) k g ks (omega arith)
        go (no j) = let none : get_or ks 0 0 + 1 - suc k ≡ 0 = omega arith in ap (λ (f : ℕ). widened_among f (suc k - 1) g ks) none

    abbrev count : ℕ → ℕ
    count l = entries_among (l - 1) (start_among l g.from ks) (end_among l g.from ks) ks

    level-entries : (k : ℕ) → count (suc k) ≡ entries_among k (start_among (suc k) g.from ks) (end_among (suc k) g.from ks) ks
    level-entries k =
        let level : suc k - 1 ≡ k = omega arith in
        ap (λ (i : ℕ). entries_among i (start_among (suc k) g.from ks) (end_among (suc k) g.from ks) ks) level

    pub widening-stop : (l : ℕ) → 0 < l → l < get_or ks 0 0 → 3 < count l → widening l g ≡ g
    widening-stop zero pos h many = absurd (omega arith)
    widening-stop (suc k) pos h many =
        turns k g (omega arith) ∙ stops (get_or ks 0 0 - suc k) k g ks (omega (arith, level-entries k))

    pub widening-on : (l : ℕ) → 0 < l → l < get_or ks 0 0 → count l ≤ 3
        → widening (l + 1) (record { from = start_among l g.from ks; to = end_among l g.from ks }) ≡ widening l g
    widening-on zero pos h few = absurd (omega arith)
    widening-on (suc k) pos h few =
        let fuel : get_or ks 0 0 + 1 - (suc k + 1) ≡ get_or ks 0 0 - suc k = omega arith in
        let level : suc k + 1 - 1 ≡ suc k = omega arith in
        ap₂ (λ (f i : ℕ). widened_among f i (record { from = start_among (suc k) g.from ks; to = end_among (suc k) g.from ks }) ks) fuel level
        ∙ sym (grows (get_or ks 0 0 - suc k) k g ks h (omega (arith, level-entries k)))
        ∙ sym (turns k g (omega arith))

abbrev wide_range : ℕ → ℕ → ℕ → List ℕ → Range
wide_range c n p m = widened_among (height_in c m 0) 0 (record { from = p; to = suc p }) (heights_from c n m)

-- What is left of the widening from level l on gives the whole.
pub record Widens (c n p l from to : ℕ) (m : List ℕ) : Type 0 where
  pub level : 0 < l
  pub low : l ≤ height_in c m 0 + 1
  pub order : from < to
  pub within : to ≤ n
  pub is : widening (heights_from c n m) l (record { from = from; to = to }) ≡ wide_range c n p m

module _ {c n p : ℕ} {m : List ℕ} (place : p < n) where
  pub widens-first : Widens c n p 1 p (p + 1) m
  widens-first =
      record {
        level = omega arith;
        low = omega arith;
        order = omega arith;
        within = omega arith;
        is =
            ap (λ (e : ℕ). widening (heights_from c n m) 1 (record { from = p; to = e })) (add-one p)
            ∙ widening-first (heights_from c n m) (record { from = p; to = suc p })
            ∙ ap (λ (f : ℕ). widened_among f 0 (record { from = p; to = suc p }) (heights_from c n m)) (get_or-heights_from c n m 0 (omega arith));
      }

  module _ {l from to : ℕ} (w : Widens c n p l from to m) where
    abbrev here : Range
    here = record { from = from; to = to }

    pub widens-end : height_in c m 0 ≤ l → here ≡ wide_range c n p m
    widens-end h = sym (widening-end (heights_from c n m) here l w.level (omega (arith, get_or-heights_from c n m 0 (omega arith))) (omega (arith, get_or-heights_from c n m 0 (omega arith), w.low))) ∙ w.is

    module _ {s e k : ℕ} (h : l < height_in c m 0) (start : NodeStart c l from m s) (end : NodeEnd c n l from m e) (count : Entries c (l - 1) s e m k) where
      start_is : s ≡ start_among l from (heights_from c n m)
      start_is = start.is n (omega (arith, w.order, w.within))

      node-entries : k ≡ entries_among (l - 1) (start_among l from (heights_from c n m)) (end_among l from (heights_from c n m)) (heights_from c n m)
      node-entries = count.is n end.within ∙ ap₂ (λ (i j : ℕ). entries_among (l - 1) i j (heights_from c n m)) start_is end.is

      pub widens-stop : 3 < k → here ≡ wide_range c n p m
      widens-stop many = sym (widening-stop (heights_from c n m) here l w.level (omega (arith, get_or-heights_from c n m 0 (omega arith))) (omega (arith, node-entries))) ∙ w.is

      pub widens-more : k ≤ 3 → Widens c n p (l + 1) s e m
      widens-more few =
          record {
            level = omega arith;
            low = omega arith;
            order = omega (arith, start.within, end.after);
            within = end.within;
            is =
                ap₂ (λ (i j : ℕ). widening (heights_from c n m) (l + 1) (record { from = i; to = j })) start_is end.is
                ∙ widening-on (heights_from c n m) here l w.level (omega (arith, get_or-heights_from c n m 0 (omega arith))) (omega (arith, node-entries))
                ∙ w.is;
          }
