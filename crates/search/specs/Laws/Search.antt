-- The search over places: what a turn of each loop keeps, and that a corner somewhere greater than what is looked for passes its
-- run by.
use Rattle.std.specs.Prelude.{ℕ, ◌+◌, ◌-◌, ◌*◌, ◌/◌, ◌≤◌, ◌<◌, Bool, true, false, not, ◌&&◌, List, [], ◌≡◌, length, get_or, set, take, Option, unwrap_or, IfSome}
use Rattle.std.specs.Prelude as std
use Rattle.std.proofs.Math.Bool.{and-true}
use Rattle.std.proofs.Common.{sym, ap₂, ◌∙◌, subst, arith, length-set, length-take, get_or-set_same, get_or-set_other, get_or-take, take_all}
use Rattle.std.proofs.Math.Path.{ap}
use Rattle.std.proofs.Math.Decide.{ℕ_discrete, dec_lt}
use Rattle.std.proofs.Math.Nat.{min-le_left}
use Rattle.std.proofs.Math.ListN.{get_or-eq_default}
use Rattle.zorder.specs.Address.{row_costs}
use Rattle.model.specs.Dominance.{nowhere_greater, somewhere_less}
use Rattle.model.proofs.Laws.Bool.{by_cases, both_ways, and-false-right}
use Rattle.model.proofs.Laws.Dominance.{nowhere-greater-places, somewhere-less-place}
use Rattle.dominance.specs.Lanes.{Lanes, bound, is_first, lesser}
use Rattle.dominance.specs.Laws.Lanes.{lesser-below}
use Rattle.dominance.specs.Laws.Sums.{nowhere-somewhere}
use Rattle.promises.specs.Layout.{number_in, costs_in, tab}
use Rattle.promises.proofs.Laws.Tab.{length-tab, get_or-tab, tab-of}
use Rattle.memory.specs.Laws.Costs.{row-length}
use Rattle.search.specs.Search.{looks_at, seen, seen_at, bounds_at, fits, None, First, Some, FirstFound, SomeFound, Below, Under, Corners, CornerWith}
use Rattle.search.specs.declared.search.Index.{Index}
use Rattle.search.specs.declared.search.Among.{Among}
use Rattle.search.specs.declared.search.Among.TheVariants.{All, Listed, Hidden, InBlocks}

-- ---- rows

pub lanes-tab : {f : ℕ → ℕ} {row : List ℕ} → Lanes f row → row ≡ tab f row_costs
lanes-tab {f} {row} h = tab-of f 0 row_costs row h.wide h.holds

pub length_seen : (a : Among) (costs : List ℕ) → length costs ≡ row_costs → length (seen a costs) ≡ row_costs
unfolding seen
length_seen All costs e = e
length_seen Listed costs e = e
length_seen Hidden costs e = length-tab (λ i. 65535 - get_or costs i 0) row_costs
length_seen (InBlocks blocks) costs e = e

pub length-seen-at : (a : Among) (c : ℕ) (m : List ℕ) (i : ℕ) → length (seen_at a c m i) ≡ row_costs
unfolding seen_at
length-seen-at a c m i = length_seen a (costs_in c row_costs m (number_in c m i)) (row-length c row_costs m (number_in c m i) (omega arith))

pub bounds-lanes : (c d : ℕ) (m : List ℕ) (j : ℕ) → Lanes (bound (is_first d) (seen_at Listed c m j)) (bounds_at c d m j)
unfolding bounds_at
bounds-lanes c d m j = record {
  wide = length-tab (bound (is_first d) (seen_at Listed c m j)) row_costs;
  holds = λ i l. get_or-tab (bound (is_first d) (seen_at Listed c m j)) 0 row_costs i l;
}

-- "Somewhere greater" as the code asks it.
pub whole_row : (p q : List ℕ) → length p ≡ row_costs → length q ≡ row_costs → not (somewhere_less (take row_costs q) (take row_costs p)) ≡ nowhere_greater p q
whole_row p q e f =
    ap₂ (λ (x y : List ℕ). not (somewhere_less x y)) (take_all row_costs q (omega arith)) (take_all row_costs p (omega arith)) ∙ sym (nowhere-somewhere p q)

-- What a corner exceeds, every row that it lies below exceeds; and so it does what is nowhere greater than that.
pub corner-exceeds : (low high p q : List ℕ) → length p ≡ row_costs → length q ≡ row_costs → Below low p → Under q high
    → somewhere_less (take row_costs high) (take row_costs low) ≡ true → nowhere_greater p q ≡ false
corner-exceeds low high p q e f below under h = by_cases (nowhere_greater p q) (λ g. absurd (against g)) (λ g. g)
  where
    at : (i : ℕ) × (i < length (take row_costs high)) × (get_or (take row_costs high) i 0 < get_or (take row_costs low) i 0)
    at = somewhere-less-place (take row_costs high) (take row_costs low) h

    i : ℕ
    i = at.0

    few : i < row_costs
    few = omega (arith, at.1, length-take row_costs high, min-le_left row_costs (length high))

    against : nowhere_greater p q ≡ true → ⊥
    against g =
        omega (arith, nowhere-greater-places p q (e ∙ sym f) g i, at.2, get_or-take row_costs high i 0 few, get_or-take row_costs low i 0 few, below i, under i few)

-- ---- no place, the first, some place

pub none-empty : (test : ℕ → Bool) (i : ℕ) → None test i i
none-empty test i k l g = absurd (omega arith)

pub none_more : (test : ℕ → Bool) (i j : ℕ) → None test i j → test j ≡ false → None test i (j + 1)
none_more test i j h e k l g = go (ℕ_discrete k j)
  where
    go : Dec (k ≡ j) → test k ≡ false
    go (yes same) = ap test same ∙ e
    go (no other) = h k l (omega arith)

pub none-join : (test : ℕ → Bool) (i j n : ℕ) → None test i j → None test j n → None test i n
none-join test i j n h g k l r = go (dec_lt k j)
  where
    go : Dec (k < j) → test k ≡ false
    go (yes before) = h k l before
    go (no after) = g k (omega arith) r

-- The place that is tried first.
pub tried-some : {test : ℕ → Bool} {n r : ℕ} → r < n → test r ≡ true → Some test n r
tried-some l e = record { to = omega arith; found = λ _. e; none = λ g. absurd (omega arith) }

pub first_some : {test : ℕ → Bool} {n r : ℕ} → First test 0 n r → Some test n r
first_some f = record { to = f.to; found = f.found; none = λ l k a g. f.passed k a (omega arith) }

pub tried-found : {test : ℕ → Bool} {n r : ℕ} → r < n → test r ≡ true → SomeFound test n (std.Some r)
tried-found l e = record { some = tried-some l e; below = l }

pub first-found : {test : ℕ → Bool} {n : ℕ} {r : Option ℕ} → FirstFound test 0 n r → SomeFound test n r
first-found f = record { some = first_some f.first; below = f.below }

-- What holds of the place found, or of the end where there is none.
module _ (n : ℕ) {r : Option ℕ} where
  pub found-at : (P : ℕ → Type 0) {j : ℕ} → r ≡ std.Some j → P (unwrap_or r n) → P j
  found-at P e h = subst (λ (o : Option ℕ). P (unwrap_or o n)) e h

  pub found-none : (P : ℕ → Type 0) → r ≡ std.None → P (unwrap_or r n) → P n
  found-none P e h = subst (λ (o : Option ℕ). P (unwrap_or o n)) e h

  pub found-below : {j : ℕ} → r ≡ std.Some j → IfSome r (λ k. k < n) → j < n
  found-below e h = subst (λ (o : Option ℕ). IfSome o (λ k. k < n)) e h

-- A place found is the first, and none found is the end.
module _ {test : ℕ → Bool} {i n : ℕ} {r : Option ℕ} where
  pub first-at : {j : ℕ} → FirstFound test i n r → r ≡ std.Some j → First test i n j
  first-at f e = found-at n (First test i n) e f.first

  pub first-end : FirstFound test i n r → r ≡ std.None → First test i n n
  first-end f e = found-none n (First test i n) e f.first

-- ---- what fits

module _ (a : Among) (c : ℕ) (m q : List ℕ) (i : ℕ) where
  pub fits-unlooked : looks_at a c m i ≡ false → fits a c m q i ≡ false
  unfolding fits
  fits-unlooked e = ap (λ (b : Bool). b && nowhere_greater (seen_at a c m i) q) e

  pub fits-within : nowhere_greater (seen_at a c m i) q ≡ true → fits a c m q i ≡ looks_at a c m i
  unfolding fits
  fits-within e = ap (λ (b : Bool). looks_at a c m i && b) e ∙ and-true (looks_at a c m i)

  pub fits-exceeding : nowhere_greater (seen_at a c m i) q ≡ false → fits a c m q i ≡ false
  unfolding fits
  fits-exceeding = and-false-right (looks_at a c m i) (nowhere_greater (seen_at a c m i) q)

-- ---- a row for each run of 64 places

-- The row of i's run becomes r: what held of the rows before, and of r from place i on, holds of all rows up to e.
pub runs-more : (P : ℕ → List ℕ → Type 0) (i e : ℕ) (rows : List (List ℕ)) (r : List ℕ) → length rows ≡ 64 → i / 64 < 64 → e ≤ 64 * (i / 64) + 64
    → ((k : ℕ) → k < i → P k (get_or rows (k / 64) [])) → ((k : ℕ) → i ≤ k → k < e → P k r) → ((k : ℕ) → P k (get_or rows (i / 64) []) → P k r)
    → (k : ℕ) → k < e → P k (get_or (set rows (i / 64) r) (k / 64) [])
runs-more P i e rows r runs small end before new old k l = go (dec_lt k i) (ℕ_discrete (k / 64) (i / 64))
  where
    here : k / 64 ≡ i / 64 → get_or (set rows (i / 64) r) (k / 64) [] ≡ r
    here same = ap (λ (j : ℕ). get_or (set rows (i / 64) r) j []) same ∙ get_or-set_same rows (i / 64) r [] (omega arith)

    go : Dec (k < i) → Dec (k / 64 ≡ i / 64) → P k (get_or (set rows (i / 64) r) (k / 64) [])
    go (no later) _ = subst (P k) (sym (here (omega arith))) (new k (omega arith) l)
    go (yes passed) (yes run) = subst (P k) (sym (here run)) (old k (subst (λ (n : ℕ). P k (get_or rows n [])) run (before k passed)))
    go (yes passed) (no run) = subst (P k) (sym (get_or-set_other rows (i / 64) (k / 64) r [] run)) (before k passed)

-- ---- corners

module _ {a : Among} {c : ℕ} {m : List ℕ} where
  pub corners-none : (corners : List (List ℕ)) → length corners ≡ 64 → Corners a c m 0 corners
  corners-none corners e = record { runs = e; below = λ i l. absurd (omega arith) }

  -- Corners of more places serve a search among fewer.
  pub corners-fewer : {n i : ℕ} {corners : List (List ℕ)} → i ≤ n → Corners a c m n corners → Corners a c m i corners
  corners-fewer few h = record { runs = h.runs; below = λ k l. h.below k (omega arith) }

  -- A place that the search doesn't look at changes none.
  pub corners-unlooked : (i : ℕ) (corners : List (List ℕ)) → looks_at a c m i ≡ false → Corners a c m i corners → Corners a c m (i + 1) corners
  corners-unlooked i corners e h = record { runs = h.runs; below = λ k l t. go k l t (ℕ_discrete k i) }
    where
      go : (k : ℕ) → k < i + 1 → looks_at a c m k ≡ true → Dec (k ≡ i) → Below (get_or corners (k / 64) []) (seen_at a c m k)
      go k l t (yes same) = both_ways t (ap (looks_at a c m) same ∙ e)
      go k l t (no other) = h.below k (omega arith) t

  -- The corner of i's run becomes r, with the moves from place i up to place e: a turn of every loop that keeps corners.
  pub corners-more : (i e : ℕ) (corners : List (List ℕ)) (r : List ℕ) → i / 64 < 64 → e ≤ 64 * (i / 64) + 64 → Corners a c m i corners
      → CornerWith a c m i e (get_or corners (i / 64) []) r → Corners a c m e (set corners (i / 64) r)
  corners-more i e corners r small end h w = record {
    runs = length-set corners (i / 64) r ∙ h.runs;
    below = runs-more (λ k y. looks_at a c m k ≡ true → Below y (seen_at a c m k)) i e corners r h.runs small end h.below w.new
        (λ k g t j. omega (arith, w.old j, g t j));
  }

module _ {a : Among} {c : ℕ} {m : List ℕ} where
  pub corner-none : (i : ℕ) (low : List ℕ) → CornerWith a c m i i low low
  corner-none i low = record { old = λ k. omega arith; new = λ k l g. absurd (omega arith) }

  pub corner-join : (i j e : ℕ) (low p r : List ℕ) → CornerWith a c m i j low p → CornerWith a c m j e p r → CornerWith a c m i e low r
  corner-join i j e low p r v w = record { old = λ k. omega (arith, v.old k, w.old k); new = λ k l g t. go k l g t (dec_lt k j) }
    where
      go : (k : ℕ) → i ≤ k → k < e → looks_at a c m k ≡ true → Dec (k < j) → Below r (seen_at a c m k)
      go k l g t (yes before) = λ n. omega (arith, w.old n, v.new k l before t n)
      go k l g t (no after) = w.new k (omega arith) g t

module _ (a : Among) (c : ℕ) (m : List ℕ) (i : ℕ) (low : List ℕ) where
  -- One place.
  corner-at : (r : List ℕ) → Below r low → (looks_at a c m i ≡ true → Below r (seen_at a c m i)) → CornerWith a c m i (i + 1) low r
  corner-at r old new = record { old = old; new = λ k l g. at k (omega arith) }
    where
      at : (k : ℕ) → k ≡ i → looks_at a c m k ≡ true → Below r (seen_at a c m k)
      at k e t = subst (λ (n : ℕ). Below r (seen_at a c m n)) (sym e) (new (ap (looks_at a c m) (sym e) ∙ t))

  pub corner-same : looks_at a c m i ≡ false → CornerWith a c m i (i + 1) low low
  corner-same e = corner-at low (λ k. omega arith) (λ t. both_ways t e)

  pub corner-least : (r : List ℕ) → Lanes (lesser low (seen_at a c m i)) r → CornerWith a c m i (i + 1) low r
  corner-least r h = corner-at r (λ k. (below k (dec_lt k row_costs)).0) (λ t k. (below k (dec_lt k row_costs)).1)
    where
      below : (k : ℕ) → Dec (k < row_costs) → (get_or r k 0 ≤ get_or low k 0) × (get_or r k 0 ≤ get_or (seen_at a c m i) k 0)
      below k (yes l) = (omega (arith, h.holds k l, lesser-below low (seen_at a c m i) k), omega (arith, h.holds k l, lesser-below low (seen_at a c m i) k))
      below k (no l) =
          let past : get_or r k 0 ≡ 0 = get_or-eq_default r 0 {n = k} (omega (arith, h.wide)) in
          (omega arith, omega arith)

-- A run whose corner exceeds q has nothing that fits.
pub run-passed : (a : Among) (c : ℕ) (m q : List ℕ) (n f e : ℕ) (corners : List (List ℕ)) → Corners a c m n corners → length q ≡ row_costs
    → e ≤ 64 * (f / 64) + 64 → e ≤ n
    → somewhere_less (take row_costs q) (take row_costs (get_or corners (f / 64) [])) ≡ true → None (fits a c m q) f e
run-passed a c m q n f e corners h wide end room over k l g =
    by_cases (looks_at a c m k)
    (λ t. fits-exceeding a c m q k (corner-exceeds (get_or corners (f / 64) []) q (seen_at a c m k) q (length-seen-at a c m k) wide
    (subst (λ (r : ℕ). Below (get_or corners r []) (seen_at a c m k)) same (h.below k (omega arith) t)) (λ i l. omega arith) over))
    (fits-unlooked a c m q k)
  where
    same : k / 64 ≡ f / 64
    same = omega arith

-- What a search among moves of a kind finds, by the kind's other name.
pub first-among : {a a' : Among} (c : ℕ) (m q : List ℕ) {i n : ℕ} {r : Option ℕ} → a ≡ a' → FirstFound (fits a c m q) i n r → FirstFound (fits a' c m q) i n r
first-among c m q {i} {n} {r} e f = subst (λ (b : Among). FirstFound (fits b c m q) i n r) e f

-- The corners of an index are those of its kind's other name, up to any place.
pub index-corners : {a : Among} (x : Index) {i : ℕ} → x.among ≡ a → i ≤ x.board.head.count → Corners a x.board.head.size x.board.bytes.now i x.corners
index-corners x e few =
    corners-fewer few (subst (λ (k : Among). Corners k x.board.head.size x.board.bytes.now x.board.head.count x.corners) e x.indexed)
