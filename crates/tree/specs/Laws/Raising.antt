-- A level raised row by row: the rows passed, and what is left of the pass.
use Prim.Native.Nat.{ℕ, suc, ◌+◌, ◌-◌, ◌*◌, ◌/◌, ◌^◌, ◌≤◌, ◌<◌}
use Rattle.std.specs.Prelude.{Bool, ◌≡◌, refl, leb, length, take, set}
use Rattle.std.proofs.Math.Bool.{true, false, cond}
use mathlib.Core.List.{List, [], ◌∷◌, ◌++◌, append-nil, append_assoc}
use Rattle.std.proofs.Math.Path.{sym, ap, ap₂}
use Rattle.std.proofs.Common.{subst, ◌∙◌, mul-le-mul_right, pow-suc, add-one, le-leb, pow_mono, drop-cons, take-suc-set, drop-set-lt}
use Rattle.std.proofs.Math.Decide.{dec_lt}
use Rattle.std.proofs.Math.Nat.{sub-zero}
use native.Mathlib.Omega.{arith}
use Rattle.std.proofs.lemmas.Bool.{lt-leb}
use Rattle.std.proofs.Math.ListN.{drop, get_or}
use Rattle.std.proofs.Math.Seq.{drop-length, take-length}
use Rattle.std.proofs.lemmas.List.{set-get_or}
use Rattle.line.specs.Line.{Placed, none}
use Rattle.line.specs.Places as places
use Rattle.line.specs.Places.{move_at, height_at}
use Rattle.line.specs.Load.{starts_group, group_count, raised, raised_all}
use Rattle.promises.specs.Layout.{height_in, line_from}
use Rattle.memory.specs.Room.{Room}
use Rattle.memory.specs.Stores.{set_height}
use Rattle.memory.specs.Frame.{RowsOnly}
use Rattle.memory.specs.Laws.Frames.{frame-refl, frame-trans}
use Rattle.memory.specs.Laws.Stored.{set_height-rows}
use Rattle.memory.specs.Laws.Lines.{length-line, height_at-line, line-set_height}
use Rattle.tree.specs.Rows.{Raised, RaisedAll}

-- ---- on the line

module _ (l e : ℕ) where
  abbrev left : ℕ → ℕ → List Placed → List Placed
  left i j rs = take i rs ++ raised l e j (drop i rs)

  module _ (i j : ℕ) (rs : List Placed) (h : i < length rs) where
    -- A turn that leaves x at place i.
    left-turn : (k : ℕ) (x : Placed) → raised l e j (drop i rs) ≡ x ∷ raised l e k (drop (suc i) rs) → left (i + 1) k (set rs i x) ≡ left i j rs
    left-turn k x made =
        ap (λ (n : ℕ). left n k (set rs i x)) (add-one i)
        ∙ ap₂ (λ (a b : List Placed). a ++ raised l e k b) (take-suc-set rs i x h) (drop-set-lt (suc i) rs i x (omega arith))
        ∙ append_assoc (take i rs) (x ∷ []) (raised l e k (drop (suc i) rs))
        ∙ ap (λ (a : List Placed). take i rs ++ a) (sym made)

    -- The same, where that is what stood there.
    left-pass : (k : ℕ) → raised l e j (drop i rs) ≡ get_or rs i none ∷ raised l e k (drop (suc i) rs) → left (i + 1) k rs ≡ left i j rs
    left-pass k made = ap (left (i + 1) k) (sym (set-get_or rs i none)) ∙ left-turn k (get_or rs i none) made

    raised-step : (t s : Bool) → leb l (height_at rs i) ≡ t → starts_group e j ≡ s
        → raised l e j (drop i rs)
        ≡ cond t (record { move = move_at rs i; height = cond s (suc l) (height_at rs i) } ∷ raised l e (suc j) (drop (suc i) rs))
        (get_or rs i none ∷ raised l e j (drop (suc i) rs))
    unfolding raised move_at height_at
    raised-step t s test starts =
        let r = get_or rs i none in
        let rest = drop (suc i) rs in
        ap (raised l e j) (drop-cons rs i none h)
        ∙ ap₂ (λ (t s : Bool). cond t (record { move = r.move; height = cond s (suc l) r.height } ∷ raised l e (suc j) rest) (r ∷ raised l e j rest)) test starts

    left-low : height_at rs i < l → left (i + 1) j rs ≡ left i j rs
    left-low low = left-pass j (raised-step false (starts_group e j) (lt-leb l (height_at rs i) low) refl)

    module _ (high : l ≤ height_at rs i) where
      left-same : starts_group e j ≡ false → left (i + 1) (j + 1) rs ≡ left i j rs
      unfolding move_at height_at
      left-same starts =
          ap (λ (k : ℕ). left (i + 1) k rs) (add-one j) ∙ left-pass (suc j) (raised-step true false (le-leb l (height_at rs i) high) starts)

      left-raised : starts_group e j ≡ true → left (i + 1) (j + 1) (places.set_height i (l + 1) rs) ≡ left i j rs
      unfolding places.set_height
      left-raised starts =
          ap₂ (λ (k v : ℕ). left (i + 1) k (places.set_height i v rs)) (add-one j) (add-one l)
          ∙ left-turn (suc j) (record { move = move_at rs i; height = suc l }) (raised-step true true (le-leb l (height_at rs i) high) starts)

  left_end : (i j : ℕ) (rs : List Placed) → i ≡ length rs → left i j rs ≡ rs
  unfolding raised
  left_end i j rs end =
      ap (λ (n : ℕ). left n j rs) end
      ∙ ap₂ (λ (a b : List Placed). a ++ raised l e j b) (take-length rs) (drop-length rs)
      ∙ append-nil rs

-- ---- in the memory

-- The first i rows are raised, j of them entries of the level; finishing the others gives the whole.
pub record Raising (c n l e i j : ℕ) (m m' : List ℕ) : Type 0 where
  pub frame : RowsOnly c m m'
  pub line : (d : ℕ) → left l e i j (line_from c d n m') ≡ raised l e 0 (line_from c d n m)

pub raising-none : (c n l e : ℕ) (m : List ℕ) → Raising c n l e 0 0 m m
raising-none c n l e m = record { frame = frame-refl m; line = λ d. refl }

pub raising-at : {c n l e i j j' : ℕ} {m m' m'' : List ℕ} → j' ≡ j → m'' ≡ m' → Raising c n l e i j m m' → Raising c n l e i j' m m''
raising-at {c} {n} {l} {e} {i} {j} {j'} {m} {m'} {m''} f g made =
    subst (Raising c n l e i j' m) (sym g) (subst (λ (k : ℕ). Raising c n l e i k m m') (sym f) made)

module _ (c n l e i j : ℕ) (m m' : List ℕ) (few : n ≤ c) (made : Raising c n l e i j m m') where
  pub raising-all : i ≡ n → Raised c n l e m m'
  raising-all end =
      record { line = λ d. sym (left_end l e i j (line_from c d n m') (end ∙ sym (length-line c d n m'))) ∙ made.line d; frame = made.frame }

  module _ (h : i < n) where
    within : (d : ℕ) → i < length (line_from c d n m')
    within d = omega (arith, length-line c d n m')

    pub raising-low : height_in c m' i < l → Raising c n l e (i + 1) j m m'
    raising-low low =
        record {
          frame = made.frame;
          line = λ d. left-low l e i j (line_from c d n m') (within d) (omega (arith, height_at-line c d n m' i h)) ∙ made.line d;
        }

    module _ (high : l ≤ height_in c m' i) where
      pub raising-same : starts_group e j ≡ false → Raising c n l e (i + 1) (j + 1) m m'
      raising-same starts =
          record {
            frame = made.frame;
            line = λ d. left-same l e i j (line_from c d n m') (within d) (omega (arith, height_at-line c d n m' i h)) starts ∙ made.line d;
          }

      pub raising-more : Room c m' → starts_group e j ≡ true → Raising c n l e (i + 1) (j + 1) m (set_height c i (l + 1) m')
      raising-more room starts =
          record {
            frame = frame-trans made.frame (set_height-rows c i m' (omega arith) (l + 1));
            line = λ d.
                ap (left l e (i + 1) (j + 1)) (line-set_height c d n m' i (l + 1) room h few)
                ∙ left-raised l e i j (line_from c d n m') (within d) (omega (arith, height_at-line c d n m' i h)) starts
                ∙ made.line d;
          }

-- ---- level by level

module _ (f l e : ℕ) (rs : List Placed) where
  all-step : (t : Bool) → leb e 8 ≡ t → raised_all (suc f) l e rs ≡ elim t as (λ x. List Placed) [ false ↦ raised_all f (suc l) (group_count e) (raised l e 0 rs) | true ↦ raised l e 0 rs ]
  unfolding raised_all
  all-step t test =
      ap (λ (b : Bool). elim b as (λ x. List Placed) [ false ↦ raised_all f (suc l) (group_count e) (raised l e 0 rs) | true ↦ raised l e 0 rs ]) test

-- The levels below l are made, e entries are left on it, and making the others gives the whole.
pub record Levels (c n l e : ℕ) (m m' : List ℕ) : Type 0 where
  pub some : 0 < e
  pub left : e + l ≤ n
  pub small : e * 2 ^ l ≤ n
  pub frame : RowsOnly c m m'
  pub line : (d : ℕ) → raised_all (n - l) l e (line_from c d n m') ≡ raised_all n 0 n (line_from c d n m)

pub levels-none : (c n : ℕ) (m : List ℕ) → 0 < n → Levels c n 0 n m m
levels-none c n m some =
    record {
      some = some;
      left = omega arith;
      small = omega arith;
      frame = frame-refl m;
      line = λ d. ap (λ (f : ℕ). raised_all f 0 n (line_from c d n m)) (sub-zero n);
    }

module _ (c n l e : ℕ) (m m' m'' : List ℕ) (made : Levels c n l e m m') (next : Raised c n l e m' m'') where
  fuel : n - l ≡ suc (n - (l + 1))
  fuel = omega (arith, made.some, made.left)

  pub levels-more : 8 < e → Levels c n (l + 1) ((e + 7) / 8) m m''
  unfolding group_count
  levels-more many =
      record {
        some = omega arith;
        left = omega (arith, made.left);
        small = halves;
        frame = frame-trans made.frame next.frame;
        line = λ d.
            ap (raised_all (n - (l + 1)) (l + 1) (group_count e)) (next.line d)
            ∙ ap (λ (k : ℕ). raised_all (n - (l + 1)) k (group_count e) (raised l e 0 (line_from c d n m'))) (add-one l)
            ∙ sym (all-step (n - (l + 1)) l e (line_from c d n m') false (lt-leb e 8 many))
            ∙ ap (λ (f : ℕ). raised_all f l e (line_from c d n m')) (sym fuel)
            ∙ made.line d;
      }
    where
      half : (e + 7) / 8 * 2 ≤ e
      half = omega arith

      halves : (e + 7) / 8 * 2 ^ (l + 1) ≤ n
      halves =
          omega (arith, made.small, mul-le-mul_right (2 ^ l) half, ap (λ (k : ℕ). (e + 7) / 8 * k) (ap (λ (k : ℕ). 2 ^ k) (add-one l) ∙ pow-suc 2 l))

  pub levels-all : e ≤ 8 → RaisedAll c n m m''
  levels-all few =
      record {
        line = λ d.
            next.line d
            ∙ sym (all-step (n - (l + 1)) l e (line_from c d n m') true (le-leb e 8 few))
            ∙ ap (λ (f : ℕ). raised_all f l e (line_from c d n m')) (sym fuel)
            ∙ made.line d;
        frame = frame-trans made.frame next.frame;
      }

pub levels-few : {c n l e : ℕ} {m m' : List ℕ} → Levels c n l e m m' → n ≤ 4096 → l < 255
levels-few {n = n} {l} {e} made few = go (dec_lt l 13)
  where
    go : Dec (l < 13) → l < 255
    go (yes h) = omega arith
    go (no h) =
        let high : 2 ^ 13 ≤ 2 ^ l = pow_mono {i = 13} {j = l} (omega arith) in
        absurd (omega (arith, made.small, mul-le-mul_right (2 ^ l) made.some))
