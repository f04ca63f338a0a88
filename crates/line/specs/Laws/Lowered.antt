-- An upper root left with one child gives way to it: in the line the first row loses a level.
use Rattle.std.specs.Prelude.{ℕ, zero, suc, ◌-◌, ◌≤◌, ◌<◌, Bool, ◌≡◌, ltb, length, take}
use Rattle.std.proofs.Math.Bool.{true, false}
use mathlib.Core.List.{List, [], ◌∷◌, flat_map, append-nil}
use Rattle.std.proofs.Math.Path.{refl, ap, ap₂}
use Rattle.std.proofs.Common.{◌∙◌, arith, lt-ltb, le-ltb}
use Rattle.std.proofs.Math.Nat.{sub-zero}
use Rattle.std.proofs.Math.Seq.{take-length}
use Rattle.model.specs.Basics.{Each, count}
use Rattle.model.specs.Tree.{Entry}
use Rattle.model.specs.Withdrawing.{settled}
use Rattle.model.proofs.Laws.Tree.{Filled, filled-full}
use Rattle.line.specs.Line.{Placed, line_at, line_of}
use Rattle.line.specs.Places.{height_at, entries, set_height}
use Rattle.line.specs.Withdraw.{lowered}
use Rattle.line.specs.Laws.Places.{at_least, entries-rows}
use Rattle.line.specs.Laws.Line.{Whole, filled-whole}
use Rattle.line.specs.Laws.Entries.{count_entries, set_first}
use Rattle.line.specs.Laws.Cascade.{filled-each}
use Rattle.line.specs.Laws.Rows.{line-height}

-- ---- one turn

module _ (f : ℕ) (rs : List Placed) where
  abbrev pub children : ℕ
  children = entries (height_at rs 0 - 1) 0 (length rs) rs

  abbrev pub next : List Placed
  next = lowered f (set_height 0 (height_at rs 0 - 1) rs)

  pub stays-low : height_at rs 0 ≤ 1 → lowered (suc f) rs ≡ rs
  unfolding lowered
  stays-low l =
      ap (λ (b : Bool). elim b [ true ↦ elim (ltb 1 children) [ true ↦ rs | false ↦ next ] | false ↦ rs ]) (le-ltb 1 (height_at rs 0) l)

  pub stays_wide : 1 < children → lowered (suc f) rs ≡ rs
  unfolding lowered
  stays_wide c =
      ap (λ (b : Bool). elim (ltb 1 (height_at rs 0)) [ true ↦ elim b [ true ↦ rs | false ↦ next ] | false ↦ rs ]) (lt-ltb 1 children c)
      ∙ either (ltb 1 (height_at rs 0))
    where
      either : (b : Bool) → elim b as (λ x. List Placed) [ true ↦ rs | false ↦ rs ] ≡ rs
      either true = refl
      either false = refl

  pub gives-way : 1 < height_at rs 0 → children ≤ 1 → lowered (suc f) rs ≡ next
  unfolding lowered
  gives-way l c =
      ap₂ (λ (a b : Bool). elim a [ true ↦ elim b [ true ↦ rs | false ↦ next ] | false ↦ rs ]) (lt-ltb 1 (height_at rs 0) l) (le-ltb 1 children c)

-- ---- a root

module _ (h : ℕ) (es : List (Entry h)) (w : Whole (suc h) es) where
  abbrev rows : List Placed
  rows = line_at (suc h) (suc h) es

  level-down : height_at rows 0 - 1 ≡ h
  level-down = omega (arith, line-height (suc h) (suc h) es w)

  root-children : entries (height_at rows 0 - 1) 0 (length rows) rows ≡ length es
  root-children =
      ap (λ (j : ℕ). entries j 0 (length rows) rows) level-down
      ∙ entries-rows h 0 (length rows) rows
      ∙ ap (λ (j : ℕ). count (at_least h) (take j rows)) (sub-zero (length rows))
      ∙ ap (count (at_least h)) (take-length rows)
      ∙ count_entries h (suc h) es w.1 (omega arith)

only_child : (h j k : ℕ) (c : Entry h) → Whole h c → set_height 0 j (line_at (suc h) k (c ∷ [])) ≡ line_at h j c
unfolding line_at flat_map
only_child h j k c w = set_first h j k c [] w ∙ append-nil (line_at h j c)

no_rows : (h k f : ℕ) → lowered (suc f) (line_at (suc h) k []) ≡ []
unfolding line_at height_at
no_rows h k f = stays-low f [] (omega arith)

pub lowered-settled : (h : ℕ) (es : List (Entry h)) (f : ℕ) → Each (Filled h) es → h < f
    → lowered f (line_at (suc h) (suc h) es) ≡ line_of (settled h es)
unfolding settled line_of
lowered-settled h es zero a l = absurd (omega arith)
lowered-settled zero [] (suc f) a l = no_rows 0 1 f
lowered-settled zero (m ∷ ms) (suc f) a l =
    stays-low f (line_at 1 1 (m ∷ ms)) (omega (arith, line-height 1 1 (m ∷ ms) (omega arith, filled-each 0 (m ∷ ms) a)))
lowered-settled (suc h) [] (suc f) a l = no_rows (suc h) (suc (suc h)) f
lowered-settled (suc h) (c ∷ []) (suc f) a l =
    let k = suc (suc h) in
    let w = filled-whole (suc h) c a.0 in
    let v : Whole k (c ∷ []) = (omega arith, (w, tt)) in
    gives-way f (line_at k k (c ∷ [])) (omega (arith, line-height k k (c ∷ []) v)) (omega (arith, root-children (suc h) (c ∷ []) v))
    ∙ ap (lowered f) (ap (λ (j : ℕ). set_height 0 j (line_at k k (c ∷ []))) (level-down (suc h) (c ∷ []) v) ∙ only_child (suc h) (suc h) k c w)
    ∙ lowered-settled h c f (filled-full h c a.0).under (omega arith)
lowered-settled (suc h) (c ∷ e ∷ es) (suc f) a l =
    let v : Whole (suc (suc h)) (c ∷ e ∷ es) = (omega arith, filled-each (suc h) (c ∷ e ∷ es) a) in
    stays_wide f (line_at (suc (suc h)) (suc (suc h)) (c ∷ e ∷ es)) (omega (arith, root-children (suc h) (c ∷ e ∷ es) v))

-- As many turns as the first row has levels are enough.
pub lowered-own : (h : ℕ) (es : List (Entry h)) → Each (Filled h) es
    → lowered (height_at (line_at (suc h) (suc h) es) 0) (line_at (suc h) (suc h) es) ≡ line_of (settled h es)
unfolding settled line_of line_at lowered height_at
lowered-own zero [] a = refl
lowered-own (suc h) [] a = refl
lowered-own h (e ∷ es) a =
    let rs = line_at (suc h) (suc h) (e ∷ es) in
    ap (λ (f : ℕ). lowered f rs) (line-height (suc h) (suc h) (e ∷ es) (omega arith, filled-each h (e ∷ es) a)) ∙ lowered-settled h (e ∷ es) (suc h) a (omega arith)
