-- Rows moved down, and a range cut out.
use Prim.Native.Nat.{ℕ, ◌+◌, ◌-◌, max, ◌≤◌, ◌<◌}
use mathlib.Core.List.{List, [], ◌∷◌, ◌++◌}
use Rattle.std.specs.Prelude.{◌≡◌, length, take, drop}
use Rattle.std.proofs.Math.Path.{refl, sym, ap, ap₂}
use Rattle.std.proofs.Common.{◌∙◌, arith, length-drop, length-take-le}
use Rattle.std.proofs.Math.Nat.{max-eq_left, max-eq_right}
use Rattle.std.proofs.Math.Seq.{set-append_seam, get_or-append_seam}
use Rattle.line.specs.Line.{Placed, none}
use Rattle.line.specs.Places as places
use Rattle.line.specs.Places.{move_at, height_at}
use Rattle.line.specs.Withdraw as line
use Rattle.line.specs.Laws.Places.{height-seam}
use Rattle.promises.specs.Layout.{height_in, placed_in, line_from, tab}
use Rattle.memory.specs.Stores.{set_height}
use Rattle.promises.proofs.Laws.Tab.{tab-cut}
use Rattle.memory.specs.Laws.Frames.{frame-trans, room-over}
use Rattle.memory.specs.Laws.Stored.{set_height-rows}
use Rattle.memory.specs.Laws.Lines.{length-line, height_at-line, line-set_height}
use Rattle.tree.specs.Rows.{NumbersMoved, HeightsMoved}
use Rattle.tree.specs.Withdraw.{GapAsked, Closed, CutOut}
use Rattle.tree.specs.Laws.Rows.{same-placed}
use Rattle.tree.specs.Laws.Moving.{rows_frame, rows-moved, rows-kept}

-- ---- rows moved down

module _ {c n from to : ℕ} {m m₁ m₂ : List ℕ} (asked : GapAsked c n from to m)
    (numbers : NumbersMoved c (λ i. i + (to - from)) from (n - (to - from)) m m₁) (heights : HeightsMoved c (λ i. i + (to - from)) from (n - (to - from)) m₁ m₂) where
  pub closed : Closed c n from to m m₂
  unfolding line_from
  closed =
      let left : n - (to - from) ≡ from + (n - to) = omega (arith, asked.order, asked.within) in
      let frame = rows_frame c numbers heights in
      record {
        line =
            λ d.
            ap (λ (k : ℕ). tab (placed_in c d m₂) k) left
            ∙ tab-cut (placed_in c d m) (placed_in c d m₂) n from to (omega (arith, asked.order)) asked.within
            (λ i l. same-placed c d frame i i (rows-kept c numbers heights i (omega (arith, asked.order, asked.within, asked.rows)) l))
            (λ i l. same-placed c d frame (to + i) (from + i)
            (rows-moved c numbers heights (to + i) (from + i) (omega (arith, asked.order)) (omega (arith, asked.order, asked.rows)) (omega arith) (omega (arith, asked.order))));
        frame = frame;
      }

-- ---- a range cut out

-- The first row after the front, of height h, is raised to height k.
module _ (front : List Placed) (k : ℕ) where
  lift-none : (back : List Placed) → length back ≡ 0 → front ++ back ≡ front ++ line.lifted k back
  unfolding line.lifted
  lift-none [] e = refl
  lift-none (r ∷ back) e = absurd (omega arith)

  lift-low : (back : List Placed) → k ≤ height_at (front ++ back) (length front) → front ++ back ≡ front ++ line.lifted k back
  unfolding line.lifted
  lift-low [] h = refl
  lift-low (r ∷ back) h =
      let same : r.height ≡ max k r.height = sym (max-eq_right (omega (arith, height-seam front back r))) in
      ap (λ (j : ℕ). front ++ record { move = r.move; height = j } ∷ back) same

  lift-high : (back : List Placed) → 0 < length back → height_at (front ++ back) (length front) < k → places.set_height (length front) k (front ++ back) ≡ front ++ line.lifted k back
  unfolding line.lifted places.set_height move_at
  lift-high [] h l = absurd (omega arith)
  lift-high (r ∷ back) h l =
      let same : k ≡ max k r.height = sym (max-eq_left (omega (arith, height-seam front back r))) in
      set-append_seam front r back (record { move = move_at (front ++ r ∷ back) (length front); height = k })
      ∙ ap₂ (λ (x : Placed) (j : ℕ). front ++ record { move = x.move; height = j } ∷ back) (get_or-append_seam front r back none) same

module _ {c n from to : ℕ} {m m₁ : List ℕ} (asked : GapAsked c n from to m) (g : Closed c n from to m m₁) where
  abbrev k : ℕ
  k = height_in c m from

  module _ (d : ℕ) where
    abbrev rs : List Placed
    rs = line_from c d n m

    abbrev front : List Placed
    front = take from rs

    abbrev back : List Placed
    back = drop to rs

    front_length : length front ≡ from
    front_length = length-take-le from rs (omega (arith, length-line c d n m, asked.order, asked.within))

    back-length : length back ≡ n - to
    back-length = length-drop to rs ∙ ap (λ (j : ℕ). j - to) (length-line c d n m)

    cut-is : line.cut_out (record { from = from; to = to }) rs ≡ front ++ line.lifted k back
    unfolding line.cut_out
    cut-is = ap (λ (j : ℕ). front ++ line.lifted j back) (height_at-line c d n m from (omega (arith, asked.order, asked.within)))

    next-height : to < n → height_at (front ++ back) (length front) ≡ height_in c m₁ from
    next-height h =
        ap₂ height_at (sym (g.line d)) front_length
        ∙ height_at-line c d (n - (to - from)) m₁ from (omega (arith, asked.order))

  pub cut-none : n ≤ to → CutOut c n from to m m₁
  cut-none h =
      record {
        line = λ d. g.line d ∙ lift-none (front d) k (back d) (omega (arith, back-length d)) ∙ sym (cut-is d);
        frame = g.frame;
      }

  pub cut_low : to < n → k ≤ height_in c m₁ from → CutOut c n from to m m₁
  cut_low h l =
      record {
        line = λ d. g.line d ∙ lift-low (front d) k (back d) (omega (arith, next-height d h)) ∙ sym (cut-is d);
        frame = g.frame;
      }

  pub cut_high : to < n → height_in c m₁ from < k → CutOut c n from to m (set_height c from k m₁)
  cut_high h l =
      record {
        line =
            λ d.
            line-set_height c d (n - (to - from)) m₁ from k (room-over c g.frame asked.room) (omega (arith, asked.order, asked.within)) (omega (arith, asked.rows))
            ∙ ap₂ (λ (i : ℕ) (xs : List Placed). places.set_height i k xs) (sym (front_length d)) (g.line d)
            ∙ lift-high (front d) k (back d) (omega (arith, back-length d)) (omega (arith, next-height d h))
            ∙ sym (cut-is d);
        frame = frame-trans g.frame (set_height-rows c from m₁ (omega (arith, asked.order, asked.rows)) k);
      }
