-- A turn of the loop that lowers the root.
use Rattle.std.specs.Prelude.{ℕ, zero, suc, ◌-◌, ◌≤◌, ◌<◌, List, ◌≡◌, refl, length}
use Rattle.std.proofs.Common.{sym, ap, ◌∙◌, arith}
use Rattle.line.specs.Line.{Placed}
use Rattle.line.specs.Places as places
use Rattle.line.specs.Places.{height_at, entries}
use Rattle.line.specs.Withdraw.{lowered}
use Rattle.line.specs.Laws.Lowered.{stays-low, stays_wide, gives-way}
use Rattle.promises.specs.Layout.{height_in, line_from, tab}
use Rattle.memory.specs.Room.{Room}
use Rattle.memory.specs.Stores.{set_height}
use Rattle.memory.specs.Frame.{RowsOnly}
use Rattle.memory.specs.Laws.Frames.{frame-refl, frame-trans}
use Rattle.memory.specs.Laws.Stored.{set_height-rows, height-set_height}
use Rattle.memory.specs.Laws.Lines.{length-line, height_at-line, line-set_height}
use Rattle.nodes.specs.Places.{Entries}
use Rattle.nodes.specs.Laws.Heights.{entries-line}
use Rattle.tree.specs.Withdraw.{Lowered}

-- ---- one turn on the line

lower-end : (t : ℕ) (rs : List Placed) → height_at rs 0 ≡ t → t ≤ 1 → lowered t rs ≡ rs
unfolding lowered
lower-end zero rs top h = refl
lower-end (suc f) rs top h = stays-low f rs (omega arith)

module _ (t : ℕ) (rs : List Placed) (top : height_at rs 0 ≡ t) (h : 1 < t) where
  abbrev children : ℕ
  children = entries (t - 1) 0 (length rs) rs

  child-level : entries (height_at rs 0 - 1) 0 (length rs) rs ≡ children
  child-level = ap (λ (k : ℕ). entries (k - 1) 0 (length rs) rs) top

  turn : lowered t rs ≡ lowered (suc (t - 1)) rs
  turn = let fuel : t ≡ suc (t - 1) = omega arith in ap (λ (f : ℕ). lowered f rs) fuel

  lower-stop : 1 < children → lowered t rs ≡ rs
  lower-stop many = turn ∙ stays_wide (t - 1) rs (omega (arith, child-level))

  lower-more : children ≤ 1 → lowered (t - 1) (places.set_height 0 (t - 1) rs) ≡ lowered t rs
  lower-more few =
      sym
      (turn
      ∙ gives-way (t - 1) rs (omega arith) (omega (arith, child-level))
      ∙ ap (λ (k : ℕ). lowered (t - 1) (places.set_height 0 (k - 1) rs)) top)

-- ---- and on the rows

-- What is left of the lowering gives the whole.
pub record Lowers (c n top : ℕ) (m₀ m : List ℕ) : Type 0 where
  pub frame : RowsOnly c m₀ m
  pub high : height_in c m 0 ≡ top
  pub is : (d : ℕ) → lowered top (line_from c d n m) ≡ lowered (height_at (line_from c d n m₀) 0) (line_from c d n m₀)

pub lowers-none : (c n : ℕ) (m : List ℕ) → n ≡ 0 → Lowered c n m m
unfolding line_from tab height_at lowered
lowers-none c n m e =
    record {
      line =
          λ d.
          let rs : ℕ → List Placed = λ k. line_from c d k m in
          ap rs e ∙ sym (ap (λ (k : ℕ). lowered (height_at (rs k) 0) (rs k)) e);
      frame = frame-refl m;
    }

pub lowers-first : (c n top : ℕ) (m : List ℕ) → 0 < n → top ≡ height_in c m 0 → Lowers c n top m m
lowers-first c n top m h e =
    record {
      frame = frame-refl m;
      high = sym e;
      is = λ d. ap (λ (k : ℕ). lowered k (line_from c d n m)) (e ∙ sym (height_at-line c d n m 0 h));
    }

module _ {c n top : ℕ} {m₀ m : List ℕ} (some : 0 < n) (w : Lowers c n top m₀ m) where
  line-top : (d : ℕ) → height_at (line_from c d n m) 0 ≡ top
  line-top d = height_at-line c d n m 0 some ∙ w.high

  pub lowers-end : top ≤ 1 → Lowered c n m₀ m
  lowers-end h = record { line = λ d. sym (lower-end top (line_from c d n m) (line-top d) h) ∙ w.is d; frame = w.frame }

  module _ {k : ℕ} (h : 1 < top) (count : Entries c (top - 1) 0 n m k) where
    root-entries : (d : ℕ) → k ≡ entries (top - 1) 0 (length (line_from c d n m)) (line_from c d n m)
    root-entries d = entries-line d count (omega arith) ∙ ap (λ (j : ℕ). entries (top - 1) 0 j (line_from c d n m)) (sym (length-line c d n m))

    pub lowers-stop : 1 < k → Lowered c n m₀ m
    lowers-stop many =
        record {
          line = λ d. sym (lower-stop top (line_from c d n m) (line-top d) h (omega (arith, root-entries d))) ∙ w.is d;
          frame = w.frame;
        }

    pub lowers-more : Room c m → n ≤ c → k ≤ 1 → Lowers c n (top - 1) m₀ (set_height c 0 (top - 1) m)
    lowers-more room rows few =
        record {
          frame = frame-trans w.frame (set_height-rows c 0 m (omega arith) (top - 1));
          high = height-set_height c 0 m room (omega arith) (top - 1);
          is =
              λ d.
              ap (lowered (top - 1)) (line-set_height c d n m 0 (top - 1) room some rows)
              ∙ lower-more top (line_from c d n m) (line-top d) h (omega (arith, root-entries d))
              ∙ w.is d;
        }
