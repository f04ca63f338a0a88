-- The cut made, and the loop that cuts from the leaf up.
use Prim.Native.Nat.{ℕ, zero, suc, ◌+◌, ◌-◌, ◌≤◌, ◌<◌}
use Rattle.std.specs.Prelude.{Bool, cond, List, ◌≡◌, eqb}
use Rattle.std.proofs.Math.Bool.{true, false}
use Rattle.std.proofs.Common.{⊎_elim, ◌∙◌, subst, add-one, arith, lt-ltb, le-ltb, eq-eqb, ne_eqb}
use Rattle.std.proofs.Math.Path.{refl, sym, ap, ap₂}
use Rattle.line.specs.Line.{Placed, heights_in}
use Rattle.line.specs.Places as places
use Rattle.line.specs.Places.{height_at, node_start, node_end, entries, entry_at}
use Rattle.line.specs.Enter.{cut_entry, split_at, cascade}
use Rattle.line.specs.Laws.Places.{height-among, start-high}
use Rattle.promises.specs.Layout.{height_in, line_from}
use Rattle.memory.specs.Room.{Numbers}
use Rattle.memory.specs.Stores.{set_height}
use Rattle.memory.specs.Frame.{RowsOnly}
use Rattle.memory.specs.Laws.Frames.{frame-refl, frame-trans, room-over}
use Rattle.memory.specs.Laws.Stored.{set_height-rows, number-set_height, height-set_height, height-set_height-other}
use Rattle.memory.specs.Laws.Lines.{height_at-line, line-set_height}
use Rattle.nodes.specs.Places.{NodeStart, NodeEnd, Entries}
use Rattle.nodes.specs.Laws.Heights.{end_line, start-line, entries-line}
use Rattle.tree.specs.Split.{NodeOfNine, CutPlace, Cut, CascadeAsked, Cascaded}

-- ---- the cut made

-- The line with the node from s to e cut; at the root, its first row raised.
module _ (d l s e : ℕ) (rs : List Placed) where
  abbrev halved : List Placed
  halved = places.set_height (entry_at (l - 1) s (cut_entry d l s e rs) rs) l rs

  abbrev topped : Bool → List Placed
  topped b = cond b (places.set_height 0 (suc l) halved) halved

module _ {c d n l s e q : ℕ} {m : List ℕ} (asked : NodeOfNine c d n l s e m) (place : CutPlace c d n l s e m q) where
  abbrev rs : List Placed
  rs = line_from c d n m

  abbrev cut : List ℕ
  cut = set_height c q l m

  inside : q < n
  inside = omega (arith, place.within, asked.ends)

  cut-frame : RowsOnly c m cut
  cut-frame = set_height-rows c q m (omega (arith, inside, asked.readable.rows)) l

  cut_line : line_from c d n cut ≡ halved d l s e rs
  cut_line = line-set_height c d n m q l asked.readable.room inside asked.readable.rows ∙ ap (λ (i : ℕ). places.set_height i l rs) place.is

  cut-numbers : Numbers c n cut
  cut-numbers i h = omega (arith, number-set_height c q m i l (omega (arith, asked.readable.rows)), asked.readable.numbers i h)

  cut-top : height_in c cut 0 ≡ height_in c m 0
  cut-top = height-set_height-other c q m 0 (λ z. omega (arith, place.after)) l

  by-root : (b : Bool) {us : List Placed} → eqb (height_in c m 0) l ≡ b → us ≡ topped d l s e rs b → us ≡ topped d l s e rs (eqb (height_at rs 0) l)
  by-root b test is =
      is ∙ ap (topped d l s e rs) (sym (ap (λ (h : ℕ). eqb h l) (height_at-line c d n m 0 (omega (arith, inside))) ∙ test))

  pub cut_below : {m' : List ℕ} → m' ≡ cut → (height_in c m 0 ≡ l → ⊥) → Cut c d n l s e m m'
  cut_below is ne =
      subst (Cut c d n l s e m) (sym is)
      (record {
        line = by-root false (ne_eqb (height_in c m 0) l ne) cut_line;
        numbers = cut-numbers;
        top = omega (arith, cut-top);
        frame = cut-frame;
      })

  pub cut-root : {m' m'' : List ℕ} → m' ≡ cut → m'' ≡ set_height c 0 (l + 1) m' → height_in c m 0 ≡ l → Cut c d n l s e m m''
  cut-root is root eq =
      let room = room-over c cut-frame asked.readable.room in
      let some : 0 < c = omega (arith, inside, asked.readable.rows) in
      subst (Cut c d n l s e m) (sym (root ∙ ap₂ (set_height c 0) (add-one l) is))
      (record {
        line =
            by-root true (eq-eqb (height_in c m 0) l eq)
            (line-set_height c d n cut 0 (suc l) room (omega (arith, inside)) asked.readable.rows ∙ ap (places.set_height 0 (suc l)) cut_line);
        numbers = λ i h. omega (arith, number-set_height c 0 cut i (suc l) (omega (arith, asked.readable.rows)), cut-numbers i h);
        top = omega (arith, height-set_height c 0 cut room some (suc l));
        frame = frame-trans cut-frame (set_height-rows c 0 cut some (suc l));
      })

-- ---- turn by turn

module _ (d l p : ℕ) (rs : List Placed) where
  abbrev here : ℕ
  here = entries (l - 1) (node_start l p rs) (node_end l p rs) rs

  cascade-nine : (f : ℕ) → 8 < here → cascade d (suc f) l p rs ≡ cascade d f (suc l) p (split_at d l p rs)
  unfolding cascade
  cascade-nine f h =
      ap (λ (b : Bool). elim b [ true ↦ cascade d f (suc l) p (split_at d l p rs) | false ↦ rs ]) (lt-ltb 8 here h)

  cascade-few : (f : ℕ) → here ≤ 8 → cascade d f l p rs ≡ rs
  unfolding cascade
  cascade-few zero h = refl
  cascade-few (suc f) h =
      ap (λ (b : Bool). elim b [ true ↦ cascade d f (suc l) p (split_at d l p rs) | false ↦ rs ]) (le-ltb 8 here h)

-- The levels below l are done; `left` turns from level l on are left.
pub record Climbed (c d n p : ℕ) (m₀ m : List ℕ) (left l : ℕ) : Type 0 where
  pub rest : cascade d left l p (line_from c d n m) ≡ cascade d (suc (height_in c m₀ 0)) 1 p (line_from c d n m₀)
  pub level : 0 < l
  pub turns : l + left ≡ 2 + height_in c m₀ 0
  pub top : height_in c m₀ 0 ≤ height_in c m 0
  pub numbers : Numbers c n m
  pub frame : RowsOnly c m₀ m

module _ {c d n p : ℕ} {m : List ℕ} (asked : CascadeAsked c d n p m) where
  pub climb-first : (left : ℕ) → left ≡ suc (height_in c m 0) → Climbed c d n p m m left 1
  climb-first left is =
      record {
        rest = ap (λ (f : ℕ). cascade d f 1 p (line_from c d n m)) is;
        level = omega arith;
        turns = omega arith;
        top = omega arith;
        numbers = asked.readable.numbers;
        frame = frame-refl m;
      }

  module _ {m' : List ℕ} {left l : ℕ} (climbed : Climbed c d n p m m' left l) where
    pub climb-end : left ≡ 0 → Cascaded c d n p m m'
    unfolding cascade
    climb-end none =
        record { line = sym (ap (λ (f : ℕ). cascade d f l p (line_from c d n m')) none) ∙ climbed.rest; frame = climbed.frame }

    module _ {s e r : ℕ} (start : NodeStart c l p m' s) (end : NodeEnd c n l p m' e) (held : Entries c (l - 1) s e m' r) where
      abbrev line : ℕ → List Placed
      line k = line_from c k n m'

      s-is : s ≡ node_start l p (line d)
      s-is = start-line d start asked.place

      e-is : e ≡ node_end l p (line d)
      e-is = end_line d end

      r-is : r ≡ here d l p (line d)
      r-is = entries-line d held end.within ∙ ap₂ (λ (i j : ℕ). entries (l - 1) i j (line d)) s-is e-is

      pub climb-few : r ≤ 8 → Cascaded c d n p m m'
      climb-few few =
          record { line = sym (cascade-few d l p (line d) left (omega (arith, r-is))) ∙ climbed.rest; frame = climbed.frame }

      starts : 0 < left → l - 1 ≤ height_in c m' s
      starts more =
          ⊎_elim
          (λ z. omega (arith, climbed.turns, climbed.top, ap (height_in c m') (s-is ∙ z)))
          (λ h. omega (arith, height-among (line d) (node_start l p (line d)), ap (height_at (line d)) s-is, height_at-line c d n m' s (omega (arith, start.within, asked.place))))
          (start-high l (heights_in (line d)) p)

      pub climb-nine : 0 < left → 8 < r → NodeOfNine c d n l s e m'
      climb-nine more nine =
          record {
            readable =
                record {
                  room = room-over c climbed.frame asked.readable.room;
                  rows = asked.readable.rows;
                  numbers = climbed.numbers;
                  dimension = asked.readable.dimension;
                };
            level = climbed.level;
            low = omega (arith, climbed.turns, asked.low);
            ends = end.within;
            starts = starts more;
            nine = omega (arith, held.is n end.within);
          }

      split-line : {m'' : List ℕ} → Cut c d n l s e m' m'' → line_from c d n m'' ≡ split_at d l p (line d)
      unfolding split_at
      split-line made = made.line ∙ ap₂ (λ (i j : ℕ). topped d l i j (line d) (eqb (height_at (line d) 0) l)) s-is e-is

      pub climb-more : {next : ℕ} → left ≡ suc next → 8 < r → {m'' : List ℕ} → Cut c d n l s e m' m'' → Climbed c d n p m m'' next (l + 1)
      climb-more {next} more nine {m''} made =
          record {
            rest =
                ap (λ (k : ℕ). cascade d next k p (line_from c d n m'')) (add-one l)
                ∙ ap (cascade d next (suc l) p) (split-line made)
                ∙ sym (cascade-nine d l p (line d) next (omega (arith, r-is)))
                ∙ ap (λ (f : ℕ). cascade d f l p (line d)) (sym more)
                ∙ climbed.rest;
            level = omega arith;
            turns = omega (arith, climbed.turns);
            top = omega (arith, climbed.top, made.top);
            numbers = made.numbers;
            frame = frame-trans climbed.frame made.frame;
          }
