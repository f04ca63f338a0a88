-- A new row at its place: whether it becomes the first of the nodes that start there, and what the line then holds.
use Rattle.std.specs.Prelude.{ℕ, zero, suc, ◌-◌, ◌≤◌, ◌<◌, Bool, false, ◌≡◌, refl, eqb, length, take}
use Rattle.std.proofs.Math.Bool.{true, cond}
use mathlib.Core.List.{List, [], ◌∷◌}
use Rattle.std.proofs.Math.Path.{sym, ap, ap₂}
use Rattle.std.proofs.Common.{◌∙◌, subst, arith, eq-eqb, ne_eqb}
use Rattle.std.proofs.Math.Decide.{dec_lt}
use Rattle.std.proofs.Math.Dec.{ltb}
use Rattle.std.proofs.Math.ListN.{drop, get_or-eq_default}
use Rattle.zorder.specs.Between.{side_of}
use Rattle.model.specs.Basics.{Each}
use Rattle.model.specs.Moves.{Move}
use Rattle.model.proofs.Laws.Bool.{cond_cases, both_ways}
use Rattle.model.proofs.Laws.Basics.{each_append, each_set}
use Rattle.model.proofs.Laws.Tree.{each_take, each-drop}
use Rattle.line.specs.Line.{Placed, none}
use Rattle.line.specs.Places as places
use Rattle.line.specs.Places.{move_at, height_at, node_start, node_end, insert_at}
use Rattle.line.specs.Enter.{later_in_gap, takes_over, placed}
use Rattle.promises.specs.Layout.{number_in, height_in, costs_in, line_from}
use Rattle.memory.specs.Stores.{set_height}
use Rattle.memory.specs.Frame.{RowsOnly}
use Rattle.memory.specs.Laws.Frames.{frame-refl, frame-trans}
use Rattle.memory.specs.Laws.Fields.{costs-over-rows}
use Rattle.memory.specs.Laws.Stored.{set_height-rows}
use Rattle.memory.specs.Laws.Lines.{numbers-each, each-numbers, length-line, height_at-line, line-set_height}
use Rattle.tree.specs.Rows.{row, Inserted}
use Rattle.nodes.specs.Places.{NodeStart, NodeEnd}
use Rattle.tree.specs.Enter.{PlaceAsked, TakesOver, PutAsked, RowPut}
use Rattle.nodes.specs.Laws.Heights.{costs-line, end_line, start-line}

-- ---- whether it takes over

module _ (d : ℕ) (x : Move) (p : ℕ) (rs : List Placed) where
  abbrev later : Bool
  later = cond (eqb (height_at rs p) 0) false (later_in_gap d x p rs)

  takes_first : p ≡ 0 → takes_over d x p rs ≡ true
  unfolding takes_over
  takes_first e = ap (λ (b : Bool). cond b true later) (eq-eqb p 0 e)

  takes-later : 0 < p → takes_over d x p rs ≡ later
  unfolding takes_over
  takes-later h = ap (λ (b : Bool). cond b true later) (ne_eqb p 0 (λ e. omega arith))

  takes_none : 0 < p → height_at rs p ≡ 0 → takes_over d x p rs ≡ false
  takes_none h e = takes-later h ∙ ap (λ (b : Bool). cond b false (later_in_gap d x p rs)) (eq-eqb (height_at rs p) 0 e)

  takes-gap : 0 < p → 0 < height_at rs p → takes_over d x p rs ≡ later_in_gap d x p rs
  takes-gap h k = takes-later h ∙ ap (λ (b : Bool). cond b false (later_in_gap d x p rs)) (ne_eqb (height_at rs p) 0 (λ e. omega arith))

  height-past : length rs ≤ p → height_at rs p ≡ 0
  unfolding height_at
  height-past h = ap (λ (r : Placed). r.height) (get_or-eq_default rs none h)

  takes-inside : takes_over d x p rs ≡ true → p ≤ length rs → 0 < length rs → p < length rs
  takes-inside over h some = go (dec_lt p (length rs))
    where
      go : Dec (p < length rs) → p < length rs
      go (yes k) = k
      go (no k) = both_ways over (takes_none (omega arith) (height-past (omega arith)))

module _ {c d n p : ℕ} {m : List ℕ} (asked : PlaceAsked c d n p m) (x : Move) where
  abbrev rs : List Placed
  rs = line_from c d n m

  pub over_first : p ≡ 0 → TakesOver c d n p x m true
  over_first e = record { is = sym (takes_first d x p rs e) }

  pub over-past : 0 < p → n ≤ p → TakesOver c d n p x m false
  over-past h k = record { is = sym (takes_none d x p rs h (height-past d x p rs (omega (arith, length-line c d n m)))) }

  module _ (h : 0 < p) (inside : p < n) where
    pub over_none : height_in c m p ≡ 0 → TakesOver c d n p x m false
    over_none e = record { is = sym (takes_none d x p rs h (height_at-line c d n m p inside ∙ e)) }

    pub over-gap : {k s e u v a b : ℕ} {first last : List ℕ} → k ≡ height_in c m p → 0 < k → NodeStart c k (p - 1) m s → NodeEnd c n k p m e
        → u ≡ number_in c m s → first ≡ costs_in c d m u → v ≡ number_in c m (e - 1) → last ≡ costs_in c d m v
        → a ≡ side_of d x.costs last → b ≡ side_of d first x.costs
        → TakesOver c d n p x m (ltb a b)
    unfolding later_in_gap
    over-gap {k} {s} {e} {u} {v} level some start end first-number first-costs last-number last-costs a-is b-is =
        let at : k ≡ height_at rs p = level ∙ sym (height_at-line c d n m p inside) in
        record {
          is =
              ap₂ ltb
              (a-is ∙ ap (side_of d x.costs) (last-costs ∙ costs-line c d n m (e - 1) v (omega (arith, end.after, end.within)) last-number))
              (b-is ∙ ap (λ (cs : List ℕ). side_of d cs x.costs) (first-costs ∙ costs-line c d n m s u (omega (arith, start.within)) first-number))
              ∙ ap₂ (λ (i j : ℕ). ltb (side_of d x.costs (move_at rs (j - 1)).costs) (side_of d (move_at rs i).costs x.costs))
              (start-line d start (omega arith) ∙ ap (λ (l : ℕ). node_start l (p - 1) rs) at)
              (end_line d end ∙ ap (λ (l : ℕ). node_end l p rs) at)
              ∙ sym (takes-gap d x p rs h (omega arith));
        }

-- ---- the line

module _ (d : ℕ) (x : Move) (p : ℕ) (rs : List Placed) where
  placed-over : takes_over d x p rs ≡ true → placed d x p rs ≡ insert_at p (record { move = x; height = height_at rs p }) (places.set_height p 0 rs)
  unfolding placed
  placed-over e = ap (λ (b : Bool). cond b (insert_at p (record { move = x; height = height_at rs p }) (places.set_height p 0 rs)) (insert_at p (record { move = x; height = 0 }) rs)) e

  placed-under : takes_over d x p rs ≡ false → placed d x p rs ≡ insert_at p (record { move = x; height = 0 }) rs
  unfolding placed
  placed-under e = ap (λ (b : Bool). cond b (insert_at p (record { move = x; height = height_at rs p }) (places.set_height p 0 rs)) (insert_at p (record { move = x; height = 0 }) rs)) e

-- The first row keeps its height, or the new one takes it.
pub placed-top : (d : ℕ) (x : Move) (p : ℕ) (rs : List Placed) → 0 < length rs → height_at (placed d x p rs) 0 ≡ height_at rs 0
unfolding placed insert_at places.set_height height_at
placed-top d x p [] h = absurd (omega arith)
placed-top d x zero (r ∷ rs) h = ap (λ (zs : List Placed). height_at zs 0) (placed-over d x 0 (r ∷ rs) (takes_first d x 0 (r ∷ rs) refl))
placed-top d x (suc p) (r ∷ rs) h = cond_cases (λ (zs : List Placed). height_at zs 0 ≡ r.height) (takes_over d x (suc p) (r ∷ rs)) (λ e. refl) (λ e. refl)

module _ (P : Move → Type 0) where
  abbrev OfMove : Placed → Type 0
  OfMove r = P r.move

  each-insert_at : (p : ℕ) (r : Placed) (rs : List Placed) → P r.move → Each OfMove rs → Each OfMove (insert_at p r rs)
  unfolding insert_at
  each-insert_at p r rs h es =
      each_append OfMove (take p rs) (r ∷ drop p rs) (each_take OfMove p rs es) (h, each-drop OfMove p rs es)

  each-set_height : (p k : ℕ) (rs : List Placed) → Each OfMove rs → Each OfMove (places.set_height p k rs)
  unfolding places.set_height move_at
  each-set_height p k rs es = each_set OfMove rs p none (record { move = move_at rs p; height = k }) (λ h. h) es

  each_placed : (d : ℕ) (x : Move) (p : ℕ) (rs : List Placed) → P x → Each OfMove rs → Each OfMove (placed d x p rs)
  unfolding placed
  each_placed d x p rs h es =
      cond_cases (Each OfMove) (takes_over d x p rs)
      (λ e. each-insert_at p (record { move = x; height = height_at rs p }) (places.set_height p 0 rs) h (each-set_height p 0 rs es))
      (λ e. each-insert_at p (record { move = x; height = 0 }) rs h es)

-- ---- the row put

pub row_is : (c d : ℕ) (x : Move) {m m' : List ℕ} (k : ℕ) → costs_in c d m x.number ≡ x.costs → RowsOnly c m m'
    → row c d m' x.number k ≡ record { move = x; height = k }
unfolding row
row_is c d x k stored f =
    ap (λ (cs : List ℕ). record { move = record { number = x.number; costs = cs }; height = k }) (costs-over-rows c f d x.number ∙ stored)

module _ {c d n p : ℕ} {x : Move} {m : List ℕ} (asked : PutAsked c d n p x m) where
  made : {m' : List ℕ} → line_from c d (suc n) m' ≡ placed d x p (line_from c d n m) → RowsOnly c m m' → RowPut c d n p x m m'
  made {m'} line f =
      record {
        line = line;
        numbers =
            each-numbers c d (suc n) m'
            (subst (Each (λ r. r.move.number < c)) (sym line)
            (each_placed (λ y. y.number < c) d x p (line_from c d n m) asked.number (numbers-each c d n m asked.asked.readable.numbers)));
        frame = f;
      }

  module _ (over : takes_over d x p (line_from c d n m) ≡ true) where
    inside : p < n
    inside =
        let count = length-line c d n m in
        omega (arith, takes-inside d x p (line_from c d n m) over (omega (arith, asked.asked.place)) (omega (arith, asked.some)))

    pub put-over : {m' m'' : List ℕ} {k : ℕ} → k ≡ height_in c m p → m' ≡ set_height c p 0 m → Inserted c n p x.number k m' m'' → RowPut c d n p x m m''
    put-over {m'} {m''} {k} level lowered inserted =
        let rs = line_from c d n m in
        let f = subst (RowsOnly c m) (sym lowered) (set_height-rows c p m (omega (arith, inside, asked.asked.readable.rows)) 0) in
        made
        (inserted.line d
        ∙ ap₂ (insert_at p) (row_is c d x k asked.stored f) (ap (line_from c d n) lowered ∙ line-set_height c d n m p 0 asked.asked.readable.room inside asked.asked.readable.rows)
        ∙ ap (λ (h : ℕ). insert_at p (record { move = x; height = h }) (places.set_height p 0 rs)) (level ∙ sym (height_at-line c d n m p inside))
        ∙ sym (placed-over d x p rs over))
        (frame-trans f inserted.frame)

  pub put_under : {m' : List ℕ} → takes_over d x p (line_from c d n m) ≡ false → Inserted c n p x.number 0 m m' → RowPut c d n p x m m'
  put_under under inserted =
      let rs = line_from c d n m in
      made (inserted.line d ∙ ap (λ (r : Placed). insert_at p r rs) (row_is c d x 0 asked.stored (frame-refl m)) ∙ sym (placed-under d x p rs under)) inserted.frame
