-- The notice: the moves that left the list and those that entered it, and how many rows it has.
use Rattle.std.specs.Prelude.{ℕ, ◌+◌, Bool, true, false, not, ◌&&◌, ◌⊎◌, ◌↔◌, ◌≡◌, refl, eqb, length}
use mathlib.Core.List.Memᴰ
use mathlib.Core.List.{List, [], ◌∷◌, ◌++◌, map, Memᴰ}
use Rattle.std.proofs.Common.{inl, inr, ⊎_elim, sym, ap, ap₂, ◌∙◌, subst, arith, length-append, eqb-true, eq-eqb}
use Rattle.std.proofs.Math.Logic.{⊎_map}
use Rattle.std.proofs.lemmas.List.{length-map}
use Rattle.model.specs.Basics.{select, any, equal}
use Rattle.model.specs.Moves.{Move, Row, row_of, same_row, left, entered}
use Rattle.model.specs.Notice.{missing, notice_of}
use Rattle.model.proofs.Laws.Bool.{by_cases, and_left, and_right, and_both, not-flip, not_back, both_ways}
use Rattle.model.proofs.Laws.Basics.{Once, once-select, select-none, equal-refl, equal-true, mem-each, select-mem, mem-select, select-ext, select-map, any-mem, any-witness, any-map}
use Rattle.model.proofs.Laws.Order.{move-path}

-- "Rows are compared by number and costs": so are the moves in them, whatever the marks.
unfoldable pub same_move : Move → Move → Bool
same_move m n = eqb m.number n.number && equal m.costs n.costs

unfoldable pub among : Move → List Move → Bool
among m ns = any (same_move m) ns

-- The moves of one list that the other has not.
unfoldable pub gone : List Move → List Move → List Move
gone ms ns = select (λ m. not (among m ns)) ms

same_refl : (m : Move) → same_move m m ≡ true
unfolding same_move
same_refl m =
    and_both (eqb m.number m.number) (equal m.costs m.costs) (eq-eqb m.number m.number refl) (equal-refl m.costs)

same_true : (m n : Move) → same_move m n ≡ true → m ≡ n
unfolding same_move
same_true m n h =
    let a = eqb m.number n.number in
    let b = equal m.costs n.costs in
    move-path m n (eqb-true m.number n.number (and_left a b h), equal-true m.costs n.costs (and_right a b h))

pub mem-among : {m : Move} {ns : List Move} → Memᴰ m ns → among m ns ≡ true
unfolding among
mem-among {m} h = any-mem (same_move m) h (same_refl m)

pub among-mem : (m : Move) (ns : List Move) → among m ns ≡ true → Memᴰ m ns
unfolding among
among-mem m ns h =
    let w = any-witness (same_move m) ns h in
    Memᴰ.cast (same_true m w.0 w.2) w.1

-- ---- members

pub mem-or-not : (m : Move) (ns : List Move) → Memᴰ m ns ⊎ (¬ Memᴰ m ns)
mem-or-not m ns = by_cases (among m ns) (λ a. inl (among-mem m ns a)) (λ a. inr (λ k. both_ways (mem-among k) a))

pub gone_mem : {m : Move} (ms ns : List Move) → Memᴰ m (gone ms ns) → Memᴰ m ms × (¬ Memᴰ m ns)
unfolding gone
gone_mem {m} ms ns h =
    let r = select-mem (λ m. not (among m ns)) ms h in
    (r.0, λ k. both_ways (mem-among k) (not_back (among m ns) r.1))

pub mem-gone : {m : Move} {ms : List Move} (ns : List Move) → Memᴰ m ms → (¬ Memᴰ m ns) → Memᴰ m (gone ms ns)
unfolding gone
mem-gone {m} ns h k =
    mem-select (λ m. not (among m ns)) h
    (by_cases (among m ns) (λ a. absurd (k (among-mem m ns a))) (λ a. not-flip (among m ns) a))

-- ---- the rows of a notice

pub missing-rows : (j k : ℕ) (ms ns : List Move) → missing (map (row_of j) ms) (map (row_of k) ns) ≡ map (row_of j) (gone ms ns)
unfolding missing gone among same_move same_row row_of
missing-rows j k ms ns =
    select-map (λ r. not (any (same_row r) (map (row_of k) ns))) (row_of j) ms
    ∙ ap (map (row_of j))
    (select-ext (λ m. not (any (same_row (row_of j m)) (map (row_of k) ns))) (λ m. not (among m ns)) ms
    (mem-each (λ m. not (any (same_row (row_of j m)) (map (row_of k) ns)) ≡ not (among m ns)) ms
    (λ m _. ap not (any-map (same_row (row_of j m)) (row_of k) ns))))

pub notice-rows : (old new : List Move) → notice_of old new ≡ map (row_of left) (gone old new) ++ map (row_of entered) (gone new old)
unfolding notice_of
notice-rows old new = ap₂ ◌++◌ (missing-rows left left old new) (missing-rows entered entered new old)

-- The same list before and after: no row.
gone-none : (ms : List Move) → gone ms ms ≡ []
unfolding gone
gone-none ms = select-none (λ m. not (among m ms)) ms (mem-each (λ m. not (among m ms) ≡ false) ms (λ m k. ap not (mem-among k)))

pub notice-none : (ms : List Move) → notice_of ms ms ≡ []
notice-none ms = notice-rows ms ms ∙ ap (λ (ns : List Move). map (row_of left) ns ++ map (row_of entered) ns) (gone-none ms)

row-mem : (j k : ℕ) (m : Move) (ms : List Move) → Memᴰ (row_of j m) (map (row_of k) ms) → (j ≡ k) × Memᴰ m ms
unfolding row_of
row-mem j k m [] h = absurd (Memᴰ.not-nil h)
row-mem j k m (n ∷ ns) h =
    ⊎_elim
    (λ e. (ap (λ (r : Row). r.mark) e, Memᴰ.head (move-path m n (ap (λ (r : Row). r.number) e, ap (λ (r : Row). r.costs) e))))
    (λ i. let g = row-mem j k m ns i in (g.0, Memᴰ.tail g.1))
    (Memᴰ.cases_cons h)

mem-row : (k : ℕ) {m : Move} {ms : List Move} → Memᴰ m ms → Memᴰ (row_of k m) (map (row_of k) ms)
mem-row k (Memᴰ.head e) = Memᴰ.head (ap (row_of k) e)
mem-row k (Memᴰ.tail h) = Memᴰ.tail (mem-row k h)

-- "each notice names exactly the rows that are in the list before the call or after it, but not both"
module _ (old new : List Move) (m : Move) where
  named : (k : ℕ) → Memᴰ (row_of k m) (notice_of old new) → ((k ≡ left) × Memᴰ m (gone old new)) ⊎ ((k ≡ entered) × Memᴰ m (gone new old))
  named k h =
      ⊎_map (row-mem k left m (gone old new)) (row-mem k entered m (gone new old))
      (Memᴰ.append_cases (map (row_of left) (gone old new)) (subst (Memᴰ (row_of k m)) (notice-rows old new) h))

  pub notice-left : Memᴰ (row_of left m) (notice_of old new) ↔ (Memᴰ m old × (¬ Memᴰ m new))
  notice-left = (
    λ h. ⊎_elim (λ g. gone_mem old new g.1) (λ g. absurd (omega (arith, g.0))) (named left h),
    λ g. subst (Memᴰ (row_of left m)) (sym (notice-rows old new))
        (Memᴰ.append_left (map (row_of entered) (gone new old)) (mem-row left (mem-gone new g.0 g.1))),
  )

  pub notice-entered : Memᴰ (row_of entered m) (notice_of old new) ↔ (Memᴰ m new × (¬ Memᴰ m old))
  notice-entered = (
    λ h. ⊎_elim (λ g. absurd (omega (arith, g.0))) (λ g. gone_mem new old g.1) (named entered h),
    λ g. subst (Memᴰ (row_of entered m)) (sym (notice-rows old new))
        (Memᴰ.append_right (map (row_of left) (gone old new)) (mem-row entered (mem-gone old g.0 g.1))),
  )

pub notice-length : (old new : List Move) → length (notice_of old new) ≡ length (gone old new) + length (gone new old)
notice-length old new =
    ap length (notice-rows old new)
    ∙ length-append (map (row_of left) (gone old new)) (map (row_of entered) (gone new old))
    ∙ ap₂ ◌+◌ (length-map (gone old new) (row_of left)) (length-map (gone new old) (row_of entered))

-- ---- a notice of two rows

only-entry : {A : Type 0} {x : A} (xs : List A) → Once xs → Memᴰ x xs → ((y : A) → Memᴰ y xs → y ≡ x) → xs ≡ x ∷ []
only-entry [] o k f = absurd (Memᴰ.not-nil k)
only-entry {A} (y ∷ []) o k f = ap (λ (z : A). z ∷ []) (f y (Memᴰ.head refl))
only-entry (y ∷ z ∷ zs) o k f =
    absurd (o.0 (Memᴰ.head (f y (Memᴰ.head refl) ∙ sym (f z (Memᴰ.tail (Memᴰ.head refl))))))

-- x is the one move that the first list has and the second has not.
pub record OnlyIn (ms ns : List Move) (x : Move) : Type 0 where
  pub there : Memᴰ x ms
  pub absent : ¬ Memᴰ x ns
  pub only : (m : Move) → Memᴰ m ms → ¬ Memᴰ m ns → m ≡ x

only_gone : (ms ns : List Move) (x : Move) → Once ms → OnlyIn ms ns x → gone ms ns ≡ x ∷ []
unfolding gone
only_gone ms ns x o h =
    only-entry (gone ms ns) (once-select (λ m. not (among m ns)) ms o) (mem-gone ns h.there h.absent)
    (λ m k. let g = gone_mem ms ns k in h.only m g.0 g.1)

pub two-rows : (old new : List Move) (x y : Move) → Once old → Once new → OnlyIn old new x → OnlyIn new old y
    → notice_of old new ≡ row_of left x ∷ row_of entered y ∷ []
two-rows old new x y o p h k =
    notice-rows old new
    ∙ ap₂ (λ (ms ns : List Move). map (row_of left) ms ++ map (row_of entered) ns) (only_gone old new x o h) (only_gone new old y p k)
