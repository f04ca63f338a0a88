-- The new move's place, and its line under a node that lies wholly after it or wholly before it.
use Prim.Native.Nat.{ℕ, zero, suc, ◌+◌, ◌<◌}
use Rattle.std.specs.Prelude.{Bool, true, false, ◌≡◌}
use Rattle.std.proofs.Math.Bool.{cond}
use Rattle.std.proofs.Math.Path.{refl, sym, ap}
use Rattle.std.proofs.Common.{◌∙◌, subst, suc-add, arith}
use mathlib.Core.List.{List, [], ◌∷◌, ◌++◌, append_assoc, append-nil, flat_map}
use Rattle.std.proofs.Math.Nat.{zero-add}
use Rattle.std.proofs.Math.ListN.{length}
use Rattle.model.specs.Basics.{Each, insert_by}
use Rattle.model.specs.Moves.{Move, move_before, insert}
use Rattle.model.specs.Tree.{Entry, moves_under}
use Rattle.model.specs.Entering.{child_place}
use Rattle.model.proofs.Laws.Basics.{each-mono, each_left, each_right}
use Rattle.model.proofs.Laws.Sorting.{insert-before, insert-append-right}
use Rattle.model.proofs.Laws.Tree.{leaf-moves}
use Rattle.line.specs.Line.{Placed, line_at, moves_in}
use Rattle.line.specs.Enter.{place_for}
use Rattle.line.specs.Laws.Line.{row, Whole}
use Rattle.line.specs.Laws.Entries.{following, following-more, line-append, line-one, line-more}
use Rattle.line.specs.Laws.Standing.{each-parts, Before, After, AllBefore, AllAfter, child-first, child-last}
use Rattle.line.specs.Laws.Descent.{place_node, insert_place, place_in, place-line, place-in, moves-length}

by_last : {A : Type 0} (P : List A → Type 0) → ((us : List A) (c : A) → P (us ++ c ∷ [])) → (xs : List A) → 0 < length xs → P xs
by_last P f [] g = absurd (omega arith)
by_last P f (x ∷ []) g = f [] x
by_last {A} P f (x ∷ y ∷ ys) g = by_last (λ (zs : List A). P (x ∷ zs)) (λ us c. f (x ∷ us) c) (y ∷ ys) (omega arith)

moves-one : (h : ℕ) (e : Entry h) → moves_under (suc h) (e ∷ []) ≡ moves_under h e
unfolding moves_under flat_map
moves-one h e = append-nil (moves_under h e)

module _ (d : ℕ) (x : Move) where
  -- ---- how many moves stand before the new one

  unfoldable pub lead : List Move → ℕ
  lead [] = 0
  lead (m ∷ ms) = cond (move_before d m x) (suc (lead ms)) 0

  pub place-lead : (rs : List Placed) → place_for d x rs ≡ lead (moves_in rs)
  unfolding place_for lead moves_in
  place-lead [] = refl
  place-lead (r ∷ rs) = ap (λ (n : ℕ). cond (move_before d r.move x) (suc n) 0) (place-lead rs)

  pub lead-before : (ms ns : List Move) → Each (Before d x) ms → lead (ms ++ ns) ≡ length ms + lead ns
  unfolding lead
  lead-before [] ns bs = sym (zero-add (lead ns))
  lead-before (m ∷ ms) ns bs =
      ap (λ (b : Bool). cond b (suc (lead (ms ++ ns))) 0) bs.0.0 ∙ ap suc (lead-before ms ns bs.1) ∙ sym (suc-add (length ms) (lead ns))

  pub lead_after : (ms ns : List Move) → Each (After d x) ns → lead (ms ++ ns) ≡ lead ms
  unfolding lead
  lead_after [] [] rs = refl
  lead_after [] (n ∷ ns) rs = ap (λ (b : Bool). cond b (suc (lead ns)) 0) rs.0.0
  lead_after (m ∷ ms) ns rs = ap (λ (n : ℕ). cond (move_before d m x) (suc n) 0) (lead_after ms ns rs)

  -- ---- a node after the new move

  pub after-place : (h : ℕ) (es : List (Entry h)) → Whole (suc h) es → AllAfter d x (suc h) es → place_in d h x es ≡ 0
  unfolding place_in insert_place moves_under flat_map
  after-place zero [] w rs = refl
  after-place zero (m ∷ ms) w rs = ap (λ (b : Bool). cond b 0 (suc (insert_place d x ms))) rs.0.1
  after-place (suc h) [] w rs = absurd (omega arith)
  after-place (suc h) (c ∷ vs) w rs =
      let ts = each-parts (After d x) (moves_under (suc h)) (c ∷ vs) rs in
      place-in d h x [] c vs (child-first d (suc h) x c vs w.1 ts) ∙ zero-add (place_in d h x c) ∙ after-place h c w.1.0 ts.0

  pub after_line : (h : ℕ) (es : List (Entry h)) (k : ℕ) → Whole (suc h) es → AllAfter d x (suc h) es
      → line_at (suc h) k (place_node d h x es) ≡ row x k ∷ line_at (suc h) 0 es
  unfolding place_node insert moves_under line_at
  after_line zero ms k w rs =
      ap (line_at 1 k)
      (insert-before (move_before d) x ms
      (each-mono (After d x) (λ m. move_before d x m ≡ true) ms (λ m a. a.1) (subst (Each (After d x)) (leaf-moves ms) rs)))
      ∙ line-more 0 k x ms
  after_line (suc h) [] k w rs = absurd (omega arith)
  after_line (suc h) (c ∷ vs) k w rs =
      let ts = each-parts (After d x) (moves_under (suc h)) (c ∷ vs) rs in
      place-line d h x [] c vs (child-first d (suc h) x c vs w.1 ts) k
      ∙ ap (λ (zs : List Placed). zs ++ line_at (suc (suc h)) (suc h) vs) (after_line h c k w.1.0 ts.0)
      ∙ ap (λ (zs : List Placed). row x k ∷ zs) (sym (line-more (suc h) 0 c vs))

  -- ---- a node before the new move

  insert_place-last : (ms : List Move) → Each (Before d x) ms → insert_place d x ms ≡ length ms
  unfolding insert_place
  insert_place-last [] bs = refl
  insert_place-last (m ∷ ms) bs = ap (λ (b : Bool). cond b 0 (suc (insert_place d x ms))) bs.0.1 ∙ ap suc (insert_place-last ms bs.1)

  insert-last : (ms : List Move) → Each (Before d x) ms → insert d x ms ≡ ms ++ x ∷ []
  unfolding insert insert_by
  insert-last ms bs =
      ap (insert_by (move_before d) x) (sym (append-nil ms))
      ∙ insert-append-right (move_before d) x ms [] (each-mono (Before d x) (λ m. move_before d x m ≡ false) ms (λ m b. b.1) bs)

  module _ (h : ℕ) (us : List (Entry (suc h))) (c : List (Entry h)) (w : Each (Whole (suc h)) (us ++ c ∷ []))
      (bs : AllBefore d x (suc (suc h)) (us ++ c ∷ [])) where
    parts-before : Each (AllBefore d x (suc h)) (us ++ c ∷ [])
    unfolding moves_under
    parts-before = each-parts (Before d x) (moves_under (suc h)) (us ++ c ∷ []) bs

    last-before : AllBefore d x (suc h) c
    last-before = (each_right (AllBefore d x (suc h)) us (c ∷ []) parts-before).0

    last-whole : Whole (suc h) c
    last-whole = (each_right (Whole (suc h)) us (c ∷ []) w).0

    last-child : child_place d (suc h) x (us ++ c ∷ []) ≡ length us
    last-child = child-last d (suc h) x us c w (each_left (AllBefore d x (suc h)) us (c ∷ []) parts-before) last-before

    before-place-step : place_in d h x c ≡ length (moves_under (suc h) c) → place_in d (suc h) x (us ++ c ∷ []) ≡ length (moves_under (suc (suc h)) (us ++ c ∷ []))
    before-place-step e =
        omega (arith, place-in d h x us c [] last-child, e, moves-length (suc h) us (c ∷ []), ap length (moves-one (suc h) c))

    before-line-step : (k : ℕ)
        → line_at (suc h) (following k (suc h) us) (place_node d h x c) ≡ line_at (suc h) (following k (suc h) us) c ++ row x 0 ∷ []
        → line_at (suc (suc h)) k (place_node d (suc h) x (us ++ c ∷ [])) ≡ line_at (suc (suc h)) k (us ++ c ∷ []) ++ row x 0 ∷ []
    unfolding line_at
    before-line-step k e =
        let u = line_at (suc (suc h)) k us in
        let j = following k (suc h) us in
        place-line d h x us c [] last-child k
        ∙ ap (λ (zs : List Placed). u ++ zs) (append-nil (line_at (suc h) j (place_node d h x c)) ∙ e)
        ∙ sym (append_assoc u (line_at (suc h) j c) (row x 0 ∷ []))
        ∙ ap (λ (zs : List Placed). zs ++ row x 0 ∷ [])
        (ap (λ (zs : List Placed). u ++ zs) (sym (line-one (suc h) j c)) ∙ sym (line-append (suc h) k us (c ∷ [])))

  pub before-place : (h : ℕ) (es : List (Entry h)) → Whole (suc h) es → AllBefore d x (suc h) es → place_in d h x es ≡ length (moves_under (suc h) es)
  unfolding place_in
  before-place zero ms w bs = insert_place-last ms (subst (Each (Before d x)) (leaf-moves ms) bs) ∙ ap length (sym (leaf-moves ms))
  before-place (suc h) es w bs =
      by_last
      (λ es. Each (Whole (suc h)) es → AllBefore d x (suc (suc h)) es → place_in d (suc h) x es ≡ length (moves_under (suc (suc h)) es))
      (λ us c w bs. before-place-step h us c w bs (before-place h c (last-whole h us c w bs) (last-before h us c w bs)))
      es w.0 w.1 bs

  pub before-line : (h : ℕ) (es : List (Entry h)) (k : ℕ) → Whole (suc h) es → AllBefore d x (suc h) es
      → line_at (suc h) k (place_node d h x es) ≡ line_at (suc h) k es ++ row x 0 ∷ []
  unfolding place_node line_at flat_map
  before-line zero ms k w bs =
      ap (line_at 1 k) (insert-last ms (subst (Each (Before d x)) (leaf-moves ms) bs))
      ∙ line-append 0 k ms (x ∷ [])
      ∙ ap (λ (j : ℕ). line_at 1 k ms ++ row x j ∷ []) (following-more k 0 ms w.0)
  before-line (suc h) es k w bs =
      by_last
      (λ es. Each (Whole (suc h)) es → AllBefore d x (suc (suc h)) es → line_at (suc (suc h)) k (place_node d (suc h) x es) ≡ line_at (suc (suc h)) k es ++ row x 0 ∷ [])
      (λ us c w bs. before-line-step h us c w bs k (before-line h c (following k (suc h) us) (last-whole h us c w bs) (last-before h us c w bs)))
      es w.0 w.1 bs
