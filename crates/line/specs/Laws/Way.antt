-- The new move's row: its place is where the descent ends, and the line with it that of the node with it.
use Prim.Native.Nat.{ℕ, zero, suc, ◌+◌, ◌-◌, ◌≤◌, ◌<◌}
use Rattle.std.specs.Prelude.{Bool, ◌≡◌}
use Rattle.std.proofs.Math.Bool.{cond}
use Rattle.std.proofs.Common.{inl, inr, ◌∙◌, subst₂, le_refl, arith}
use Rattle.std.proofs.Math.Path.{refl, sym, ap, ap₂, subst}
use mathlib.Core.List.{List, [], ◌∷◌, ◌++◌, append-nil, flat_map}
use Rattle.std.proofs.Math.Nat.{add-zero}
use Rattle.std.proofs.Math.ListN.{length, length-append}
use Rattle.std.proofs.Math.Seq.{append_snoc}
use Rattle.model.specs.Basics.{Each, first_or, last_or}
use Rattle.model.specs.Moves.{Move, no_move, move_before, insert}
use Rattle.model.specs.Tree.{Entry, moves_under, first_move, last_move}
use Rattle.model.proofs.Laws.Bool.{cond_cases}
use Rattle.model.proofs.Laws.Basics.{each_right, each_append}
use Rattle.model.proofs.Laws.Tree.{moves-append, leaf-moves}
use Rattle.line.specs.Line.{Placed, line_at}
use Rattle.line.specs.Enter.{placed}
use Rattle.line.specs.Laws.Line.{row, Whole, whole-moves, rest_at, rest-low, line-cons}
use Rattle.line.specs.Laws.Places.{FirstAtLeast}
use Rattle.line.specs.Laws.Entries.{following, following-least, line-middle, line-one, line-size, lines_start}
use Rattle.line.specs.Laws.Standing.{parts-each, Before, After, Front, front, not-both, AllBefore, AllAfter, Around, Standing, all_before, all_after, within, between, standing, first-after, last-before, child-within}
use Rattle.line.specs.Laws.Descent.{place_node, insert_place, place_in, place-line, place-in}
use Rattle.line.specs.Laws.Placing.{lead, lead-before, lead_after, before-place, after-place}
use Rattle.line.specs.Laws.Placed.{placed-within}
use Rattle.line.specs.Laws.Gap.{gap-place, gap-line, leaf-line}

-- ---- the place

module _ (d : ℕ) (x : Move) where
  lead-insert : (ms : List Move) → Front d x ms → lead d x ms ≡ insert_place d x ms
  unfolding lead insert_place
  lead-insert [] f = refl
  lead-insert (m ∷ ms) (inl f) =
      ap (λ (b : Bool). cond b (suc (lead d x ms)) 0) f.0.0
      ∙ ap suc (lead-insert ms f.1)
      ∙ sym (ap (λ (b : Bool). cond b 0 (suc (insert_place d x ms))) f.0.1)
  lead-insert (m ∷ ms) (inr f) =
      ap (λ (b : Bool). cond b (suc (lead d x ms)) 0) f.0.0 ∙ sym (ap (λ (b : Bool). cond b 0 (suc (insert_place d x ms))) f.0.1)

  node-before : (h : ℕ) (es : List (Entry h)) → Each (AllBefore d x h) es → AllBefore d x (suc h) es
  unfolding moves_under
  node-before h es = parts-each (Before d x) (moves_under h) es

  node-after : (h : ℕ) (es : List (Entry h)) → Each (AllAfter d x h) es → AllAfter d x (suc h) es
  unfolding moves_under
  node-after h es = parts-each (After d x) (moves_under h) es

  lead-all : (ms : List Move) → Each (Before d x) ms → lead d x ms ≡ length ms
  unfolding lead
  lead-all ms bs = ap (lead d x) (sym (append-nil ms)) ∙ lead-before d x ms [] bs ∙ add-zero (length ms)

  lead-none : (ms : List Move) → Each (After d x) ms → lead d x ms ≡ 0
  unfolding lead
  lead-none ms rs = lead_after d x [] ms rs

  module _ (h : ℕ) (ih : (c : List (Entry h)) → Whole (suc h) c → Front d x (moves_under (suc h) c) → lead d x (moves_under (suc h) c) ≡ place_in d h x c) where
    lead-step : (es : List (Entry (suc h))) → Whole (suc (suc h)) es → Standing d x (suc h) es → lead d x (moves_under (suc (suc h)) es) ≡ place_in d (suc h) x es
    unfolding moves_under flat_map
    lead-step es w (all_before fs bs) =
        let b = node-before (suc h) fs bs in lead-all (moves_under (suc (suc h)) fs) b ∙ sym (before-place d x (suc h) fs w b)
    lead-step es w (all_after fs rs) =
        let a = node-after (suc h) fs rs in lead-none (moves_under (suc (suc h)) fs) a ∙ sym (after-place d x (suc h) fs w a)
    lead-step es w (within us c vs bs m rs) =
        let n = moves_under (suc (suc h)) us in
        ap (lead d x) (moves-append (suc h) us (c ∷ vs))
        ∙ lead-before d x n (moves_under (suc (suc h)) (c ∷ vs)) (node-before (suc h) us bs)
        ∙ ap (λ (i : ℕ). length n + i)
        (lead_after d x (moves_under (suc h) c) (moves_under (suc (suc h)) vs) (node-after (suc h) vs rs)
        ∙ ih c (each_right (Whole (suc h)) us (c ∷ vs) w.1).0 m.front)
        ∙ sym (place-in d h x us c vs (child-within d (suc h) x us c vs w.1 bs m.first m.last rs))
    lead-step es w (between us e f vs bs b a rs) =
        let n = moves_under (suc (suc h)) us in
        ap (lead d x) (moves-append (suc h) us (e ∷ f ∷ vs))
        ∙ lead-before d x n (moves_under (suc (suc h)) (e ∷ f ∷ vs)) (node-before (suc h) us bs)
        ∙ ap (λ (i : ℕ). length n + i)
        (lead-before d x (moves_under (suc h) e) (moves_under (suc (suc h)) (f ∷ vs)) b
        ∙ ap (λ (i : ℕ). length (moves_under (suc h) e) + i) (lead-none (moves_under (suc (suc h)) (f ∷ vs)) (node-after (suc h) (f ∷ vs) (a, rs)))
        ∙ add-zero (length (moves_under (suc h) e)))
        ∙ sym (gap-place d h x (suc h) us e f vs w.1 (le_refl (suc h)) bs b a rs)

  pub lead-place : (h : ℕ) (es : List (Entry h)) → Whole (suc h) es → Front d x (moves_under (suc h) es) → lead d x (moves_under (suc h) es) ≡ place_in d h x es
  unfolding place_in
  lead-place zero ms w f = ap (lead d x) (leaf-moves ms) ∙ lead-insert ms (subst (Front d x) (leaf-moves ms) f)
  lead-place (suc h) es w f = lead-step h (lead-place h) es w (standing d x (suc h) es w.1 f)

-- ---- the row

module _ (d : ℕ) (x : Move) where
  lead-pos : (ms : List Move) → 0 < length ms → Before d x (first_or no_move ms) → 0 < lead d x ms
  unfolding lead first_or
  lead-pos [] g b = absurd (omega arith)
  lead-pos (m ∷ ms) g b = subst (λ (c : Bool). 0 < cond c (suc (lead d x ms)) 0) (sym b.0) (omega arith)

  lead-less : (z : Move) (ms : List Move) → 0 < length ms → After d x (last_or z ms) → lead d x ms < length ms
  unfolding lead last_or
  lead-less z [] g a = absurd (omega arith)
  lead-less z (m ∷ []) g a = subst (λ (c : Bool). cond c 1 0 < 1) (sym a.0) (omega arith)
  lead-less z (m ∷ n ∷ ns) g a =
      cond_cases (λ (i : ℕ). i < suc (suc (length ns))) (move_before d m x) (λ t. omega (arith, lead-less m (n ∷ ns) (omega arith) a)) (λ t. omega arith)

  -- The place under a node that lies around the new move.
  module _ (h : ℕ) (c : List (Entry h)) (w : Whole (suc h) c) (m : Around d x (suc h) c) where
    place-pos : 0 < place_in d h x c
    unfolding first_move
    place-pos = omega (arith, lead-pos (moves_under (suc h) c) (whole-moves (suc h) c w) m.first, lead-place d x h c w m.front)

    place-less : place_in d h x c < length (moves_under (suc h) c)
    unfolding last_move
    place-less = omega (arith, lead-less no_move (moves_under (suc h) c) (whole-moves (suc h) c w) m.last, lead-place d x h c w m.front)

    row_within : (k : ℕ) (us vs : List Placed) → suc h ≤ k → FirstAtLeast (suc h) vs
        → placed d x (length us + place_in d h x c) (us ++ (line_at (suc h) k c ++ vs)) ≡ us ++ (placed d x (place_in d h x c) (line_at (suc h) k c) ++ vs)
    row_within k us vs t s =
        let q = place_in d h x c - 1 in
        let e : suc q ≡ place_in d h x c = omega (arith, place-pos) in
        let l : q < length (rest_at (suc h) c) = omega (arith, place-pos, place-less, line-size (suc h) k c, ap length (line-cons (suc h) k c w)) in
        subst₂ (λ (i : ℕ) (rs : List Placed). placed d x (length us + i) (us ++ (rs ++ vs)) ≡ us ++ (placed d x i rs ++ vs)) e (sym (line-cons (suc h) k c w))
        (placed-within d x (suc h) us (row (first_move (suc h) c) k) (rest_at (suc h) c) vs (rest-low (suc h) c) t s q l)

  -- The flat placing gives the line of the node with the new move.
  abbrev Rows : (h : ℕ) → List (Entry h) → Type 0
  Rows h es = (k : ℕ) → suc h ≤ k → placed d x (place_in d h x es) (line_at (suc h) k es) ≡ line_at (suc h) k (place_node d h x es)

  not-before : (h : ℕ) (es : List (Entry h)) → Whole (suc h) es → Around d x (suc h) es → Each (AllBefore d x h) es → Rows h es
  not-before h es w m bs =
      not-both d x (last_move (suc h) es) (last-before d (suc h) x es w (node-before d x h es bs)) m.last

  not_after : (h : ℕ) (es : List (Entry h)) → Whole (suc h) es → Around d x (suc h) es → Each (AllAfter d x h) es → Rows h es
  not_after h es w m rs =
      not-both d x (first_move (suc h) es) m.first (first-after d (suc h) x es w (node-after d x h es rs))

  leaf-place : (ms : List Move) (n : Move) (ns : List Move) → Each (Before d x) ms → Each (After d x) (n ∷ ns) → place_in d 0 x (ms ++ n ∷ ns) ≡ length ms
  unfolding place_in
  leaf-place ms n ns bs rs =
      sym (lead-insert d x (ms ++ n ∷ ns) (front d x ms (n ∷ ns) bs rs))
      ∙ lead-before d x ms (n ∷ ns) bs
      ∙ ap (λ (i : ℕ). length ms + i) (lead-none d x (n ∷ ns) rs)
      ∙ add-zero (length ms)

  leaf-rows : (ms : List Move) → Whole 1 ms → Around d x 1 ms → Standing d x 0 ms → Rows 0 ms
  unfolding place_node moves_under first_move last_move first_or last_or
  leaf-rows ms w m (all_before ns bs) k t = not-before 0 ns w m bs k t
  leaf-rows ms w m (all_after ns rs) k t = not_after 0 ns w m rs k t
  leaf-rows ms w m (within us c vs bs n rs) k t = not-both d x c n.first n.last
  leaf-rows ms w m (between us e f vs bs b a rs) k t =
      let ns = us ++ e ∷ [] in
      let bs' = each_append (Before d x) us (e ∷ []) (subst (Each (Before d x)) (leaf-moves us) (node-before d x 0 us bs)) b in
      let rs' : Each (After d x) (f ∷ vs) = (a.0, subst (Each (After d x)) (leaf-moves vs) (node-after d x 0 vs rs)) in
      let s = sym (append_snoc us e (f ∷ vs)) in
      ap₂ (placed d x) (ap (place_in d 0 x) s ∙ leaf-place ns f vs bs' rs') (ap (line_at 1 k) s)
      ∙ leaf-line d x k ns f vs (omega (arith, length-append us (e ∷ []))) bs' rs'
      ∙ ap (λ (gs : List Move). line_at 1 k (insert d x gs)) (sym s)

  row_step : (h : ℕ) → ((c : List (Entry h)) → Whole (suc h) c → Around d x (suc h) c → Rows h c)
      → (es : List (Entry (suc h))) → Whole (suc (suc h)) es → Around d x (suc (suc h)) es → Standing d x (suc h) es → Rows (suc h) es
  row_step h ih es w m (all_before ns bs) k t = not-before (suc h) ns w m bs k t
  row_step h ih es w m (all_after ns rs) k t = not_after (suc h) ns w m rs k t
  row_step h ih es w m (within us c vs bs n rs) k t =
      let j = following k (suc h) us in
      let u = line_at (suc (suc h)) k us in
      let v = line_at (suc (suc h)) (suc h) vs in
      let wc = (each_right (Whole (suc h)) us (c ∷ vs) w.1).0 in
      let wv = (each_right (Whole (suc h)) us (c ∷ vs) w.1).1 in
      let at = child-within d (suc h) x us c vs w.1 bs n.first n.last rs in
      let high = following-least (suc h) k (suc h) us (omega arith) (le_refl (suc h)) in
      let starts = subst (FirstAtLeast (suc h)) (append-nil v) (lines_start (suc h) (suc h) (suc h) vs [] wv (le_refl (suc h)) tt) in
      ap₂ (placed d x)
      (place-in d h x us c vs at ∙ ap (λ (i : ℕ). i + place_in d h x c) (sym (line-size (suc (suc h)) k us)))
      (line-middle (suc h) k us (c ∷ []) vs (omega arith) ∙ ap (λ (zs : List Placed). u ++ (zs ++ v)) (line-one (suc h) j c))
      ∙ row_within h c wc n j u v high starts
      ∙ ap (λ (zs : List Placed). u ++ (zs ++ v)) (ih c wc n j high)
      ∙ sym (place-line d h x us c vs at k)
  row_step h ih es w m (between us e f vs bs b a rs) k t = gap-line d h x k us e f vs w.1 (omega arith) bs b a rs

  pub rows : (h : ℕ) (es : List (Entry h)) → Whole (suc h) es → Around d x (suc h) es → Rows h es
  rows zero ms w m = leaf-rows ms w m (standing d x 0 ms w.1 m.front)
  rows (suc h) es w m = row_step h (rows h) es w m (standing d x (suc h) es w.1 m.front)
