-- A node's line without one of its entries.
use Rattle.std.specs.Prelude.{ℕ, suc, ◌≤◌, List, [], ◌∷◌, ◌++◌, ◌≡◌, refl, length}
use Rattle.std.proofs.lemmas.List.{map-append}
use Rattle.std.proofs.Common.{append_assoc, sym, ap, ◌∙◌, subst, le_refl, arith}
use Rattle.model.specs.Basics.{Each}
use Rattle.model.specs.Tree.{Entry, first_move}
use Rattle.line.specs.Line.{Placed, line_at, moves_in}
use Rattle.line.specs.Places.{height_at}
use Rattle.line.specs.Withdraw.{lifted}
use Rattle.line.specs.Laws.Line.{row, Whole, rest_at, line-cons}
use Rattle.line.specs.Laws.Places.{FirstAtLeast}
use Rattle.line.specs.Laws.Entries.{following, line-append, line-more, lines_start}

pub moves_in-append : (rs ss : List Placed) → moves_in (rs ++ ss) ≡ moves_in rs ++ moves_in ss
unfolding moves_in
moves_in-append = map-append (λ r. r.move)

pub line-height : (h k : ℕ) (e : Entry h) → Whole h e → height_at (line_at h k e) 0 ≡ k
unfolding height_at
line-height h k e w = ap (λ (rs : List Placed). height_at rs 0) (line-cons h k e w)

pub node-parts : (h k : ℕ) (front : List (Entry h)) (e : Entry h) (back : List (Entry h))
    → line_at (suc h) k (front ++ e ∷ back) ≡ line_at (suc h) k front ++ (line_at h (following k h front) e ++ line_at (suc h) h back)
node-parts h k front e back =
    line-append h k front (e ∷ back) ∙ ap (λ (rs : List Placed). line_at (suc h) k front ++ rs) (line-more h (following k h front) e back)

-- ---- the row behind the entry that goes starts what it started

lifted-starts : (k : ℕ) (rs : List Placed) → FirstAtLeast k rs → lifted k rs ≡ rs
unfolding lifted
lifted-starts k [] s = refl
lifted-starts k (r ∷ rs) s = ap (λ (j : ℕ). row r.move j ∷ rs) (omega arith)

lifted-line : (h j k : ℕ) (e : Entry h) (rs : List Placed) → Whole h e → j ≤ k → lifted k (line_at h j e ++ rs) ≡ line_at h k e ++ rs
unfolding lifted
lifted-line h j k e rs w l =
    ap (λ (ss : List Placed). lifted k (ss ++ rs)) (line-cons h j e w)
    ∙ ap (λ (i : ℕ). row (first_move h e) i ∷ (rest_at h e ++ rs)) (omega arith)
    ∙ ap (λ (ss : List Placed). ss ++ rs) (sym (line-cons h k e w))

pub node-without : (h k : ℕ) → h ≤ k → (front back : List (Entry h)) (post : List Placed) → Each (Whole h) back → FirstAtLeast h post
    → (length (front ++ back) ≡ 0 → post ≡ [])
    → line_at (suc h) k front ++ lifted (following k h front) (line_at (suc h) h back ++ post) ≡ line_at (suc h) k (front ++ back) ++ post
unfolding line_at lifted
node-without h k l [] [] post w s z = subst (λ (rs : List Placed). lifted k rs ≡ rs) (sym (z refl)) refl
node-without h k l [] (b ∷ back) post w s z = lifted-line (suc h) h k (b ∷ back) post (omega arith, w) l
node-without h k l (f ∷ front) back post w s z =
    ap (λ (rs : List Placed). line_at (suc h) k (f ∷ front) ++ rs)
    (lifted-starts h (line_at (suc h) h back ++ post) (lines_start h h h back post w (le_refl h) s))
    ∙ sym (append_assoc (line_at (suc h) k (f ∷ front)) (line_at (suc h) h back) post)
    ∙ ap (λ (rs : List Placed). rs ++ post) (sym (line-append h k (f ∷ front) back))
