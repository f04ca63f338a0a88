-- The way down to the leaf that takes the new move.
use Rattle.std.specs.Prelude.{ℕ, zero, suc, ◌+◌, ◌≤◌, ◌<◌, cond, ◌≡◌, refl, take, drop, get_or}
use Rattle.std.proofs.Common.{sym, ◌∙◌, subst, arith, length-append, take_at, length-take-le}
use Rattle.std.proofs.Math.Path.{ap, ap₂}
use mathlib.Core.List.{List, [], ◌∷◌, ◌++◌}
use Rattle.std.proofs.Math.ListN.{length}
use Rattle.std.proofs.lemmas.List.{get_or_at}
use Rattle.std.proofs.Math.Seq.{split_at}
use Rattle.model.specs.Basics.{Each}
use Rattle.model.specs.Moves.{Move, move_before, insert}
use Rattle.model.specs.Tree.{Entry, moves_under}
use Rattle.model.specs.Entering.{child_place, split, replace_at, enter_node}
use Rattle.model.proofs.Laws.Bool.{cond_cases}
use Rattle.model.proofs.Laws.Basics.{each_right}
use Rattle.model.proofs.Laws.Sorting.{length-insert}
use Rattle.model.proofs.Laws.Tree.{moves-append, leaf-moves}
use Rattle.model.proofs.Laws.Entering.{child_place-in, split-length, split_moves}
use Rattle.line.specs.Line.{Placed, line_at}
use Rattle.line.specs.Laws.Line.{Whole}
use Rattle.line.specs.Laws.Entries.{following, line-middle, line-one}

-- The node with the new move entered and nothing split yet, and the move's place under it.
unfoldable pub place_node : ℕ → (h : ℕ) → Move → List (Entry h) → List (Entry h)
place_node d zero x ms = insert d x ms
place_node d (suc h) x es = replace_at (child_place d (suc h) x es) (λ c. place_node d h x c ∷ []) es

unfoldable pub insert_place : ℕ → Move → List Move → ℕ
insert_place d x [] = 0
insert_place d x (m ∷ ms) = cond (move_before d x m) 0 (suc (insert_place d x ms))

unfoldable pub place_in : ℕ → (h : ℕ) → Move → List (Entry h) → ℕ
place_in d zero x ms = insert_place d x ms
place_in d (suc h) x es =
    let i = child_place d (suc h) x es in
    length (moves_under (suc (suc h)) (take i es)) + place_in d h x (get_or es i [])

replace-middle : {A : Type 0} (f : A → List A) (us : List A) (c : A) (vs : List A) → replace_at (length us) f (us ++ c ∷ vs) ≡ us ++ (f c ++ vs)
unfolding replace_at
replace-middle f [] c vs = refl
replace-middle {A} f (u ∷ us) c vs = ap (λ (xs : List A). u ∷ xs) (replace-middle f us c vs)

module _ (d h : ℕ) (x : Move) (us : List (Entry (suc h))) (c : List (Entry h)) (vs : List (Entry (suc h)))
    (e : child_place d (suc h) x (us ++ c ∷ vs) ≡ length us) where
  place-node : place_node d (suc h) x (us ++ c ∷ vs) ≡ us ++ ((place_node d h x c ∷ []) ++ vs)
  unfolding place_node
  place-node =
      ap (λ (i : ℕ). replace_at i (λ (g : Entry (suc h)). place_node d h x g ∷ []) (us ++ c ∷ vs)) e
      ∙ replace-middle (λ (g : Entry (suc h)). place_node d h x g ∷ []) us c vs

  pub place-line : (k : ℕ) → line_at (suc (suc h)) k (place_node d (suc h) x (us ++ c ∷ vs))
      ≡ line_at (suc (suc h)) k us ++ (line_at (suc h) (following k (suc h) us) (place_node d h x c) ++ line_at (suc (suc h)) (suc h) vs)
  place-line k =
      ap (line_at (suc (suc h)) k) place-node
      ∙ line-middle (suc h) k us (place_node d h x c ∷ []) vs (omega arith)
      ∙ ap (λ (rs : List Placed). line_at (suc (suc h)) k us ++ (rs ++ line_at (suc (suc h)) (suc h) vs))
      (line-one (suc h) (following k (suc h) us) (place_node d h x c))

  pub enter-node : enter_node d (suc h) x (us ++ c ∷ vs) ≡ us ++ (split d h (enter_node d h x c) ++ vs)
  unfolding enter_node
  enter-node =
      ap (λ (i : ℕ). replace_at i (λ (g : Entry (suc h)). split d h (enter_node d h x g)) (us ++ c ∷ vs)) e
      ∙ replace-middle (λ (g : Entry (suc h)). split d h (enter_node d h x g)) us c vs

  pub enter-line : (k : ℕ) → line_at (suc (suc h)) k (enter_node d (suc h) x (us ++ c ∷ vs))
      ≡ line_at (suc (suc h)) k us
      ++ (line_at (suc (suc h)) (following k (suc h) us) (split d h (enter_node d h x c)) ++ line_at (suc (suc h)) (suc h) vs)
  enter-line k =
      ap (line_at (suc (suc h)) k) enter-node
      ∙ line-middle (suc h) k us (split d h (enter_node d h x c)) vs (split-length d h (enter_node d h x c)).0

  pub place-in : place_in d (suc h) x (us ++ c ∷ vs) ≡ length (moves_under (suc (suc h)) us) + place_in d h x c
  unfolding place_in
  place-in =
      ap (λ (i : ℕ). length (moves_under (suc (suc h)) (take i (us ++ c ∷ vs))) + place_in d h x (get_or (us ++ c ∷ vs) i [])) e
      ∙ ap₂ (λ (es : List (Entry (suc h))) (g : List (Entry h)). length (moves_under (suc (suc h)) es) + place_in d h x g)
      (take_at us (c ∷ vs) (length us) refl) (get_or_at us c vs [] (length us) refl)

-- A statement about a node, shown of the node in parts: the child to go down into and those on either side.
pub by-child : (d h : ℕ) (x : Move) (es : List (Entry (suc h))) → 0 < length es → (P : List (Entry (suc h)) → Type 0)
    → ((us : List (Entry (suc h))) (c : List (Entry h)) (vs : List (Entry (suc h))) → child_place d (suc h) x (us ++ c ∷ vs) ≡ length us → P (us ++ c ∷ vs))
    → P es
by-child d h x es g P f =
    let i = child_place d (suc h) x es in
    let l = child_place-in d x (suc h) es g in
    let s = split_at es i [] l in
    subst P (sym s)
    (f (take i es) (get_or es i []) (drop (suc i) es) (ap (child_place d (suc h) x) (sym s) ∙ sym (length-take-le i es (omega arith))))

insert_place-in : (d : ℕ) (x : Move) (ms : List Move) → insert_place d x ms ≤ length ms
unfolding insert_place
insert_place-in d x [] = omega arith
insert_place-in d x (m ∷ ms) =
    cond_cases (λ (i : ℕ). i ≤ suc (length ms)) (move_before d x m) (λ t. omega arith) (λ t. omega (arith, insert_place-in d x ms))

pub moves-length : (h : ℕ) (es fs : List (Entry h)) → length (moves_under (suc h) (es ++ fs)) ≡ length (moves_under (suc h) es) + length (moves_under (suc h) fs)
moves-length h es fs = ap length (moves-append h es fs) ∙ length-append (moves_under (suc h) es) (moves_under (suc h) fs)

pub place_inside : (d : ℕ) (x : Move) (h : ℕ) (es : List (Entry h)) → Whole (suc h) es
    → place_in d h x es < length (moves_under (suc h) (enter_node d h x es))
unfolding place_in enter_node insert moves_under
place_inside d x zero ms w =
    omega (arith, insert_place-in d x ms, length-insert (move_before d) x ms, ap length (leaf-moves (insert d x ms)))
place_inside d x (suc h) es w =
    by-child d h x es w.0 (λ es. Each (Whole (suc h)) es → place_in d (suc h) x es < length (moves_under (suc (suc h)) (enter_node d (suc h) x es)))
    (λ us c vs e v.
    let parts = split d h (enter_node d h x c) in
    omega (
      arith,
      place-in d h x us c vs e,
      ap (λ (gs : List (Entry (suc h))). length (moves_under (suc (suc h)) gs)) (enter-node d h x us c vs e),
      moves-length (suc h) us (parts ++ vs),
      moves-length (suc h) parts vs,
      ap length (split_moves d h (enter_node d h x c)),
      place_inside d x h c (each_right (Whole (suc h)) us (c ∷ vs) v).0,
    ))
    w.1
