-- The line of a tree: its moves, its heights, its length and its number of nodes.
use Rattle.std.specs.Prelude.{ℕ, zero, suc, ◌*◌, ◌^◌, ◌≤◌, ◌<◌, true, ◌≡◌, length}
use mathlib.Core.List.{List, [], ◌∷◌, ◌++◌, map, map-append, flat_map}
use Rattle.std.proofs.Math.Path.{refl, ap₂}
use Rattle.std.proofs.Common.{sym, ap, ◌∙◌, pow-suc, mul-le-mul_left, le_trans, le_refl, lt_of_not-le, le_of_suc-le-suc, arith}
use Rattle.std.proofs.Math.Nat.{mul-zero, mul-suc, pow-le-pow_right}
use Rattle.std.proofs.Math.ListN.{length-append}
use Rattle.std.proofs.lemmas.List.{length-map}
use Rattle.model.specs.Basics.{Each, first_or}
use Rattle.model.specs.Moves.{Move, no_move}
use Rattle.model.specs.Tree.{Entry, Tree, empty, rooted, moves_under, moves_of, first_move, filled_tree, root_least}
use Rattle.model.proofs.Laws.Basics.{each-mono, each_append}
use Rattle.model.proofs.Laws.Tree.{Filled, filled-full, tree-full, root_least-range}
use Rattle.line.specs.Line.{Placed, line_at, line_of, moves_in}

abbrev pub row : Move → ℕ → Placed
row m k = record { move = m; height = k }

-- Every row is lower than l.
abbrev pub Low : ℕ → List Placed → Type 0
Low l = Each (λ r. r.height < l)

pub low-mono : (k l : ℕ) (rs : List Placed) → k ≤ l → Low k rs → Low l rs
low-mono k l rs h = each-mono (λ r. r.height < k) (λ r. r.height < l) rs (λ r g. le_trans g h)

-- ---- every node holds an entry

abbrev pub Whole : (h : ℕ) → Entry h → Type 0
Whole zero m = Unit {0}
Whole (suc h) es = (0 < length es) × Each (Whole h) es

abbrev pub WholeTree : Tree → Type 0
WholeTree empty = Unit {0}
WholeTree (rooted h es) = Whole (suc h) es

pub filled-whole : (h : ℕ) (e : Entry h) → Filled h e → Whole h e
filled-whole zero m f = tt
filled-whole (suc h) es f = let g = filled-full h es f in (omega (arith, g.least), each-mono (Filled h) (Whole h) es (filled-whole h) g.under)

pub tree-whole : (t : Tree) → filled_tree t ≡ true → WholeTree t
tree-whole empty f = tt
tree-whole (rooted h es) f =
    let g = tree-full h es f in
    (omega (arith, g.least, root_least-range h), each-mono (Filled h) (Whole h) es (filled-whole h) g.under)

-- ---- lists put end to end

module _ {A B : Type 0} (f : A → List B) where
  pub each-flat_map : (P : B → Type 0) → ((x : A) → Each P (f x)) → (xs : List A) → Each P (flat_map f xs)
  unfolding flat_map
  each-flat_map P g [] = tt
  each-flat_map P g (x ∷ xs) = each_append P (f x) (flat_map f xs) (g x) (each-flat_map P g xs)

  pub map-flat_map : {C : Type 0} (q : B → C) (g : A → List C) → ((x : A) → map q (f x) ≡ g x) → (xs : List A) → map q (flat_map f xs) ≡ flat_map g xs
  unfolding flat_map
  map-flat_map q g e [] = refl
  map-flat_map q g e (x ∷ xs) = map-append q (f x) (flat_map f xs) ∙ ap₂ ◌++◌ (e x) (map-flat_map q g e xs)

  -- Where each part is at least as long as a number.
  length-flat_map : (c : ℕ) (xs : List A) → Each (λ x. c ≤ length (f x)) xs → c * length xs ≤ length (flat_map f xs)
  unfolding flat_map
  length-flat_map c [] l = omega (arith, mul-zero c)
  length-flat_map c (x ∷ xs) l =
      omega (arith, mul-suc c (length xs), length-append (f x) (flat_map f xs), l.0, length-flat_map c xs l.1)

-- ---- the moves

pub line-moves : (h k : ℕ) (e : Entry h) → moves_in (line_at h k e) ≡ moves_under h e
unfolding moves_in line_at moves_under flat_map
line-moves zero k m = refl
line-moves (suc h) k [] = refl
line-moves (suc h) k (e ∷ es) =
    map-append (λ r. r.move) (line_at h k e) (flat_map (line_at h h) es)
    ∙ ap₂ ◌++◌ (line-moves h k e) (map-flat_map (line_at h h) (λ r. r.move) (moves_under h) (line-moves h h) es)

pub moves-line : (t : Tree) → moves_in (line_of t) ≡ moves_of t
unfolding line_of moves_of moves_in
moves-line empty = refl
moves-line (rooted h es) = line-moves (suc h) (suc h) es

length-moves_in : (rs : List Placed) → length (moves_in rs) ≡ length rs
unfolding moves_in
length-moves_in rs = length-map rs (λ r. r.move)

pub length-line : (t : Tree) → length (line_of t) ≡ length (moves_of t)
length-line t = sym (length-moves_in (line_of t)) ∙ ap length (moves-line t)

-- ---- the heights

-- What follows the first row.
unfoldable pub rest_at : (h : ℕ) → Entry h → List Placed
rest_at zero m = []
rest_at (suc h) [] = []
rest_at (suc h) (e ∷ es) = rest_at h e ++ flat_map (line_at h h) es

pub line_low : (l h k : ℕ) (e : Entry h) → k < l → h ≤ l → Low l (line_at h k e)
unfolding line_at
line_low l zero k m g i = (g, tt)
line_low l (suc h) k [] g i = tt
line_low l (suc h) k (e ∷ es) g i =
    each_append (λ r. r.height < l) (line_at h k e) (flat_map (line_at h h) es)
    (line_low l h k e g (omega arith))
    (each-flat_map (line_at h h) (λ r. r.height < l) (λ e. line_low l h h e i (omega arith)) es)

pub rest-low : (h : ℕ) (e : Entry h) → Low h (rest_at h e)
unfolding rest_at
rest-low zero m = tt
rest-low (suc h) [] = tt
rest-low (suc h) (e ∷ es) =
    each_append (λ r. r.height < suc h) (rest_at h e) (flat_map (line_at h h) es)
    (low-mono h (suc h) (rest_at h e) (omega arith) (rest-low h e))
    (each-flat_map (line_at h h) (λ r. r.height < suc h) (λ e. line_low (suc h) h h e (le_refl (suc h)) (omega arith)) es)

-- ---- the first row

first_or-append : {A : Type 0} (z : A) (xs ys : List A) → 0 < length xs → first_or z (xs ++ ys) ≡ first_or z xs
unfolding first_or
first_or-append z [] ys h = absurd (omega arith)
first_or-append z (x ∷ xs) ys h = refl

pub whole-moves : (h : ℕ) (e : Entry h) → Whole h e → 0 < length (moves_under h e)
unfolding moves_under flat_map
whole-moves zero m w = omega arith
whole-moves (suc h) [] w = absurd (omega arith)
whole-moves (suc h) (e ∷ es) w = omega (arith, length-append (moves_under h e) (flat_map (moves_under h) es), whole-moves h e w.1.0)

pub first-cons : (h : ℕ) (e : Entry h) (es : List (Entry h)) → Whole h e → first_move (suc h) (e ∷ es) ≡ first_move h e
unfolding first_move moves_under flat_map
first-cons h e es w = first_or-append no_move (moves_under h e) (flat_map (moves_under h) es) (whole-moves h e w)

pub line-cons : (h k : ℕ) (e : Entry h) → Whole h e → line_at h k e ≡ row (first_move h e) k ∷ rest_at h e
unfolding line_at rest_at first_move moves_under first_or
line-cons zero k m w = refl
line-cons (suc h) k [] w = absurd (omega arith)
line-cons (suc h) k (e ∷ es) w =
    ap (λ (rs : List Placed). rs ++ flat_map (line_at h h) es) (line-cons h k e w.1.0)
    ∙ ap (λ (m : Move). row m k ∷ (rest_at h e ++ flat_map (line_at h h) es)) (sym (first-cons h e es w.1.0))

-- ---- the depth

node-length : (h : ℕ) → ((e : Entry h) → Filled h e → 3 ^ h ≤ length (moves_under h e)) → (es : List (Entry h)) → Each (Filled h) es
    → 3 ^ h * length es ≤ length (moves_under (suc h) es)
unfolding moves_under
node-length h ih es f = length-flat_map (moves_under h) (3 ^ h) es (each-mono (Filled h) (λ e. 3 ^ h ≤ length (moves_under h e)) es ih f)

pub filled-length : (h : ℕ) (e : Entry h) → Filled h e → 3 ^ h ≤ length (moves_under h e)
unfolding moves_under
filled-length zero m f = omega arith
filled-length (suc h) es f =
    let g = filled-full h es f in
    omega (arith, node-length h (filled-length h) es g.under, pow-suc 3 h, mul-le-mul_left (3 ^ h) g.least)

-- An upper root holds two entries or more.
pub tree-length : (h : ℕ) (es : List (Entry (suc h))) → filled_tree (rooted (suc h) es) ≡ true → 2 * 3 ^ suc h ≤ length (line_of (rooted (suc h) es))
unfolding moves_of root_least
tree-length h es f =
    let g = tree-full (suc h) es f in
    omega (arith, node-length (suc h) (filled-length (suc h)) es g.under, mul-le-mul_left (3 ^ suc h) g.least, length-line (rooted (suc h) es))

pub tree-depth : (h : ℕ) (es : List (Entry h)) → filled_tree (rooted h es) ≡ true → length (line_of (rooted h es)) ≤ 4096 → h ≤ 6
tree-depth zero es f l = omega arith
tree-depth (suc h) es f l =
    le_of_suc-le-suc (lt_of_not-le (λ g. omega (arith, tree-length h es f, pow-le-pow_right {n = 3} (omega arith) {i = 7} {j = suc h} g)))
