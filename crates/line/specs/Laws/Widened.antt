-- The range that goes with a move: it grows from node to node as nodes of the nest are removed.
use Rattle.std.specs.Prelude.{ℕ, suc, ◌+◌, ◌≤◌, ◌<◌, Bool, true, false, cond, List, [], ◌∷◌, ◌++◌, ◌≡◌, eqb, ltb, length, get_or}
use Rattle.std.proofs.Math.Path.{ap}
use Rattle.std.proofs.Common.{ap₂, ◌∙◌, arith, lt-ltb, le-ltb, ne_eqb, eq-eqb}
use Rattle.model.specs.Basics.{Each}
use Rattle.model.specs.Tree.{Entry}
use Rattle.model.proofs.Laws.Bool.{or_right, or_left, or-false-both}
use Rattle.line.specs.Line.{Placed, line_at, moves_in, heights_in}
use Rattle.line.specs.Places.{start_among, end_among, entries_among, height_at, node_start, node_end, entries}
use Rattle.line.specs.Withdraw.{place_of, Range, widened_among, widened}
use Rattle.line.specs.Laws.Line.{Whole}
use Rattle.line.specs.Laws.Places.{FirstAtLeast, height-among, entries_between}
use Rattle.line.specs.Laws.Entries.{node-start-at, node-end-at, count_entries}
use Rattle.line.specs.Laws.Taken.{numbered}

-- ---- the move's place

pub place-seam : (n : ℕ) (pre : List Placed) (r : Placed) (post : List Placed) → Each (λ m. numbered n m ≡ false) (moves_in pre)
    → numbered n r.move ≡ true → place_of n (pre ++ r ∷ post) ≡ length pre
unfolding place_of moves_in
place-seam n [] r post z o = ap (λ (b : Bool). cond b 0 (suc (place_of n post))) o
place-seam n (q ∷ pre) r post (z, zs) o =
    ap (λ (b : Bool). cond b 0 (suc (place_of n (pre ++ r ∷ post)))) z ∙ ap suc (place-seam n pre r post zs o)

-- ---- one turn of the widening

module _ (f l : ℕ) (g : Range) (ks : List ℕ) where
  abbrev node_from : ℕ
  node_from = start_among (suc l) g.from ks

  abbrev node_to : ℕ
  node_to = end_among (suc l) g.from ks

  abbrev root : Bool
  root = eqb (get_or ks 0 0) (suc l)

  abbrev held : ℕ
  held = entries_among l node_from node_to ks

  abbrev turn : Bool → Range
  turn b = elim b [ true ↦ g | false ↦ widened_among f (suc l) (record { from = node_from; to = node_to }) ks ]

  pub stops-at-root : get_or ks 0 0 ≡ suc l → widened_among (suc f) l g ks ≡ g
  unfolding widened_among
  stops-at-root e = ap turn (or_left root (ltb 3 held) (eq-eqb (get_or ks 0 0) (suc l) e))

  pub stops : 3 < held → widened_among (suc f) l g ks ≡ g
  unfolding widened_among
  stops c = ap turn (or_right root (ltb 3 held) (lt-ltb 3 held c))

  pub grows : suc l < get_or ks 0 0 → held ≤ 3 → widened_among (suc f) l g ks ≡ widened_among f (suc l) (record { from = node_from; to = node_to }) ks
  unfolding widened_among
  grows b c =
      ap turn (or-false-both root (ltb 3 held) (ne_eqb (get_or ks 0 0) (suc l) (λ e. omega arith)) (le-ltb 3 held c))

-- A node in its line, found from a place q rows behind its first.
module _ (h k : ℕ) (es : List (Entry h)) (w : Whole (suc h) es) (pre post rs : List Placed)
    (whole : rs ≡ pre ++ (line_at (suc h) k es ++ post)) (high : suc h ≤ k) (follows : FirstAtLeast (suc h) post)
    (i q : ℕ) (at : i ≡ length pre + q) (inside : q < length (line_at (suc h) k es)) where
  found-start : node_start (suc h) i rs ≡ length pre
  found-start = ap₂ (node_start (suc h)) at whole ∙ node-start-at (suc h) k es w pre post q inside high

  found-end : node_end (suc h) i rs ≡ length pre + length (line_at (suc h) k es)
  found-end = ap₂ (node_end (suc h)) at whole ∙ node-end-at (suc h) k es w pre post q inside follows

  found-entries : entries h (node_start (suc h) i rs) (node_end (suc h) i rs) rs ≡ length es
  found-entries =
      ap₂ (λ (s e : ℕ). entries h s e rs) found-start found-end
      ∙ ap (entries h (length pre) (length pre + length (line_at (suc h) k es))) whole
      ∙ entries_between h pre (line_at (suc h) k es) post
      ∙ count_entries h k es w.1 (omega arith)

  pub node-stops : 3 < length es → (f to : ℕ) → widened (suc f) h (record { from = i; to = to }) rs ≡ record { from = i; to = to }
  node-stops c f to = stops f h (record { from = i; to = to }) (heights_in rs) (omega (arith, found-entries))

  pub node-grows : length es ≤ 3 → suc h < height_at rs 0 → (f to : ℕ)
      → widened (suc f) h (record { from = i; to = to }) rs
      ≡ widened f (suc h) (record { from = length pre; to = length pre + length (line_at (suc h) k es) }) rs
  node-grows c b f to =
      grows f h (record { from = i; to = to }) (heights_in rs) (omega (arith, height-among rs 0)) (omega (arith, found-entries))
      ∙ ap₂ (λ (s e : ℕ). widened f (suc h) (record { from = s; to = e }) rs) found-start found-end
