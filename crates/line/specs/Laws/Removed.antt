-- The move taken out of a tree: what is left of the line, and the moves to enter again.
use Rattle.std.specs.Prelude.{ℕ, suc, ◌+◌, ◌-◌, ◌<◌, true, ◌≡◌, refl, length, drop}
use mathlib.Core.List.{List, [], ◌∷◌, ◌++◌, append-nil, Permᴰ}
use Rattle.std.proofs.Math.Path.{sym, ap, ap₂, subst}
use Rattle.std.proofs.Common.{◌∙◌, add-zero, arith}
use Rattle.std.proofs.Math.Nat.{add-sub_cancel_left}
use Rattle.std.proofs.Math.ListN.{take}
use Rattle.std.proofs.Math.Seq.{take-append_seam, drop-append_seam, drop-append-add}
use Rattle.model.specs.Moves.{Move}
use Rattle.model.specs.Tree.{Entry, rooted, moves_under, moves_of, filled_tree}
use Rattle.model.specs.Withdrawing.{without, Remainder, withdraw_node, settled}
use Rattle.model.proofs.Laws.Tree.{tree-full}
use Rattle.model.proofs.Laws.Withdrawing.{settled-moves}
use Rattle.line.specs.Line.{Placed, line_at, line_of, moves_in}
use Rattle.line.specs.Places.{height_at}
use Rattle.line.specs.Withdraw.{Range, widened, lifted, cut_out, lowered}
use Rattle.line.specs.Laws.Line.{tree-whole, line-moves}
use Rattle.line.specs.Laws.Places.{height-left, height-right}
use Rattle.line.specs.Laws.Taken.{holds}
use Rattle.line.specs.Laws.Rows.{moves_in-append, line-height}
use Rattle.line.specs.Laws.Remove.{own, NodeCut, Cut, root-removed}
use Rattle.line.specs.Laws.Lowered.{lowered-settled, lowered-own}

-- ---- a range cut out of a line

moves-lifted : (k : ℕ) (rs : List Placed) → moves_in (lifted k rs) ≡ moves_in rs
unfolding moves_in lifted
moves-lifted k [] = refl
moves-lifted k (r ∷ rs) = refl

module _ (front range back : List Placed) (some : 0 < length range) where
  abbrev cut_range : Range
  cut_range = record { from = length front; to = length front + length range }

  cut_parts : cut_out cut_range (front ++ (range ++ back)) ≡ front ++ lifted (height_at range 0) back
  unfolding cut_out
  cut_parts =
      ap₂ ◌++◌ (take-append_seam front (range ++ back))
      (ap₂ lifted
      (ap (height_at (front ++ (range ++ back))) (sym (add-zero (length front))) ∙ height-right front (range ++ back) 0 ∙ height-left range back 0 some)
      (drop-append-add front (range ++ back) (length range) ∙ drop-append_seam range back))

  range-parts : take (cut_range.to - cut_range.from) (drop cut_range.from (front ++ (range ++ back))) ≡ range
  range-parts =
      ap₂ take (add-sub_cancel_left (length front) (length range)) (drop-append_seam front (range ++ back)) ∙ take-append_seam range back

-- ---- the move is taken out

-- The range that goes with a move.
unfoldable pub range_of : ℕ → List Placed → Range
range_of n rs = widened (height_at rs 0) 0 (own n rs) rs

unfoldable pub range_rows : ℕ → List Placed → List Placed
range_rows n rs = take ((range_of n rs).to - (range_of n rs).from) (drop (range_of n rs).from rs)

-- The moves of a tree by where they go.
pub record Parted (n h : ℕ) (es : List (Entry h)) : Type 0 where
  pub before : List Move
  pub between : List Move
  pub after : List Move
  pub whole : moves_of (rooted h es) ≡ before ++ (between ++ after)
  pub left : moves_of (settled h (withdraw_node n h es).entries) ≡ before ++ after
  pub range : moves_in (range_rows n (line_of (rooted h es))) ≡ between
  pub taken : Permᴰ (withdraw_node n h es).moves (without n between)

module _ (n h : ℕ) (es : List (Entry h)) (f : filled_tree (rooted h es) ≡ true) (o : holds n (suc h) es ≡ 1) where
  abbrev rows : List Placed
  rows = line_at (suc h) (suc h) es

  node : NodeCut n rows h (suc h) es [] []
  node = root-removed n h es (tree-full h es f).under o

  abbrev c : Cut n rows (suc h) rows (line_at (suc h) (suc h) node.left) [] [] node.ms
  c = node.cut

  root-height : height_at rows 0 ≡ suc h
  root-height = line-height (suc h) (suc h) es (tree-whole (rooted h es) f)

  range-found : range_of n rows ≡ record { from = length c.front; to = length c.front + length c.range }
  unfolding range_of
  range-found = ap (λ (t : ℕ). widened t 0 (own n rows) rows) (root-height ∙ sym (add-zero (suc h))) ∙ c.widens 0

  parts-left : c.front ++ lifted (height_at c.range 0) c.back ≡ line_at (suc h) (suc h) node.left
  parts-left =
      ap (λ (rs : List Placed). c.front ++ lifted (height_at c.range 0) rs) (sym (append-nil c.back))
      ∙ c.closed
      ∙ append-nil (line_at (suc h) (suc h) node.left)

  line-left : cut_out (range_of n rows) rows ≡ line_at (suc h) (suc h) node.left
  line-left = ap₂ cut_out range-found c.parts ∙ cut_parts c.front c.range c.back c.some ∙ parts-left

  rows_taken : range_rows n rows ≡ c.range
  unfolding range_rows
  rows_taken =
      ap₂ (λ (g : Range) (rs : List Placed). take (g.to - g.from) (drop g.from rs)) range-found c.parts
      ∙ range-parts c.front c.range c.back c.some

  pub flat-remove : line_of (settled h (withdraw_node n h es).entries) ≡ lowered (height_at rows 0) (cut_out (range_of n rows) rows)
  flat-remove =
      ap (λ (l : Remainder h). line_of (settled h l.entries)) node.withdrawn
      ∙ sym (lowered-settled h node.left (suc h) node.full (omega arith))
      ∙ ap₂ lowered (sym root-height) (sym line-left)

  pub flat-remove-own : line_of (settled h (withdraw_node n h es).entries) ≡ lowered (height_at (cut_out (range_of n rows) rows) 0) (cut_out (range_of n rows) rows)
  flat-remove-own =
      ap (λ (l : Remainder h). line_of (settled h l.entries)) node.withdrawn
      ∙ sym (lowered-own h node.left node.full)
      ∙ ap (λ (rs : List Placed). lowered (height_at rs 0) rs) (sym line-left)

  pub parted : Parted n h es
  unfolding moves_of line_of
  parted =
      record {
        before = moves_in c.front;
        between = moves_in c.range;
        after = moves_in c.back;
        whole =
            sym (line-moves (suc h) (suc h) es)
            ∙ ap moves_in c.parts
            ∙ moves_in-append c.front (c.range ++ c.back)
            ∙ ap (λ (ms : List Move). moves_in c.front ++ ms) (moves_in-append c.range c.back);
        left =
            settled-moves h (withdraw_node n h es).entries
            ∙ ap (λ (l : Remainder h). moves_under (suc h) l.entries) node.withdrawn
            ∙ sym (line-moves (suc h) (suc h) node.left)
            ∙ ap moves_in (sym parts-left)
            ∙ moves_in-append c.front (lifted (height_at c.range 0) c.back)
            ∙ ap (λ (ms : List Move). moves_in c.front ++ ms) (moves-lifted (height_at c.range 0) c.back);
        range = ap moves_in rows_taken;
        taken = subst (λ (ms : List Move). Permᴰ ms (without n (moves_in c.range))) (sym (ap (λ (l : Remainder h). l.moves) node.withdrawn)) c.moves;
      }
