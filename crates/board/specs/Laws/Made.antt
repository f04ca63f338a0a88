-- The end of every change: rows that hold the new tree, flags that say who is in its list, and then the count.
use Rattle.std.specs.Prelude.{ℕ, ◌<◌, ◌≡◌}
use Rattle.std.proofs.Math.Bool.{not}
use mathlib.Core.List.{List}
use Rattle.std.proofs.Common.{sym, ◌∙◌, arith}
use Rattle.std.proofs.Math.Path.{ap, ap₂, subst}
use Rattle.std.proofs.Math.Dec.{eqb}
use Rattle.zorder.specs.Refusal.{cost_count_bad}
use Rattle.model.specs.Basics.{Each}
use Rattle.model.specs.Moves.{Move}
use Rattle.model.specs.Lists.{hidden, skyline}
use Rattle.model.specs.Tree.{Tree, moves_of, ruled}
use Rattle.model.specs.Calls.{Change, changed_moves, size_bad, memory_need}
use Rattle.model.specs.Changing.{change_tree}
use Rattle.model.proofs.Laws.Basics.{each-mono, select-ext}
use Rattle.line.specs.Line.{moves_in, line_of}
use Rattle.line.specs.Laws.Line.{moves-line}
use Rattle.promises.specs.Layout.{size_in, dimension_in, count_in, flag_in, move_in, placed_in, line_from, line_in, kept_from, kept_in}
use Rattle.promises.specs.Sound.{Stands}
use Rattle.promises.proofs.Laws.Tab.{each-tab}
use Rattle.memory.specs.Held.{SoundRows}
use Rattle.memory.specs.Stores.{set_count}
use Rattle.memory.specs.Frame.{DifferWithin, MovesOnly}
use Rattle.memory.specs.Laws.Written.{only-trans, count-written, size-left, dimension-left, format-left}
use Rattle.memory.specs.Laws.Fields.{number-over-head, flag-over-head}
use Rattle.memory.specs.Laws.Stored.{set_count-head, count-set_count, size-set_count, dimension-set_count, format-set_count}
use Rattle.memory.specs.Laws.Lines.{line_in-line, line-over-head}
use Rattle.tree.specs.Hold.{RowsHold}
use Rattle.planning.specs.Change.{Moved}

-- The flag of each of the moves says whether it is in their list.
abbrev pub FlagsRight : ℕ → ℕ → List ℕ → List Move → Type 0
FlagsRight c d m ms = Each (λ x. eqb (flag_in c m x.number) 1 ≡ not (hidden d ms x)) ms

module _ {c d n k : ℕ} {m m₁ : List ℕ} {t : Tree} (s : SoundRows c d n m) (f : MovesOnly c m m₁) (h : RowsHold c d k m₁ t)
    (flags : FlagsRight c d m₁ (moves_of t)) where
  abbrev m' : List ℕ
  m' = set_count k m₁

  abbrev head : DifferWithin 0 16 m₁ (set_count k m₁)
  head = set_count-head k m₁

  size : size_in m' ≡ c
  size = size-set_count k m₁ ∙ size-left c f ∙ sym s.size

  dimension : dimension_in m' ≡ d
  dimension = dimension-set_count k m₁ ∙ dimension-left c f ∙ sym s.dimension

  count : count_in m' ≡ k
  count = count-set_count k m₁ (omega (arith, h.readable.room))

  line-is : line_in m' ≡ line_from c d k m'
  line-is = line_in-line c d k m' size dimension count

  line : line_in m' ≡ line_of t
  line = line-is ∙ line-over-head c d k head ∙ h.line

  moves : moves_in (line_in m') ≡ moves_of t
  moves = ap moves_in line ∙ moves-line t

  numbers : Each (λ r. r.move.number < c) (line_from c d k m')
  unfolding line_from placed_in move_in
  numbers =
      each-tab (placed_in c d m') (λ r. r.move.number < c) k
      (λ i l. subst (λ (v : ℕ). v < c) (sym (number-over-head c head i)) (h.readable.numbers i l))

  kept : kept_in m' ≡ skyline (dimension_in m') (moves_of t)
  unfolding kept_in kept_from skyline
  kept =
      ap₂ (λ (v : ℕ) (ms : List Move). kept_from v m' ms) size moves
      ∙ select-ext (λ x. eqb (flag_in c m' x.number) 1) (λ x. not (hidden d (moves_of t) x)) (moves_of t)
      (each-mono (λ x. eqb (flag_in c m₁ x.number) 1 ≡ not (hidden d (moves_of t) x)) (λ x. eqb (flag_in c m' x.number) 1 ≡ not (hidden d (moves_of t) x)) (moves_of t)
      (λ x e. ap (λ (v : ℕ). eqb v 1) (flag-over-head c head x.number) ∙ e) flags)
      ∙ ap (λ (v : ℕ). skyline v (moves_of t)) (sym dimension)

  stands : Stands m' t
  unfolding memory_need
  stands =
      record {
        size = ap size_bad (size ∙ s.size) ∙ s.sound.stands.size;
        dimension = ap cost_count_bad (dimension ∙ s.dimension) ∙ s.sound.stands.dimension;
        format = format-set_count k m₁ ∙ format-left c f ∙ s.sound.stands.format;
        room = omega (arith, size, h.readable.room, head.length);
        count = omega (arith, count, size, h.readable.rows);
        numbers = subst (λ (v : ℕ). Each (λ r. r.move.number < v) (line_in m')) (sym size) (subst (Each (λ r. r.move.number < c)) (sym line-is) numbers);
        line = line;
        rules = ap (λ (v : ℕ). ruled v t) dimension ∙ h.rules;
        kept = kept;
      }

  all : MovesOnly c m m'
  all = only-trans f (count-written c k m₁)

-- The same for a change of the board that sound memory holds.
pub made : {c d n k : ℕ} {m m₁ m' : List ℕ} (s : SoundRows c d n m) (x : Change) (t : Tree) → MovesOnly c m m₁ → RowsHold c d k m₁ (change_tree d x t)
    → moves_of (change_tree d x t) ≡ changed_moves d x (moves_in (line_from c d n m))
    → FlagsRight c d m₁ (changed_moves d x (moves_in (line_from c d n m)))
    → m' ≡ set_count k m₁
    → Moved x m m' t
unfolding line_in
made {c} {d} {n} {k} {m} {m₁} s x t f h e flags is =
    let right = subst (FlagsRight c d m₁) (sym e) flags in
    subst (λ (w : List ℕ). Moved x m w t) (sym is)
    (record {
      stands = subst (λ (d : ℕ). Stands (set_count k m₁) (change_tree d x t)) s.dimension (stands s f h right);
      moves = moves s f h right ∙ e ∙ (λ i. changed_moves (s.dimension i) x (moves_in (line_from (s.size i) (s.dimension i) (s.count i) m)));
      only = subst (λ (c : ℕ). MovesOnly c m (set_count k m₁)) s.size (all s f h right);
    })
