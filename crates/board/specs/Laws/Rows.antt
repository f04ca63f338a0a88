-- Rows that hold a tree: those of sound memory, and what the stores leave of them.
use Rattle.std.specs.Prelude.{ℕ, ◌≤◌, ◌<◌, true, false, ◌≢◌, ◌≡◌, length}
use mathlib.Core.List.{List}
use Rattle.std.proofs.Common.{sym, ◌∙◌, arith}
use Rattle.std.proofs.Math.Path.{ap, subst}
use borrow.Author.Tests.{eqb-false}
use Rattle.std.proofs.Math.Dec.{eqb}
use Rattle.std.proofs.Math.ListN.{get_or}
use Rattle.zorder.specs.Address.{row_costs}
use Rattle.model.specs.Basics.{Each}
use Rattle.model.specs.Moves.{Move}
use Rattle.model.specs.Tree.{Tree, moves_of, ruled}
use Rattle.model.specs.Calls.{on_board}
use Rattle.model.specs.Sound.{Fit}
use Rattle.model.proofs.Laws.Basics.{any_false}
use Rattle.line.specs.Line.{Placed, none, moves_in}
use Rattle.line.specs.Laws.Line.{moves-line}
use Rattle.promises.specs.Layout.{number_in, costs_in, move_in, placed_in, line_from}
use Rattle.promises.specs.Sound.{Stands}
use Rattle.promises.specs.Run.{Bytes}
use Rattle.memory.specs.Room.{Numbers, ReadableRows}
use Rattle.memory.specs.Held.{SoundRows}
use Rattle.memory.specs.Stores.{set_costs}
use Rattle.memory.specs.Frame.{DifferWithin, FlagsOnly}
use Rattle.memory.specs.Laws.Frames.{room-over}
use Rattle.memory.specs.Laws.Stored.{set_costs-frame}
use Rattle.memory.specs.Laws.Places.{tab-each}
use Rattle.memory.specs.Laws.Lines.{get_or-line, moves_in-line, line-over-flags, line-set_costs}
use Rattle.memory.specs.Laws.Held.{held-readable, held-line, held-fit, held-once}
use Rattle.tree.specs.Hold.{RowsHold}
use Rattle.tree.specs.Enter.{EnterAsked}
use Rattle.upkeep.specs.Flag.{Once}

-- The rows of sound memory hold every tree that stands in it.
pub holds-sound : {c d n : ℕ} {m : List ℕ} → SoundRows c d n m → Bytes m → (t : Tree) → Stands m t → RowsHold c d n m t
holds-sound {c} {d} {n} {m} s b t stands =
    let line = held-line c d n m s t stands in
    record {
      readable = held-readable s;
      line = line;
      rules = subst (λ (d : ℕ). ruled d t ≡ true) (sym s.dimension) stands.rules;
      fits = subst (Each (Fit c d)) (ap moves_in line ∙ moves-line t) (held-fit c d n m s b);
    }

-- What setting the flags asks.
pub flags-asked : {c d n : ℕ} {m : List ℕ} → SoundRows c d n m → Bytes m → ReadableRows c d n m × Once c n m
flags-asked {c} {d} {n} {m} s b = (held-readable s, held-once c d n m s b)

module _ {c d n : ℕ} {m : List ℕ} {t : Tree} (h : RowsHold c d n m t) where
  -- What setting the count asks.
  pub holds-counted : (16 ≤ length m) × (n < 65536)
  holds-counted = omega (arith, h.readable.room, h.readable.rows)

  pub holds-moves : moves_in (line_from c d n m) ≡ moves_of t
  holds-moves = ap moves_in h.line ∙ moves-line t

  -- No row has a number that the tree has not.
  pub holds-absent : (k : ℕ) → on_board k (moves_of t) ≡ false → (i : ℕ) → i < n → number_in c m i ≢ k
  unfolding on_board move_in
  holds-absent k off i l =
      eqb-false (number_in c m i) k
      (tab-each (move_in c d m) (λ x. eqb x.number k ≡ false) n i l
      (subst (Each (λ x. eqb x.number k ≡ false)) (sym holds-moves ∙ moves_in-line c d n m) (any_false (λ x. eqb x.number k) (moves_of t) off)))

  same_numbers : (m' : List ℕ) → line_from c d n m' ≡ line_from c d n m → Numbers c n m'
  unfolding placed_in move_in
  same_numbers m' e i l =
      subst (λ (k : ℕ). k < c)
      (ap (λ (r : Placed). r.move.number) (sym (get_or-line c d n m i l) ∙ ap (λ (rs : List Placed). get_or rs i none) (sym e) ∙ get_or-line c d n m' i l))
      (h.readable.numbers i l)

  -- The same line, the same tree.
  pub holds_same : {a b : ℕ} {m' : List ℕ} → DifferWithin a b m m' → line_from c d n m' ≡ line_from c d n m → RowsHold c d n m' t
  holds_same {m' = m'} f e =
      record {
        readable =
            record {
              room = room-over c f h.readable.room;
              rows = h.readable.rows;
              numbers = same_numbers m' e;
              dimension = h.readable.dimension;
            };
        line = e ∙ h.line;
        rules = h.rules;
        fits = h.fits;
      }

  pub holds-over-flags : {m' : List ℕ} → FlagsOnly c m m' → RowsHold c d n m' t
  holds-over-flags f = holds_same f (line-over-flags c d n f h.readable.rows)

  -- The costs of a number that the tree has not.
  pub holds-set_costs : (k : ℕ) (costs : List ℕ) → k < c → length costs ≤ row_costs → on_board k (moves_of t) ≡ false → RowsHold c d n (set_costs c k costs m) t
  holds-set_costs k costs l few off =
      holds_same (set_costs-frame c k costs m)
      (line-set_costs c d n m k costs l few h.readable.rows h.readable.dimension (holds-absent k off))

  -- A move that may be entered.
  pub enter-asked : (x : Move) → n < c → Fit c d x → costs_in c d m x.number ≡ x.costs → on_board x.number (moves_of t) ≡ false → EnterAsked c d n x m
  enter-asked x space fit stored off =
      record {
        tree = record { tree = t; holds = h };
        space = space;
        enterable = λ u k.
            record {
              fit = fit;
              stored = stored;
              new = ap (on_board x.number) (sym (moves-line u) ∙ ap moves_in (sym k.line) ∙ holds-moves) ∙ off;
            };
      }
