-- The refusal of a change, from the answers of its checks on sound memory.
use Rattle.std.specs.Prelude.{ℕ, suc, Bool, true, false, cond, not, ◌||◌, List, [], ◌∷◌, ◌≡◌, refl, ltb, eqb, length, Result, ⊤}
use Rattle.std.proofs.Common.{zero-le, suc-le-suc, sym, ap₂, ◌∙◌, lt-ltb}
use Rattle.std.proofs.Math.Path.{ap}
use Rattle.std.proofs.Math.Dec.{leb, leb-suc-suc}
use Rattle.zorder.specs.Refusal.{refusal, cost_past_bad}
use Rattle.model.specs.Basics.{any}
use Rattle.model.specs.Calls as calls
use Rattle.model.specs.Calls.{on_board, change_refusal}
use Rattle.line.specs.Line.{Placed, moves_in}
use Rattle.line.specs.Withdraw.{place_of}
use Rattle.promises.specs.Layout.{board_in, line_from}
use Rattle.promises.specs.Answers.{check_number}
use Rattle.promises.specs.declared.Reason.{Reason}
use Rattle.memory.specs.Held.{SoundRows}
use Rattle.memory.specs.Laws.Lines.{length-line, line_in-line}
use Rattle.tree.specs.Withdraw.{PlaceOf}
use Rattle.memory.specs.declared.head.Head.{Head}
use Rattle.planning.specs.Kind.{call_of, asked_number, gets_bad_block, gets_past_cost, is_new, JudgesBy}
use Rattle.planning.specs.declared.change.Change.{Change}
use Rattle.planning.specs.declared.change.Change.TheVariants.{Enter, Withdraw, Recost}

found-step : (b : Bool) (p l : ℕ) → b || ltb p l ≡ ltb (cond b 0 (suc p)) (suc l)
found-step true p l = sym (lt-ltb 0 (suc l) (suc-le-suc zero-le))
found-step false p l = sym (leb-suc-suc (suc p) l)

-- A number is on the board if its place is one of the line's.
on_line : (n : ℕ) (rs : List Placed) → on_board n (moves_in rs) ≡ ltb (place_of n rs) (length rs)
unfolding on_board moves_in place_of any
on_line n [] = refl
on_line n (r ∷ rs) =
    ap (λ (b : Bool). eqb r.move.number n || b) (on_line n rs)
    ∙ found-step (eqb r.move.number n) (place_of n rs) (length rs)

pub board-moves : (c d n : ℕ) (m : List ℕ) → SoundRows c d n m → (board_in m).moves ≡ moves_in (line_from c d n m)
unfolding board_in
board-moves c d n m s = ap moves_in (line_in-line c d n m (sym s.size) (sym s.dimension) (sym s.count))

module _ (c d n : ℕ) (m : List ℕ) (s : SoundRows c d n m) where
  pub judge-size : (number : ℕ) → leb (board_in m).size number ≡ leb c number
  unfolding board_in
  judge-size number = ap (λ (k : ℕ). leb k number) (sym s.size)

  pub judge-past : (costs : List ℕ) → cost_past_bad (board_in m).dimension costs ≡ cost_past_bad d costs
  unfolding board_in
  judge-past costs = ap (λ (k : ℕ). cost_past_bad k costs) (sym s.dimension)

  pub on-board : (number p : ℕ) → PlaceOf c n number m p → on_board number (board_in m).moves ≡ ltb p n
  on-board number p e =
      ap (on_board number) (board-moves c d n m s)
      ∙ on_line number (line_from c d n m)
      ∙ ap₂ ltb (sym (e.is d)) (length-line c d n m)

-- ---- the checks of each kind of change

refusal-of : (x : Change) (b : calls.Board)
    → change_refusal b (call_of x)
    ≡ refusal
    ((leb b.size (asked_number x), 4)
    ∷ (gets_bad_block x, 11)
    ∷ (gets_past_cost b.dimension x, 7)
    ∷ (cond (is_new x) (on_board (asked_number x) b.moves) (not (on_board (asked_number x) b.moves)), cond (is_new x) 5 6)
    ∷ [])
unfolding change_refusal refusal
refusal-of (Enter coming block) b = refl
refusal-of (Withdraw number) b = refl
refusal-of (Recost coming block) b = refl

-- Each check by its answer, known or not.
pub judges-by : (h : Head) (x : Change) (on : Bool) {o : Result ⊤ Reason} (large high past new : Bool) → leb h.size (asked_number x) ≡ large
    → gets_bad_block x ≡ high
    → gets_past_cost h.dimension x ≡ past
    → is_new x ≡ new
    → check_number o ≡ refusal ((large, 4) ∷ (high, 11) ∷ (past, 7) ∷ (cond new on (not on), cond new 5 6) ∷ [])
    → JudgesBy h x on o
judges-by h x on large high past new e k f g a =
    record {
      is = λ b size dimension o.
          a
          ∙ sym
          (refusal-of x b
          ∙ (λ i.
          refusal
          (((ap (λ (k : ℕ). leb k (asked_number x)) size ∙ e) i, 4)
          ∷ (k i, 11)
          ∷ ((ap (λ (k : ℕ). gets_past_cost k x) dimension ∙ f) i, 7)
          ∷ (cond (g i) (o i) (not (o i)), cond (g i) 5 6)
          ∷ [])));
    }

pub judged : {c d n p : ℕ} {m : List ℕ} (s : SoundRows c d n m) {x : Change} {o : Result ⊤ Reason} → PlaceOf c n (asked_number x) m p
    → JudgesBy (record { size = c; dimension = d; count = n }) x (ltb p n) o → check_number o ≡ change_refusal (board_in m) (call_of x)
unfolding board_in
judged {c} {d} {n} {p} {m} s {x = x} e j =
    j.is (board_in m) (sym s.size) (sym s.dimension) (on-board c d n m s (asked_number x) p e)
