-- A change that no check turns down is ready to be told and made.
use Rattle.std.specs.Prelude.{ℕ, suc, ◌<◌, ◌≤◌, Bool, true, false, ◌&&◌, ◌≡◌, Some, None}
use Rattle.std.specs.Option.{ForSome}
use Rattle.std.proofs.Math.Bool.{not}
use mathlib.Core.List.{List, [], ◌∷◌}
use Rattle.std.proofs.Math.Path.{refl, ap, ap₂, subst}
use Rattle.std.proofs.Common.{sym, ◌∙◌, ltb-true, ltb-false, leb-false}
use native.Mathlib.Omega.{arith}
use Rattle.std.proofs.lemmas.Bool.{not-false}
use Rattle.std.proofs.Math.Dec.{leb}
use Rattle.std.proofs.Math.ListN.{length-map}
use Rattle.zorder.specs.Address.{row_costs}
use Rattle.zorder.proofs.Laws.Address.{Costs}
use Rattle.zorder.specs.Refusal.{refusal, cost_past_bad}
use Rattle.model.specs.Basics.{distinct}
use Rattle.model.specs.Moves as model
use Rattle.model.specs.Moves.{insert}
use Rattle.model.specs.Withdrawing.{without}
use Rattle.model.specs.Calls as calls
use Rattle.model.specs.Calls.{block_bad, on_board, change_refusal, changed_moves}
use Rattle.model.specs.Sound.{Fit}
use Rattle.model.proofs.Laws.Basics.{each-mono}
use Rattle.model.proofs.Laws.Order.{has-numbers}
use Rattle.model.proofs.Laws.Numbers.{distinct-length}
use Rattle.zorder.proofs.Laws.Refusal.{first_passes, rest-passes}
use Rattle.model.proofs.Laws.Changes.{off-without}
use Rattle.model.proofs.Laws.Blocks.{block-most}
use Rattle.line.specs.Line.{moves_in}
use Rattle.promises.specs.Layout.{number_in, costs_in, line_from, board_in}
use Rattle.promises.specs.Run.{Bytes}
use Rattle.dominance.specs.Move.{as_move}
use Rattle.dominance.specs.declared.Move.{Move}
use Rattle.memory.specs.Held.{SoundRows}
use Rattle.memory.specs.Laws.Lines.{length-line}
use Rattle.memory.specs.Laws.Held.{held-fit, held-distinct}
use Rattle.tree.specs.Withdraw.{PlaceOf}
use Rattle.upkeep.specs.Change.{drop_at, moves_after, UpkeptRows}
use Rattle.upkeep.specs.Laws.Change.{rest-without}
use Rattle.upkeep.specs.declared.exchange.Exchange.{Exchange}
use Rattle.upkeep.specs.declared.exchange.Upkeep.{Upkeep}
use Rattle.planning.specs.Kind.{call_of, asked_number, coming_of, CostsOf, given_block, exchange_of}
use Rattle.planning.specs.Plan.{ReadyRows, PreparedFor}
use Rattle.planning.specs.declared.change.Change.{Change}
use Rattle.planning.specs.declared.change.Change.TheVariants.{Enter, Withdraw, Recost}
use Rattle.planning.proofs.Laws.Judge.{board-moves, judge-size, judge-past, on-board}
use Rattle.planning.proofs.Laws.Places.{entering-moves}
use Rattle.planning.proofs.Laws.Coming.{only, never}

-- The four checks, none of which turns the change down.
all_pass : (b : calls.Board) (number block : ℕ) (costs : List ℕ) (t : Bool) (k : ℕ)
    → refusal ((leb b.size number, 4) ∷ (block_bad block, 11) ∷ (cost_past_bad b.dimension costs, 7) ∷ (t, suc k) ∷ []) ≡ 0
    → (leb b.size number ≡ false) × (cost_past_bad b.dimension costs ≡ false) × (t ≡ false) × (block_bad block ≡ false)
all_pass b number block costs t k h =
    let large = leb b.size number in
    let past = cost_past_bad b.dimension costs in
    let high = rest-passes large 3 _ h in
    let rest = rest-passes (block_bad block) 10 _ high in
    (first_passes large 3 _ h, first_passes past 6 _ rest, first_passes t k [] (rest-passes past 6 _ rest), first_passes (block_bad block) 10 _ high)

module _ {c d n : ℕ} {m : List ℕ} (s : SoundRows c d n m) where
  abbrev ms : List model.Move
  ms = moves_in (line_from c d n m)

  move-fits : (x : Move) → Costs row_costs x.costs → leb (board_in m).size x.number ≡ false → cost_past_bad (board_in m).dimension x.costs ≡ false → Fit c d (as_move x)
  move-fits x w e f =
      record {
        number = leb-false c x.number (sym (judge-size c d n m s x.number) ∙ e);
        costs = record { count = w.count; small = w.small; past = sym (judge-past c d n m s x.costs) ∙ f };
      }

  found-place : (number p : ℕ) → PlaceOf c n number m p → not (on_board number (board_in m).moves) ≡ false → p < n
  found-place number p e h = ltb-true p n (sym (on-board c d n m s number p e) ∙ not-false (on_board number (board_in m).moves) h)

-- ---- enter

module _ {c d n : ℕ} {m : List ℕ} (s : SoundRows c d n m) (b : Bytes m) (x : Move) (block : ℕ) (w : Costs row_costs x.costs) where
  abbrev coming : Exchange
  coming = record { goes = n; coming = Some x }

  module _ (ok : change_refusal (board_in m) (calls.enter x.number block x.costs) ≡ 0) where
    enter-checks : (leb (board_in m).size x.number ≡ false) × (cost_past_bad (board_in m).dimension x.costs ≡ false) × (on_board x.number (board_in m).moves ≡ false) × (block_bad block ≡ false)
    unfolding change_refusal
    enter-checks = all_pass (board_in m) x.number block x.costs (on_board x.number (board_in m).moves) 4 ok

    enter-fit : Fit c d (as_move x)
    enter-fit = move-fits s x w enter-checks.0 enter-checks.1

    enter-off : on_board x.number (ms s) ≡ false
    enter-off = ap (on_board x.number) (sym (board-moves c d n m s)) ∙ enter-checks.2

    -- The numbers on the board and the new one are different, and below c.
    enter-space : n < c
    unfolding distinct moves_in
    enter-space =
        let once = ap₂ (λ (p q : Bool). not p && q) (has-numbers x.number (ms s) ∙ enter-off) (held-distinct c d n m s b) in
        let below = each-mono (Fit c d) (λ y. y.number < c) (ms s) (λ y f. f.number) (held-fit c d n m s b) in
        omega (
          arith,
          distinct-length (λ (y : model.Move). y.number) c (as_move x ∷ ms s) once (enter-fit.number, below),
          length-map (line_from c d n m) (λ r. r.move),
          length-line c d n m,
        )

    enter-ready : ReadyRows c d n coming m
    enter-ready =
        record {
          asked =
              record {
                sound = s;
                goes = omega arith;
                fit = only (λ y. Fit c d (as_move y)) enter-fit;
                new = only (λ y. on_board y.number (drop_at n (ms s)) ≡ false) (ap (on_board x.number) (entering-moves c d n m) ∙ enter-off);
              };
          space = λ _ _ _. enter-space;
          number = λ _ _ l. absurd (omega arith);
          place = λ e. never (λ _. n < n) x (sym e);
        }

-- ---- withdraw

module _ {c d n number p : ℕ} {m : List ℕ} (s : SoundRows c d n m) (e : PlaceOf c n number m p) where
  abbrev leaving : Exchange
  leaving = record { goes = p; coming = None }

  module _ (ok : change_refusal (board_in m) (calls.withdraw number) ≡ 0) where
    withdraw-place : p < n
    unfolding change_refusal
    withdraw-place =
        let large = leb (board_in m).size number in
        found-place s number p e (first_passes (not (on_board number (board_in m).moves)) 5 [] (rest-passes large 3 _ ok))

    withdraw-ready : ReadyRows c d n leaving m
    withdraw-ready =
        record {
          asked =
              record {
                sound = s;
                goes = e.within;
                fit = never (λ y. Fit c d (as_move y));
                new = never (λ y. on_board y.number (drop_at p (ms s)) ≡ false);
              };
          space = never (λ _. n ≤ p → n < c);
          number = never (λ y. p < n → number_in c m p ≡ y.number);
          place = λ _. withdraw-place;
        }

-- ---- re-cost

pub recost-on : (b : calls.Board) (number block : ℕ) (costs : List ℕ) → change_refusal b (calls.recost number block costs) ≡ 0 → on_board number b.moves ≡ true
unfolding change_refusal
recost-on b number block costs ok =
    not-false (on_board number b.moves) (all_pass b number block costs (not (on_board number b.moves)) 5 ok).2

module _ {c d n p : ℕ} {m : List ℕ} (s : SoundRows c d n m) (b : Bytes m) (x : Move) (block : ℕ) (w : Costs row_costs x.costs) (e : PlaceOf c n x.number m p) where
  abbrev moving : Exchange
  moving = record { goes = p; coming = Some x }

  module _ (ok : change_refusal (board_in m) (calls.recost x.number block x.costs) ≡ 0) where
    recost-checks : (leb (board_in m).size x.number ≡ false) × (cost_past_bad (board_in m).dimension x.costs ≡ false) × (not (on_board x.number (board_in m).moves) ≡ false) × (block_bad block ≡ false)
    unfolding change_refusal
    recost-checks = all_pass (board_in m) x.number block x.costs (not (on_board x.number (board_in m).moves)) 5 ok

    pub recost-place : p < n
    recost-place = found-place s x.number p e recost-checks.2

    recost-rest : drop_at p (ms s) ≡ without x.number (ms s)
    recost-rest = rest-without c d n p m s b recost-place ∙ ap (λ (k : ℕ). without k (ms s)) (e.found recost-place)

    recost-ready : ReadyRows c d n moving m
    recost-ready =
        record {
          asked =
              record {
                sound = s;
                goes = e.within;
                fit = only (λ y. Fit c d (as_move y)) (move-fits s x w recost-checks.0 recost-checks.1);
                new = only (λ y. on_board y.number (drop_at p (ms s)) ≡ false) (ap (on_board x.number) recost-rest ∙ off-without x.number (ms s));
              };
          space = λ _ _ l. absurd (omega (arith, recost-place));
          number = only (λ y. p < n → number_in c m p ≡ y.number) (λ _. e.found recost-place);
          place = λ f. never (λ _. p < n) x (sym f);
        }

-- ---- each kind of change

module _ {c d n p : ℕ} {m : List ℕ} (s : SoundRows c d n m) (b : Bytes m) (x : Move) (block : ℕ) (w : Costs row_costs x.costs) (e : PlaceOf c n x.number m p) where
  -- A number that is not on the board has the place past the last.
  pub enter-last : change_refusal (board_in m) (calls.enter x.number block x.costs) ≡ 0 → p ≡ n
  enter-last ok =
      omega (arith, e.within, ltb-false p n (sym (on-board c d n m s x.number p e) ∙ (enter-checks s b x block w ok).2))

module _ {c d n p : ℕ} {m : List ℕ} (s : SoundRows c d n m) (b : Bytes m) where
  pub kind-ready : (x : Change) → CostsOf x → PlaceOf c n (asked_number x) m p → change_refusal (board_in m) (call_of x) ≡ 0 → ReadyRows c d n (exchange_of x p) m
  kind-ready (Enter y block) w e ok =
      subst (λ (g : ℕ). ReadyRows c d n (record { goes = g; coming = Some y }) m) (sym (enter-last s b y block (w y refl) e ok)) (enter-ready s b y block (w y refl) ok)
  kind-ready (Withdraw number) w e ok = withdraw-ready s e ok
  kind-ready (Recost y block) w e ok = recost-ready s b y block (w y refl) e ok

  -- The moves that it leaves.
  pub kind-moves : (x : Change) → CostsOf x → PlaceOf c n (asked_number x) m p → change_refusal (board_in m) (call_of x) ≡ 0
      → moves_after d (exchange_of x p) (moves_in (line_from c d n m)) ≡ changed_moves d (call_of x) (moves_in (line_from c d n m))
  unfolding moves_after changed_moves
  kind-moves (Enter y block) w e ok =
      ap (insert d (as_move y)) (ap (λ (g : ℕ). drop_at g (ms s)) (enter-last s b y block (w y refl) e ok) ∙ entering-moves c d n m)
  kind-moves (Withdraw number) w e ok =
      let l = withdraw-place s e ok in
      rest-without c d n p m s b l ∙ ap (λ (k : ℕ). without k (ms s)) (e.found l)
  kind-moves (Recost y block) w e ok = ap (insert d (as_move y)) (recost-rest s b y block (w y refl) e ok)

  -- What making its moves asks.
  pub kind-prepared : (x : Change) → CostsOf x → PlaceOf c n (asked_number x) m p → {u : Upkeep} → change_refusal (board_in m) (call_of x) ≡ 0
      → ForSome (coming_of x) (λ y. p < n → costs_in c d m (number_in c m p) ≡ y.costs → ⊥)
      → UpkeptRows c d n (exchange_of x p) m u
      → PreparedFor x (record { size = c; dimension = d; count = n }) p u m
  unfolding PreparedFor
  kind-prepared (Enter y block) w e {u} ok other up =
      let ready = enter-ready s b y block (w y refl) ok in
      record {
        asked = ready.asked;
        space = enter-space s b y block (w y refl) ok;
        upkept = subst (λ (g : ℕ). UpkeptRows c d n (record { goes = g; coming = Some y }) m u) (enter-last s b y block (w y refl) e ok) up;
      }
  kind-prepared (Withdraw number) w e ok other up =
      let ready = withdraw-ready s e ok in
      let l = withdraw-place s e ok in
      (record { asked = ready.asked; place = l; upkept = up }, e.found l)
  kind-prepared (Recost y block) w e ok other up =
      let ready = recost-ready s b y block (w y refl) e ok in
      let l = recost-place s b y block (w y refl) e ok in
      record { asked = ready.asked; place = l; number = e.found l; other = other y refl l; upkept = up }

  -- The block that an accepted change gives.
  pub kind-block : (x : Change) → CostsOf x → PlaceOf c n (asked_number x) m p → change_refusal (board_in m) (call_of x) ≡ 0 → ForSome (given_block x) (λ block. (asked_number x < c) × (block ≤ 63))
  kind-block (Enter y block) w e ok =
      let h = enter-checks s b y block (w y refl) ok in
      only (λ (k : ℕ). (y.number < c) × (k ≤ 63)) (leb-false c y.number (sym (judge-size c d n m s y.number) ∙ h.0), block-most block h.3)
  kind-block (Withdraw number) w e ok = never (λ (k : ℕ). (number < c) × (k ≤ 63))
  kind-block (Recost y block) w e ok =
      let h = recost-checks s b y block (w y refl) e ok in
      only (λ (k : ℕ). (y.number < c) × (k ≤ 63)) (leb-false c y.number (sym (judge-size c d n m s y.number) ∙ h.0), block-most block h.3)
