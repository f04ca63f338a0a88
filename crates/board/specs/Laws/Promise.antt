-- A plan that is told and carried out keeps the promise of its change.
use Prim.Native.Nat.{ℕ, zero, suc, ◌<◌}
use Rattle.std.specs.Prelude.{true, false, Option, Some, None, ◌≡◌, get_or}
use Rattle.std.specs.Option.{ForSome, ForNone}
use mathlib.Core.List.{List, ◌++◌, map}
use Rattle.std.proofs.Math.Path.{refl, ap, ap₂}
use Rattle.std.proofs.Common.{sym, ◌∙◌, subst, arith}
use Rattle.std.proofs.Math.Decide.{dec_lt}
use Rattle.std.proofs.Math.ListN.{length, drop}
use Rattle.std.proofs.lemmas.List.{length-map}
use Rattle.model.specs.Moves.{Row}
use Rattle.model.specs.Calls as calls
use Rattle.model.specs.Calls.{change_refusal, change_answer, change_notice, changed, keeps_moves, changes_nothing}
use Rattle.model.specs.Changing.{change_tree}
use Rattle.model.proofs.Laws.Changes.{accepted-passes, nothing-keeps}
use Rattle.promises.specs.Layout.{size_in, dimension_in, board_in}
use Rattle.promises.specs.Sound.{Sound}
use Rattle.promises.specs.Answers.{Verdict, number_of, result_row, rows_after}
use Rattle.promises.specs.Written.{block_writes, change_writes}
use Rattle.promises.specs.Promise.{MemoryAfter, ChangeSaid, ChangePromise}
use Rattle.memory.specs.Stores.{set_block}
use Rattle.rows.specs.Telling.{filled_rows}
use Rattle.rows.specs.Planned.{answered, put}
use Rattle.rows.specs.Laws.Telling.{filled-length}
use Rattle.rows.proofs.Planned.{foreseen-said, foreseen-unsaid, tells-put, tells_none, put_both}
use Rattle.planning.specs.Kind.{call_of, asked_number, given_block}
use Rattle.planning.specs.Change.{Made}
use Rattle.planning.specs.Plan.{CarriedOut, Planned, left_of, rows_filled}
use Rattle.board.specs.Laws.Give.{kept-given, given-alone, given-again}
use Rattle.planning.specs.declared.change.Change.{Change}
use Rattle.planning.specs.declared.plan.ChangePlan.{ChangePlan}
use Rattle.planning.specs.declared.plan.Places.{Places}

-- ---- the rows

module _ {x : Change} {m : List ℕ} {p : ChangePlan} (rows : List (List ℕ)) (plan : Planned x m (length (map result_row rows)) p) where
  lent : length (map result_row rows) ≡ length rows
  lent = length-map rows result_row

  first : List (List ℕ)
  first = filled_rows (left_of p).told (left_of p).numbers m 0 (left_of p).count rows

  accepted-rows : number_of p.verdict ≡ 0 → map result_row (rows_filled p m rows) ≡ change_notice (board_in m) (call_of x) ++ drop (length (change_notice (board_in m) (call_of x))) (map result_row rows)
  unfolding first
  accepted-rows z =
      let before = tells-put plan.leaves rows 0 (omega (arith, plan.enough, lent)) z in
      let long : length first ≡ length rows = filled-length (left_of p).told (left_of p).numbers m rows 0 (left_of p).count in
      tells-put plan.enters first (left_of p).count (omega (arith, plan.enough, lent, long)) z
      ∙ ap₂ (λ (k : ℕ) (l : List Row). put k plan.entereds l) (plan.leaves.count z) before
      ∙ put_both plan.lefts plan.entereds (map result_row rows)
      ∙ ap (λ (new : List Row). new ++ drop (length new) (map result_row rows)) (plan.notice z)

  refused-rows : 0 < number_of p.verdict → rows_filled p m rows ≡ rows
  unfolding first
  refused-rows h = tells_none plan.enters first (left_of p).count h ∙ tells_none plan.leaves rows 0 h

  pub plan-rows : map result_row (rows_filled p m rows) ≡ rows_after (number_of p.verdict) (change_notice (board_in m) (call_of x)) (map result_row rows)
  unfolding rows_after
  plan-rows = by (number_of p.verdict) refl
    where
      by : (k : ℕ) → number_of p.verdict ≡ k → map result_row (rows_filled p m rows) ≡ rows_after k (change_notice (board_in m) (call_of x)) (map result_row rows)
      by zero e = accepted-rows e
      by (suc k) e = ap (map result_row) (refused-rows (omega (arith, e)))

  -- A plan that is told says what is said of its change, carried out or not.
  pub plan-said : {after : List Row} → after ≡ map result_row (rows_filled p m rows) → ChangeSaid (call_of x) m (map result_row rows) (answered p.verdict p.need p.opened) after
  unfolding change_answer
  plan-said {after} e =
      record {
        sound = foreseen-said plan.foreseen (map result_row rows) after (e ∙ plan-rows);
        unsound = foreseen-unsaid plan.foreseen (map result_row rows) after (e ∙ plan-rows);
      }

-- ---- the memory

module _ {x : Change} {m m' : List ℕ} {lent : ℕ} {p : ChangePlan} (plan : Planned x m lent p) (out : CarriedOut p m m') where
  accepted-made : number_of p.verdict ≡ 0 → (o : Option Places) → p.places ≡ o → Made (call_of x) m out.between
  accepted-made e (Some q) f = subst (λ (y : Change). Made (call_of y) m out.between) plan.change ((out.moves e).made q f)
  accepted-made e None f = subst (Made (call_of x) m) (sym ((out.moves e).idle f)) (plan.idle e f)

  accepted-passed : Sound m → number_of p.verdict ≡ 0 → change_refusal (board_in m) (call_of x) ≡ 0
  unfolding change_answer
  accepted-passed s z =
      accepted-passes (board_in m) (call_of x) lent (sym (ap (λ (a : calls.Answer). a.number) (plan.foreseen.sound s)) ∙ z)

  block-given : number_of p.verdict ≡ 0 → ForSome (given_block x) (λ block. m' ≡ set_block (size_in m) (asked_number x) block out.between)
  block-given z block e =
      out.given z block (ap (λ (y : Change). given_block y) plan.change ∙ e)
      ∙ (λ i. set_block (plan.size z i) (asked_number (plan.change i)) block out.between)

  block-kept : number_of p.verdict ≡ 0 → ForNone (given_block x) (m' ≡ out.between)
  block-kept z e = out.kept z (ap (λ (y : Change). given_block y) plan.change ∙ e)

  pub plan-left : (k : ℕ) → number_of p.verdict ≡ k → (s : Sound m)
      → MemoryAfter (change_writes (size_in m) (call_of x)) k m m' (changed (board_in m) (call_of x)) (change_tree (dimension_in m) (call_of x) s.tree)
  unfolding MemoryAfter
  plan-left zero e s =
      kept-given s x ((accepted-made e p.places refl).kept s.tree s.stands) (accepted-passed s e) (block-given e) (block-kept e)
  plan-left (suc k) e s = out.refused (omega (arith, e))

  -- Equal costs: no move changes.
  kept-moves : Sound m → keeps_moves (board_in m) (call_of x) ≡ true → (z : number_of p.verdict ≡ 0) → out.between ≡ m
  kept-moves s e z = (out.moves z).idle (plan.nothing s e z)

  plan-alone : Sound m → keeps_moves (board_in m) (call_of x) ≡ true → (i : ℕ) → block_writes (size_in m) (call_of x) i ≡ false → get_or m' i 0 ≡ get_or m i 0
  plan-alone s e i free = by_answer (dec_lt 0 (number_of p.verdict))
    where
      by_answer : Dec (0 < number_of p.verdict) → get_or m' i 0 ≡ get_or m i 0
      by_answer (yes h) = ap (λ (w : List ℕ). get_or w i 0) (out.refused h)
      by_answer (no h) =
          let z : number_of p.verdict ≡ 0 = omega arith in
          given-alone x e (kept-moves s e z) (block-given z) i free

  -- Equal costs and an equal block: the byte that is written holds it already.
  plan-nothing : Sound m → changes_nothing (board_in m) (call_of x) ≡ true → m' ≡ m
  plan-nothing s e = by_answer (dec_lt 0 (number_of p.verdict))
    where
      by_answer : Dec (0 < number_of p.verdict) → m' ≡ m
      by_answer (yes h) = out.refused h
      by_answer (no h) =
          let z : number_of p.verdict ≡ 0 = omega arith in
          given-again s x (accepted-passed s z) e (kept-moves s (nothing-keeps (board_in m) (call_of x) e) z) (block-given z)

  plan-unsaid : (Sound m → ⊥) → m' ≡ m
  plan-unsaid bad = out.refused (omega (arith, ap (λ (v : Verdict). number_of v) (plan.foreseen.unsound bad)))

pub plan-promise : {x : Change} {m m' : List ℕ} {p : ChangePlan} (rows : List (List ℕ)) {after : List Row} → Planned x m (length (map result_row rows)) p → CarriedOut p m m'
    → after ≡ map result_row (rows_filled p m rows) → ChangePromise (call_of x) m (map result_row rows) (answered p.verdict p.need p.opened) m' after
plan-promise {p = p} rows plan out e =
    record {
      said = plan-said rows plan e;
      left = plan-left plan out (number_of p.verdict) refl;
      alone = plan-alone plan out;
      nothing = plan-nothing plan out;
      unsound = plan-unsaid plan out;
    }
