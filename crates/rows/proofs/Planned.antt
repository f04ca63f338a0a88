-- What is foreseen, for each answer; and what is said once it is told.
use Prim.Native.Nat.{ℕ, zero, suc, ◌+◌, ◌≤◌, ◌<◌}
use Rattle.std.specs.Prelude.{Bool, cond, ◌≡◌, eqb, ltb}
use mathlib.Core.List.{List, [], ◌++◌, map, map-append, append_assoc}
use Rattle.std.proofs.Math.Path.{refl, sym, ap, ap₂}
use Rattle.std.proofs.Common.{◌∙◌, subst, zero-add, add-zero, arith, ltb-false, eqb-true, ne_eqb, length-append, take-append-drop, take_at, drop_at, drop-drop}
use Rattle.std.proofs.Math.ListN.{length, take, drop}
use Rattle.std.proofs.lemmas.List.{length-map}
use Rattle.std.proofs.Math.Seq.{take-length}
use Rattle.model.specs.Moves.{Row}
use Rattle.model.specs.Tree.{Tree}
use Rattle.model.specs.Calls as calls
use Rattle.model.specs.Calls.{accepted, refused_with, or_else, rows_answer, Query, query_refusal, query_rows, query_answer}
use Rattle.model.proofs.Laws.Bool.{by_cases}
use Rattle.model.proofs.Laws.Basics.{map-take, map-drop}
use Rattle.promises.specs.Layout.{dimension_in, board_in}
use Rattle.model.specs.Opening.{query_opens}
use Rattle.memory.specs.declared.head.Head.{Head}
use Rattle.promises.specs.Sound.{Stands, Sound}
use Rattle.promises.specs.Answers.{Verdict, answer_of, number_of, counted, rows_after, result_row, refused_by, reason_number}
use Rattle.promises.specs.Promise.{Said, UnsoundSaid, QueryPromise}
use Rattle.promises.specs.declared.Reason.{Reason}
use Rattle.promises.specs.declared.Reason.TheVariants.{Unsound, BadArgument}
use Rattle.upkeep.specs.declared.found.Found.{Found}
use Rattle.rows.specs.Telling.{told_rows, filled_rows, listing}
use Rattle.rows.specs.Planned.{answer_by, Foreseen, Tells, QueryPlanned, Refuses, PlansFound, put, answered}
use Rattle.rows.specs.Laws.Telling.{filled-all, length_none}
use Rattle.rows.specs.Laws.Listed.{found_rows, found-count, listed-asked}
use Rattle.rows.specs.declared.plan.Plan.{Plan}
use Rattle.rows.specs.declared.telling.Telling.{Telling}

-- ---- the answers

first-refuses : (a b : calls.Answer) → 0 < a.number → or_else a b ≡ a
unfolding or_else
first-refuses a b h = ap (λ (t : Bool). cond t b a) (ne_eqb a.number 0 (λ e. omega arith))

-- An answer that accepts was turned down by nothing.
pub accepts-first : (a b : calls.Answer) → (or_else a b).number ≡ 0 → a.number ≡ 0
unfolding or_else
accepts-first a b e =
    by_cases (eqb a.number 0) (λ t. eqb-true a.number 0 t) (λ f. sym (ap (λ (t : Bool). (cond t b a).number) f) ∙ e)

-- Refusal 8 by the rows needed.
by_rows : ℕ → Bool → calls.Answer
by_rows need b = cond b (record { number = 8; detail = need }) accepted

pub few-refuses : (need lent : ℕ) (k : ℕ) → k ≡ (rows_answer need lent).number → counted k need ≤ lent
unfolding counted rows_answer accepted by_rows
few-refuses need lent zero e =
    by_cases (ltb lent need)
    (λ t. absurd (eight (e ∙ ap (λ (b : Bool). (by_rows need b).number) t)))
    (λ f. ltb-false lent need f)
  where
    eight : ◌≡◌ {A = ℕ} 0 8 → ⊥
    eight z = omega arith
few-refuses need lent (suc k) e = omega arith

module _ (refusal : calls.Answer) (rows : List Row) (nodes : Tree → ℕ) (m : List ℕ) (lent need opened : ℕ) where
  pub foreseen-unsound : (Sound m → ⊥) → Foreseen refusal rows nodes m lent (refused_by Unsound 0) need opened
  foreseen-unsound h = record { sound = λ s. absurd (h s); unsound = λ _. refl; needs = λ s. absurd (h s); opens = λ s. absurd (h s) }

  module _ (s : Sound m) where
    pub foreseen-refused : (v : Verdict) → answer_of v ≡ refusal → 0 < number_of v → Foreseen refusal rows nodes m lent v need opened
    foreseen-refused v e h =
        let some : 0 < refusal.number = subst (λ (a : calls.Answer). 0 < a.number) e h in
        record {
          sound = λ _. e ∙ sym (first-refuses refusal (rows_answer (length rows) lent) some);
          unsound = λ n. absurd (n s);
          needs = λ _ z. absurd (omega arith);
          opens = λ _ z. absurd (omega arith);
        }

    pub foreseen-judged : (v : Verdict) → refusal ≡ accepted → answer_of v ≡ rows_answer need lent → need ≡ length rows → ((t : Tree) → Stands m t → opened ≡ nodes t)
        → Foreseen refusal rows nodes m lent v need opened
    unfolding or_else accepted
    foreseen-judged v f e is opens =
        record {
          sound = λ _. e ∙ ap₂ (λ (a : calls.Answer) (i : ℕ). or_else a (rows_answer i lent)) (sym f) is;
          unsound = λ n. absurd (n s);
          needs = λ _ _. is;
          opens = λ s _. opens s.tree s.stands;
        }

-- ---- what is said

pub counted-all : (k n : ℕ) → k ≡ 0 → counted k n ≡ n
unfolding counted
counted-all k n z = ap (λ (i : ℕ). counted i n) z

pub counted_none : (k n : ℕ) → 0 < k → counted k n ≡ 0
unfolding counted
counted_none zero n h = absurd (omega arith)
counted_none (suc k) n h = refl

counted_same : (k a b : ℕ) → (k ≡ 0 → a ≡ b) → counted k a ≡ counted k b
unfolding counted
counted_same zero a b e = e refl
counted_same (suc k) a b e = refl

module _ {refusal : calls.Answer} {rows : List Row} {nodes : Tree → ℕ} {m : List ℕ} {lent : ℕ} {v : Verdict} {need opened : ℕ} (f : Foreseen refusal rows nodes m lent v need opened) where
  -- An accepted call was turned down by nothing.
  pub foreseen-accepts : Sound m → number_of v ≡ 0 → refusal.number ≡ 0
  foreseen-accepts s z = accepts-first refusal (rows_answer (length rows) lent) (sym (ap (λ (a : calls.Answer). a.number) (f.sound s)) ∙ z)

  module _ (before after : List Row) (e : after ≡ rows_after (number_of v) rows before) where
    pub foreseen-said : (s : Sound m) → Said (answer_by refusal rows lent) rows (nodes s.tree) before (answered v need opened) after
    foreseen-said s =
        record {
          answers = f.sound s;
          counts = counted_same (number_of v) need (length rows) (λ z. f.needs s (foreseen-accepts s z));
          opens = counted_same (number_of v) opened (nodes s.tree) (λ z. f.opens s (foreseen-accepts s z));
          tells = e;
        }

    pub foreseen-unsaid : (Sound m → ⊥) → UnsoundSaid before (answered v need opened) after
    unfolding refused_with counted rows_after
    foreseen-unsaid n =
        let three = f.unsound n in
        record {
          answers = ap (λ (w : Verdict). answer_of w) three;
          counts = ap (λ (w : Verdict). counted (number_of w) need) three ∙ sym (ap (λ (w : Verdict). counted (number_of w) 0) three);
          opens = ap (λ (w : Verdict). counted (number_of w) opened) three ∙ sym (ap (λ (w : Verdict). counted (number_of w) 0) three);
          tells = e ∙ ap (λ (w : Verdict). rows_after (number_of w) rows before) three ∙ sym (ap (λ (w : Verdict). rows_after (number_of w) [] before) three);
        }

-- ---- the rows after a telling was filled in

-- Nothing put changes nothing.
put-none : (from : ℕ) (rows : List Row) → put from [] rows ≡ rows
unfolding put
put-none from rows = ap (λ (k : ℕ). take from rows ++ drop k rows) (add-zero from) ∙ take-append-drop from rows

-- From the first row on, and two parts one after the other.
pub put-first : (new rows : List Row) → put 0 new rows ≡ new ++ drop (length new) rows
unfolding put
put-first new rows = ap (λ (k : ℕ). new ++ drop k rows) (zero-add (length new))

pub put_both : (ls es rows : List Row) → put (length ls) es (put 0 ls rows) ≡ (ls ++ es) ++ drop (length (ls ++ es)) rows
unfolding put
put_both ls es rows =
    ap (put (length ls) es) (put-first ls rows)
    ∙ ap₂ (λ (xs ys : List Row). xs ++ (es ++ ys)) (take_at ls (drop (length ls) rows) (length ls) refl)
    (sym (drop-drop (length es) (length ls) (ls ++ drop (length ls) rows))
    ∙ ap (drop (length es)) (drop_at ls (drop (length ls) rows) (length ls) refl)
    ∙ drop-drop (length es) (length ls) rows)
    ∙ sym (append_assoc ls es (drop (length ls + length es) rows))
    ∙ ap (λ (k : ℕ). (ls ++ es) ++ drop k rows) (sym (length-append ls es))

module _ {v : Verdict} {new : List Row} {m : List ℕ} {t : Telling} (tells : Tells v new m t) where
  abbrev all : List (List ℕ)
  all = told_rows t.told t.numbers m

  some-accepts : 0 < t.count → number_of v ≡ 0
  some-accepts h = by (number_of v) refl
    where
      by : (k : ℕ) → number_of v ≡ k → number_of v ≡ 0
      by zero e = e
      by (suc k) e = absurd (omega (arith, tells.none (omega (arith, e))))

  pub tells-length : 0 < t.count → length all ≡ t.count
  tells-length h = sym (length-map all result_row) ∙ ap length (tells.rows h) ∙ sym (tells.count (some-accepts h))

  -- Accepted, the rows are put from a row on; refused, all are as they were.
  filled_put : (rows : List (List ℕ)) (from : ℕ) → from + t.count ≤ length rows → 0 < t.count
      → map result_row (filled_rows t.told t.numbers m from t.count rows) ≡ put from new (map result_row rows)
  unfolding put
  filled_put rows from h some =
      let count : t.count ≡ length new = tells.count (some-accepts some) in
      ap (map result_row)
      (filled-all t.told t.numbers m rows from t.count tells.asked (λ l. tells-length l) h
      ∙ ap (λ (k : ℕ). take from rows ++ take k all ++ drop (from + t.count) rows) (sym (tells-length some))
      ∙ ap (λ (l : List (List ℕ)). take from rows ++ l ++ drop (from + t.count) rows) (take-length all))
      ∙ map-append result_row (take from rows ++ all) (drop (from + t.count) rows)
      ∙ ap₂ ◌++◌ (map-append result_row (take from rows) all ∙ ap₂ ◌++◌ (map-take result_row from rows) (tells.rows some))
      (map-drop result_row (from + t.count) rows ∙ ap (λ (k : ℕ). drop (from + k) (map result_row rows)) count)
      ∙ append_assoc (take from (map result_row rows)) new (drop (from + length new) (map result_row rows))

  pub tells-put : (rows : List (List ℕ)) (from : ℕ) → from + t.count ≤ length rows → number_of v ≡ 0
      → map result_row (filled_rows t.told t.numbers m from t.count rows) ≡ put from new (map result_row rows)
  unfolding filled_rows
  tells-put rows from h z = by t.count refl
    where
      by : (k : ℕ) → t.count ≡ k → map result_row (filled_rows t.told t.numbers m from t.count rows) ≡ put from new (map result_row rows)
      by zero e =
          ap (λ (k : ℕ). map result_row (filled_rows t.told t.numbers m from k rows)) e
          ∙ sym (put-none from (map result_row rows))
          ∙ ap (λ (l : List Row). put from l (map result_row rows)) (sym (length_none new (sym (tells.count z) ∙ e)))
      by (suc k) e = filled_put rows from h (omega (arith, e))

  pub tells_none : (rows : List (List ℕ)) (from : ℕ) → 0 < number_of v → filled_rows t.told t.numbers m from t.count rows ≡ rows
  unfolding filled_rows
  tells_none rows from h = ap (λ (k : ℕ). filled_rows t.told t.numbers m from k rows) (tells.none h)

  -- What a list's rows are afterwards.
  pub tells-after : (rows : List (List ℕ)) → t.count ≤ length rows
      → map result_row (filled_rows t.told t.numbers m 0 t.count rows) ≡ rows_after (number_of v) new (map result_row rows)
  unfolding rows_after
  tells-after rows h = by (number_of v) refl
    where
      by : (k : ℕ) → number_of v ≡ k → map result_row (filled_rows t.told t.numbers m 0 t.count rows) ≡ rows_after k new (map result_row rows)
      by zero e = tells-put rows 0 (omega arith) e ∙ put-first new (map result_row rows)
      by (suc k) e = ap (map result_row) (tells_none rows 0 (omega (arith, e)))

-- ---- lists

pub query-promise : {q : Query} {m : List ℕ} {p : Plan} (before : List (List ℕ)) {after : List Row} → QueryPlanned q m (length (map result_row before)) p
    → after ≡ map result_row (filled_rows p.telling.told p.telling.numbers m 0 p.telling.count before)
    → QueryPromise q m (map result_row before) (answered p.verdict p.need p.opened) after
unfolding query_answer
query-promise {p = p} before {after} plan e =
    let rows = e ∙ tells-after plan.tells before (omega (arith, plan.enough, length-map before result_row)) in
    record {
      sound = foreseen-said plan.foreseen (map result_row before) after rows;
      unsound = foreseen-unsaid plan.foreseen (map result_row before) after rows;
    }

-- A plan that tells nothing.
pub refuses-tells : {v : Verdict} {p : Plan} {m : List ℕ} {new : List Row} → Refuses v p → 0 < number_of v → Tells p.verdict new m p.telling
refuses-tells {v} e h =
    record {
      rows = λ l. absurd (omega (arith, e.count));
      count = λ z. absurd (omega (arith, z, ap number_of e.verdict, h));
      none = λ _. e.count;
      asked = λ l. absurd (omega (arith, e.count));
    }

module _ (q : Query) (m : List ℕ) (lent : ℕ) {p : Plan} where
  refuses-plans : {v : Verdict} → Refuses v p → 0 < number_of v
      → Foreseen (query_refusal (board_in m) q) (query_rows (board_in m) q) (query_opens (dimension_in m) q) m lent v p.need p.opened → QueryPlanned q m lent p
  refuses-plans {v} e h f =
      record {
        foreseen = subst (λ (w : Verdict). Foreseen (query_refusal (board_in m) q) (query_rows (board_in m) q) (query_opens (dimension_in m) q) m lent w p.need p.opened) (sym e.verdict) f;
        tells = refuses-tells e h;
        enough = omega (arith, e.count);
      }

  pub query-unsound : Refuses (refused_by Unsound 0) p → (Sound m → ⊥) → QueryPlanned q m lent p
  query-unsound e h = refuses-plans e (omega arith) (foreseen-unsound _ _ _ m lent _ _ h)

  pub query-refused : {o : Reason} {detail : ℕ} → Refuses (refused_by o detail) p → Sound m → 0 < reason_number o → query_refusal (board_in m) q ≡ answer_of (refused_by o detail) → QueryPlanned q m lent p
  query-refused {o} {detail} e s h f = refuses-plans e h (foreseen-refused _ _ _ m lent _ _ s (refused_by o detail) (sym f) h)

  pub query-bad : Refuses (refused_by BadArgument 0) p → Sound m → query_refusal (board_in m) q ≡ refused_with 7 → QueryPlanned q m lent p
  unfolding refused_with
  query-bad e s f = query-refused e s (omega arith) f

pub found-plans : (h : Head) (found : Found) (opened lent : ℕ) (v : Verdict) (k : ℕ) → answer_of v ≡ rows_answer found.count lent → k ≡ counted (number_of v) found.count
    → PlansFound h found opened lent (record { verdict = v; need = found.count; opened = opened; telling = listing h found.numbers k })
found-plans h found opened lent v k e few =
    record {
      plans = λ {m} {test} s f refusal ok rows is nodes opens.
          let need : found.count ≡ length rows = found-count h test m found f ∙ ap length is in
          record {
            foreseen = foreseen-judged refusal rows nodes m lent found.count opened s.sound v ok e need opens;
            tells =
                record {
                  rows = λ _. found_rows h test m found f ∙ is;
                  count = λ z. few ∙ counted-all (number_of v) found.count z ∙ need;
                  none = λ l. few ∙ counted_none (number_of v) found.count l;
                  asked = λ _. listed-asked s;
                };
            enough = omega (arith, few, few-refuses found.count lent (number_of v) (ap (λ (a : calls.Answer). a.number) e));
          };
    }
