-- The plan of a change, for each of its answers.
use Rattle.std.specs.Prelude.{ℕ, zero, suc, ◌+◌, ◌-◌, ◌≤◌, ◌<◌, Bool, false, cond, List, [], ◌≡◌, Option, Some, ltb}
use Rattle.std.proofs.Math.Bool.{true, ◌&&◌}
use Rattle.std.proofs.Math.Path.{refl, sym, ap}
use Rattle.std.proofs.Common.{ap₂, ◌∙◌, subst}
use native.Mathlib.Omega.{arith}
use borrow.Author.Tests.{ltb-true, lt-ltb, le-ltb}
use Rattle.std.proofs.Math.ListN.{length}
use Rattle.std.specs.Option.{ForSome, is_some, option_map_or}
use Rattle.model.specs.Basics.{equal}
use Rattle.model.specs.Calls as calls
use Rattle.model.specs.Calls.{accepted, refused_with, rows_answer, change_refusal, change_notice, keeps_moves, on_board}
use Rattle.model.specs.Withdrawing.{costs_on, unchanged}
use Rattle.model.specs.Tree.{Tree}
use Rattle.model.specs.Opening.{withdraw_opens, change_opens}
use Rattle.model.proofs.Laws.Bool.{both_ways, and_left, and_right}
use Rattle.model.proofs.Laws.Basics.{equal-refl}
use Rattle.promises.specs.Layout.{size_in, dimension_in, number_in, costs_in, board_in}
use Rattle.promises.specs.Sound.{Stands, Sound}
use Rattle.promises.specs.Answers.{Verdict, answer_of, number_of, counted, refused_by, accepted_verdict, reason_number}
use Rattle.promises.specs.Run.{Bytes}
use Rattle.promises.proofs.Laws.Answers.{reason-above, counted-zero}
use Rattle.promises.specs.declared.Reason.{Reason}
use Rattle.promises.specs.declared.Reason.TheVariants.{Unsound}
use Rattle.dominance.specs.declared.Move.{Move}
use Rattle.memory.specs.Held.{SoundRows}
use Rattle.memory.specs.Laws.Held.{held-room, held-readable}
use Rattle.memory.specs.declared.head.Head.{Head}
use Rattle.tree.specs.Withdraw.{PlaceOf}
use Rattle.upkeep.specs.Change.{UpkeptRows, PlaceRows}
use Rattle.upkeep.specs.declared.exchange.Upkeep.{Upkeep}
use Rattle.rows.specs.Planned.{Foreseen, Tells}
use Rattle.rows.proofs.Planned.{foreseen-unsound, foreseen-refused, foreseen-judged, few-refuses, counted-all, counted_none}
use Rattle.rows.specs.declared.telling.Telling.{Telling}
use Rattle.planning.specs.Kind.{call_of, asked_number, coming_of, CostsOf, given_block, exchange_of}
use Rattle.planning.specs.Change.{Other, needed_rows, Made}
use Rattle.planning.specs.Plan.{alike, ReadyRows, PreparedFor, Giveable, Planned, KeepsMoves}
use Rattle.planning.proofs.Laws.Judge.{board-moves}
use Rattle.planning.proofs.Laws.Coming.{only, never}
use Rattle.planning.proofs.Laws.Places.{costs-board}
use Rattle.planning.proofs.Laws.Notice.{left_rows, entered_rows, rows_left, rows-entered, count_left, count-entered, rows-notice, rows-needed}
use Rattle.planning.proofs.Laws.Calls.{not-refused, call-notice}
use Rattle.planning.proofs.Laws.Accepted.{enter-last, recost-on, recost-place, kind-ready, kind-moves, kind-prepared, kind-block}
use Rattle.planning.proofs.Laws.Unchanged.{no-notice, same-made}
use Rattle.planning.specs.declared.change.Change.{Change}
use Rattle.planning.specs.declared.change.Change.TheVariants.{Enter, Withdraw, Recost}
use Rattle.planning.specs.declared.plan.ChangePlan.{ChangePlan}
use Rattle.planning.specs.declared.plan.Places.{Places}

-- ---- no move changes

-- No row is told.
nothing-told : {v : Verdict} {m : List ℕ} {t : Telling} → t.count ≡ 0 → Tells v [] m t
nothing-told e =
    record { rows = λ l. absurd (omega (arith, e)); count = λ _. e; none = λ _. e; asked = λ l. absurd (omega (arith, e)) }

-- The rows of two parts are no more than all.
counted-parts : (k a n lent : ℕ) → a ≤ n → counted k n ≤ lent → counted k a + counted k (n - a) ≤ lent
unfolding counted
counted-parts zero a n lent h few = omega arith
counted-parts (suc k) a n lent h few = omega arith

-- Where no row is needed 8 does not arise.
none_needed : (need lent : ℕ) → need ≡ 0 → answer_of accepted_verdict ≡ rows_answer need lent
unfolding rows_answer accepted
none_needed need lent e =
    sym (ap (λ (b : Bool). cond b (record { number = 8; detail = need }) accepted) (le-ltb lent need (omega (arith, e))))

module _ {h : Head} {x : Change} {v : Verdict} {m : List ℕ} {lent : ℕ} {p : ChangePlan} (e : KeepsMoves h x v p) where
  keeps-planned :
      Foreseen (refused_with (change_refusal (board_in m) (call_of x))) (change_notice (board_in m) (call_of x)) (change_opens (dimension_in m) (call_of x)) m lent v p.need p.opened
      → (number_of v ≡ 0 → [] ≡ change_notice (board_in m) (call_of x))
      → (number_of v ≡ 0 → h.size ≡ size_in m)
      → (number_of v ≡ 0 → Made (call_of x) m m)
      → (number_of v ≡ 0 → ForSome (given_block x) (λ block. Giveable h.size (asked_number x) block m))
      → Planned x m lent p
  keeps-planned f none size idle block =
      let number : number_of p.verdict ≡ number_of v = ap (λ (v : Verdict). number_of v) e.verdict in
      let zero_left = counted-zero (number_of p.verdict) p.upkeep.left e.none in
      let zero-entered = counted-zero (number_of p.verdict) (p.need - p.upkeep.left) (omega (arith, e.need)) in
      record {
        foreseen = subst (λ (v : Verdict). Foreseen (refused_with (change_refusal (board_in m) (call_of x))) (change_notice (board_in m) (call_of x)) (change_opens (dimension_in m) (call_of x)) m lent v p.need p.opened) (sym e.verdict) f;
        lefts = [];
        entereds = [];
        notice = λ z. none (sym number ∙ z);
        leaves = nothing-told zero_left;
        enters = nothing-told zero-entered;
        within = omega (arith, e.none);
        enough = omega (arith, zero_left, zero-entered);
        able =
            record {
              moves = λ _ y f. never (λ (y : Places). PreparedFor p.change p.head y.goes p.upkeep m) y (sym e.places ∙ f);
              block = λ z.
                  subst (λ (g : Head). ForSome (given_block p.change) (λ block. Giveable g.size (asked_number p.change) block m)) (sym e.head)
                  (subst (λ (y : Change). ForSome (given_block y) (λ block. Giveable h.size (asked_number y) block m)) (sym e.change)
                  (block (sym number ∙ z)));
            };
        change = e.change;
        size = λ z. ap (λ (g : Head). g.size) e.head ∙ size (sym number ∙ z);
        idle = λ z _. idle (sym number ∙ z);
        nothing = λ _ _ _. e.places;
      }

pub plan-unsound : {h : Head} {x : Change} {m : List ℕ} {lent : ℕ} {p : ChangePlan} → (Sound m → ⊥) → KeepsMoves h x (refused_by Unsound 0) p → Planned x m lent p
plan-unsound {m = m} {lent} bad e =
    keeps-planned e (foreseen-unsound _ _ _ m lent _ _ bad) (λ z. absurd (omega arith)) (λ z. absurd (omega arith)) (λ z. absurd (omega arith)) (λ z. absurd (omega arith))

-- ---- the plan on sound memory

pub plan-refused : {c d n : ℕ} {m : List ℕ} → SoundRows c d n m → {x : Change} {r : Reason} → reason_number r ≡ change_refusal (board_in m) (call_of x) → {lent : ℕ} {p : ChangePlan}
    → KeepsMoves (record { size = c; dimension = d; count = n }) x (refused_by r 0) p → Planned x m lent p
unfolding refused_with
plan-refused {m = m} s {r = r} judged {lent} k =
    let h = reason-above r in
    keeps-planned k (foreseen-refused _ _ _ m lent _ _ s.sound (refused_by r 0) (ap refused_with judged) h)
    (λ z. absurd (omega arith)) (λ z. absurd (omega arith)) (λ z. absurd (omega arith)) (λ z. absurd (omega arith))

module _ {c d n g : ℕ} {m : List ℕ} (s : SoundRows c d n m) (b : Bytes m) where
  -- Only a re-cost has a move come for one that goes: here one with equal costs.
  idle-by : (x : Change) → CostsOf x → PlaceOf c n (asked_number x) m g → change_refusal (board_in m) (call_of x) ≡ 0 → alike c d n (exchange_of x g) m ≡ true
      → ([] ≡ change_notice (board_in m) (call_of x)) × Made (call_of x) m m × ((t : Tree) → 0 ≡ change_opens (dimension_in m) (call_of x) t)
  unfolding change_opens alike
  idle-by (Enter y block) w e ok same = absurd (omega (arith, ltb-true g n (and_left (ltb g n) _ same), enter-last s b y block (w y refl) e ok))
  idle-by (Withdraw number) w e ok same = both_ways same refl
  idle-by (Recost y block) w e ok same =
      let l = ltb-true g n (and_left (ltb g n) _ same) in
      let costs : equal y.costs (costs_in c d m y.number) ≡ true = ap (λ (i : ℕ). equal y.costs (costs_in c d m i)) (sym (e.found l)) ∙ and_right (ltb g n) _ same in
      let fit = (kind-ready s b (Recost y block) w e ok).asked.fit y refl in
      let on = recost-on (board_in m) y.number block y.costs ok in
      (sym (no-notice s b y fit on costs block), same-made s b y fit on costs block, λ _. refl)

  -- A change that is made changes something.
  never-nothing : (x : Change) → CostsOf x → PlaceOf c n (asked_number x) m g → change_refusal (board_in m) (call_of x) ≡ 0 → alike c d n (exchange_of x g) m ≡ false
      → keeps_moves (board_in m) (call_of x) ≡ false
  unfolding keeps_moves unchanged alike
  never-nothing (Enter y block) w e ok different = refl
  never-nothing (Withdraw number) w e ok different = refl
  never-nothing (Recost y block) w e ok different =
      let l : g < n = recost-place s b y block (w y refl) e ok in
      let own = board-moves c d n m s in
      let on = ap (on_board y.number) (sym own) ∙ recost-on (board_in m) y.number block y.costs ok in
      ap (equal y.costs) (ap (costs_on y.number) own ∙ costs-board c d n m y.number on ∙ ap (costs_in c d m) (sym (e.found l)))
      ∙ sym (ap (λ (p : Bool). p && equal y.costs (costs_in c d m (number_in c m g))) (lt-ltb g n l))
      ∙ different

  -- A withdrawal reports the nodes opened, the others none.
  kind-opens : (x : Change) → CostsOf x → PlaceOf c n (asked_number x) m g → change_refusal (board_in m) (call_of x) ≡ 0
      → {u : Upkeep} → UpkeptRows c d n (exchange_of x g) m u → (t : Tree) → Stands m t
      → cond (is_some (coming_of x)) 0 u.opened ≡ change_opens (dimension_in m) (call_of x) t
  unfolding change_opens
  kind-opens (Enter y block) w e ok up t stands = refl
  kind-opens (Withdraw number) w e ok up t stands =
      let l = (kind-ready s b (Withdraw number) w e ok).place refl in
      up.opened l t stands ∙ (λ i. withdraw_opens (s.dimension i) (e.found l i) t)
  kind-opens (Recost y block) w e ok up t stands = refl

module _ {c d n g : ℕ} {m : List ℕ} (s : SoundRows c d n m) (b : Bytes m) (x : Change) (w : CostsOf x) (e : PlaceOf c n (asked_number x) m g)
    (ok : change_refusal (board_in m) (call_of x) ≡ 0) where
  abbrev head : Head
  head = record { size = c; dimension = d; count = n }

  abbrev call : calls.Change
  call = call_of x

  pub ready : ReadyRows c d n (exchange_of x g) m
  ready = kind-ready s b x w e ok

  giveable : ForSome (given_block x) (λ block. Giveable c (asked_number x) block m)
  giveable block f =
      let k = kind-block s b x w e ok block f in
      record { room = held-room c d n m s; number = k.0; block = k.1 }

  -- A re-cost with equal costs.
  module _ (same : alike c d n (exchange_of x g) m ≡ true) where
    pub plan-idle : {lent : ℕ} {p : ChangePlan} → KeepsMoves head x accepted_verdict p → Planned x m lent p
    unfolding rows_answer
    plan-idle {lent} {p} k =
        let own = idle-by s b x w e ok same in
        keeps-planned k
        (foreseen-judged _ _ _ m lent p.need p.opened s.sound accepted_verdict (not-refused ok) (none_needed p.need lent k.need) (k.need ∙ ap length own.0) (λ t _. k.opened ∙ own.2 t))
        (λ _. own.0) (λ _. s.size) (λ _. own.1) (λ _. giveable)

  module _ (different : alike c d n (exchange_of x g) m ≡ false) where
    other : Other c d n (exchange_of x g) m
    unfolding alike
    other =
        record {
          costs = λ y f l q.
              both_ways
              (ap₂ ◌&&◌ (lt-ltb g n l) (ap (equal y.costs) q ∙ equal-refl y.costs))
              (ap (λ (o : Option Move). option_map_or (λ z. ltb g n && equal z.costs (costs_in c d m (number_in c m g))) o false) (sym f) ∙ different);
        }

    pub plan-full : {lent : ℕ} {u : Upkeep} (up : UpkeptRows c d n (exchange_of x g) m u) {place : ℕ} (q : PlaceRows c d n (exchange_of x g) m place) {need : ℕ} → need ≡ needed_rows u
        → (v : Verdict) → answer_of v ≡ rows_answer need lent → {opened : ℕ} → opened ≡ cond (is_some (coming_of x)) 0 u.opened
        → Planned x m lent (record { verdict = v; need = need; opened = opened; places = Some (record { goes = g; comes = place }); head = head; change = x; upkeep = u })
    unfolding needed_rows
    plan-full {lent} {u} up {place} q {need} is v answer {opened} shown =
        let a = ready.asked in
        let places : Places = record { goes = g; comes = place } in
        let moves = kind-moves s b x w e ok in
        let notice = rows-notice a b other up q ∙ call-notice (exchange_of x g) s call moves in
        let needs : need ≡ length (change_notice (board_in m) call) = is ∙ rows-needed a b other up q ∙ ap length (call-notice (exchange_of x g) s call moves) in
        let few = few-refuses need lent (number_of v) (ap (λ (a : calls.Answer). a.number) answer) in
        let left = count_left a b other up q in
        let rest : need - u.left ≡ length (entered_rows a b other up q) = omega (arith, is, count-entered a b other up q) in
        record {
          foreseen = foreseen-judged _ _ _ m lent need opened s.sound v (not-refused ok) answer needs (λ t stands. shown ∙ kind-opens s b x w e ok up t stands);
          lefts = left_rows a b other up q;
          entereds = entered_rows a b other up q;
          notice = λ _. notice;
          leaves =
              record {
                rows = λ _. rows_left a b other up q;
                count = λ z. counted-all (number_of v) u.left z ∙ left;
                none = λ h. counted_none (number_of v) u.left h;
                asked = λ _. record { readable = held-readable s; place = omega arith };
              };
          enters =
              record {
                rows = λ _. rows-entered a b other up q;
                count = λ z. counted-all (number_of v) (need - u.left) z ∙ rest;
                none = λ h. counted_none (number_of v) (need - u.left) h;
                asked = λ _. record { readable = held-readable s; place = q.within };
              };
          within = omega (arith, is);
          enough = counted-parts (number_of v) u.left need lent (omega (arith, is)) few;
          able =
              record {
                moves = λ _.
                    only (λ (y : Places). PreparedFor x head y.goes u m) (kind-prepared s b x w e ok other.costs up);
                block = λ _. giveable;
              };
          change = refl;
          size = λ _. s.size;
          idle = λ _ f. never (λ _. Made call m m) places (sym f);
          nothing = λ _ same _. both_ways same (never-nothing s b x w e ok different);
        }
