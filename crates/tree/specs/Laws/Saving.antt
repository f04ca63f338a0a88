-- Rows found by number, and their numbers saved.
use Prim.Native.Nat.{ℕ, zero, suc, ◌+◌, ◌-◌, ◌≤◌, ◌<◌}
use Rattle.std.proofs.Math.Bool.{Bool, false, not}
use Rattle.std.specs.Prelude.{true, cond, ◌≢◌, ◌≡◌, eqb, length}
use mathlib.Core.List.{List, [], ◌∷◌, ◌++◌, append-nil}
use Rattle.std.proofs.Math.Path.{sym, ap, ap₂}
use Rattle.std.proofs.Common.{◌∙◌, eq-eqb, ne_eqb}
use native.Mathlib.Omega.{arith}
use Rattle.model.specs.Basics.{cons_if, select}
use Rattle.model.proofs.Laws.Basics.{select-append}
use Rattle.line.specs.Line.{Placed}
use Rattle.line.specs.Places.{move_at}
use Rattle.line.specs.Withdraw as line
use Rattle.promises.specs.Layout.{number_in, work_in, move_in, line_from, tab}
use Rattle.memory.specs.Room.{Room}
use Rattle.memory.specs.Stores.{set_work}
use Rattle.memory.specs.Frame.{WorkOnly}
use Rattle.promises.proofs.Laws.Tab.{tab-ext}
use Rattle.memory.specs.Laws.Frames.{frame-refl, frame-trans}
use Rattle.memory.specs.Laws.Fields.{number-over-work}
use Rattle.memory.specs.Laws.Stored.{set_work-work, work-set_work, work-set_work-other}
use Rattle.memory.specs.Laws.Lines.{length-line, move_at-line}
use Rattle.tree.specs.Withdraw.{PlaceOf, others}

-- ---- the place of a number

place-first : (number : ℕ) (rs : List Placed) (p : ℕ) → p ≤ length rs → ((k : ℕ) → k < p → (move_at rs k).number ≢ number)
    → (p < length rs → (move_at rs p).number ≡ number) → line.place_of number rs ≡ p
unfolding line.place_of move_at
place-first number [] p h before at = omega arith
place-first number (r ∷ rs) zero h before at =
    ap (λ (b : Bool). cond b 0 (suc (line.place_of number rs))) (eq-eqb r.move.number number (at (omega arith)))
place-first number (r ∷ rs) (suc p) h before at =
    ap (λ (b : Bool). cond b 0 (suc (line.place_of number rs))) (ne_eqb r.move.number number (before 0 (omega arith)))
    ∙ ap suc (place-first number rs p (omega arith) (λ k l. before (suc k) (omega arith)) (λ l. at (omega arith)))

module _ (c d n number : ℕ) (m : List ℕ) where
  row_number : (i : ℕ) → i < n → (move_at (line_from c d n m) i).number ≡ number_in c m i
  unfolding move_in
  row_number i h = ap (λ x. x.number) (move_at-line c d n m i h)

  place-rows : (p : ℕ) → p ≤ n → ((k : ℕ) → k < p → number_in c m k ≢ number) → (p < n → number_in c m p ≡ number)
      → p ≡ line.place_of number (line_from c d n m)
  place-rows p h before at =
      let count : length (line_from c d n m) ≡ n = length-line c d n m in
      sym
      (place-first number (line_from c d n m) p (omega arith)
      (λ k l e. before k l (sym (row_number k (omega arith)) ∙ e))
      (λ l. row_number p (omega arith) ∙ at (omega arith)))

pub place-of : (c n number : ℕ) (m : List ℕ) (p : ℕ) → p ≤ n → ((k : ℕ) → k < p → number_in c m k ≢ number) → (p < n → number_in c m p ≡ number)
    → PlaceOf c n number m p
place-of c n number m p h before at = record { is = λ d. place-rows c d n number m p h before at; within = h; found = at }

-- ---- numbers saved

-- The numbers of the rows up to place i are saved, k of them.
pub record Saving (c from i number k : ℕ) (m₀ m : List ℕ) : Type 0 where
  pub after : from ≤ i
  pub few : k ≤ i - from
  pub frame : WorkOnly c m₀ m
  pub numbers : tab (work_in c m) k ≡ others c from i number m₀

module _ (c from number : ℕ) (m₀ : List ℕ) where
  pub saving-none : Saving c from from number 0 m₀ m₀
  unfolding others tab select
  saving-none =
      let none : from - from ≡ 0 = omega arith in
      record {
        after = omega arith;
        few = omega arith;
        frame = frame-refl m₀;
        numbers = sym (ap (λ (j : ℕ). select (λ n. not (eqb n number)) (tab (λ i. number_in c m₀ (from + i)) j)) none);
      }

  others-more : (i : ℕ) → from ≤ i → others c from (i + 1) number m₀ ≡ others c from i number m₀ ++ cons_if (not (eqb (number_in c m₀ i) number)) (number_in c m₀ i) []
  unfolding others tab select
  others-more i h =
      let kept : ℕ → Bool = λ n. not (eqb n number) in
      let f : ℕ → ℕ = λ j. number_in c m₀ (from + j) in
      let more : i + 1 - from ≡ suc (i - from) = omega arith in
      let at : from + (i - from) ≡ i = omega arith in
      ap (λ (j : ℕ). select kept (tab f j)) more
      ∙ select-append kept (tab f (i - from)) (f (i - from) ∷ [])
      ∙ ap (λ (j : ℕ). select kept (tab f (i - from)) ++ cons_if (kept (number_in c m₀ j)) (number_in c m₀ j) []) at

  module _ (i k : ℕ) (m : List ℕ) (s : Saving c from i number k m₀ m) (h : i < c) where
    same_number : number_in c m i ≡ number_in c m₀ i
    same_number = number-over-work c s.frame i h

    saved-by : (b : Bool) → eqb (number_in c m i) number ≡ b → others c from (i + 1) number m₀ ≡ tab (work_in c m) k ++ cons_if (not b) (number_in c m i) []
    saved-by b e =
        others-more i s.after
        ∙ ap₂ (λ (l : List ℕ) (n : ℕ). l ++ cons_if (not (eqb n number)) n []) (sym s.numbers) (sym same_number)
        ∙ ap (λ (b : Bool). tab (work_in c m) k ++ cons_if (not b) (number_in c m i) []) e

    pub saving-less : number_in c m i ≡ number → Saving c from (i + 1) number k m₀ m
    saving-less e =
        record {
          after = omega (arith, s.after);
          few = omega (arith, s.after, s.few);
          frame = s.frame;
          numbers = sym (saved-by true (eq-eqb (number_in c m i) number e) ∙ append-nil (tab (work_in c m) k));
        }

    pub saving-more : Room c m → number_in c m i ≢ number → Saving c from (i + 1) number (k + 1) m₀ (set_work c k (number_in c m i) m)
    unfolding tab
    saving-more room e =
        let m' : List ℕ = set_work c k (number_in c m i) m in
        let more : k + 1 ≡ suc k = omega arith in
        let low : k < c = omega (arith, s.after, s.few) in
        record {
          after = omega (arith, s.after);
          few = omega (arith, s.after, s.few);
          frame = frame-trans s.frame (set_work-work c k m low (number_in c m i));
          numbers =
              ap (tab (work_in c m')) more
              ∙ ap₂ (λ (l : List ℕ) (v : ℕ). l ++ v ∷ [])
              (tab-ext (work_in c m') (work_in c m) k (λ j l. work-set_work-other c k m j (λ e. omega arith) (number_in c m i)))
              (work-set_work c k m room low (number_in c m i))
              ∙ sym (saved-by false (ne_eqb (number_in c m i) number e));
        }
