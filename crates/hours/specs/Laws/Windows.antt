-- The windows of an entry, slot by slot.
use Prim.Native.Nat.{ℕ, zero, suc, ◌≤◌, ◌<◌}
use Rattle.std.specs.Prelude.{Bool, true, false, not, ◌&&◌, ◌||◌, List, [], ◌∷◌, ◌≡◌, ltb, leb, take, get_or}
use Rattle.std.proofs.Math.Bool.{cond}
use Rattle.std.proofs.Common.{inr, sym, ◌∙◌, arith, lt-ltb, le-ltb}
use Rattle.std.proofs.Math.Path.{refl, ap}
use Rattle.std.proofs.Math.Decide.{dec_lt}
use Rattle.std.proofs.Math.Seq.{take_all}
use Rattle.model.specs.Basics.{any, within}
use Rattle.model.specs.Hours.{Window, windows_of, minute_bad, window_bad, hours_bad, open_in}
use Rattle.model.proofs.Laws.Tree.{within-true, within-false}
use Rattle.promises.specs.Layout.{tab}
use Rattle.promises.specs.Answers.{window_at, block_hours}
use Rattle.search.specs.Search.{None}
use Rattle.search.specs.Laws.Hiders.{none_any}
use Rattle.memory.specs.Laws.Places.{any-tab, any_to-found}

-- ---- the slots that hold a window

module _ (entry : List ℕ) where
  abbrev slots : List Window
  slots = window_at entry 0 ∷ window_at entry 1 ∷ window_at entry 2 ∷ window_at entry 3 ∷ []

  first-slots : (n : ℕ) → n ≤ 4 → take n slots ≡ tab (window_at entry) n
  unfolding tab
  first-slots zero l = refl
  first-slots (suc zero) l = refl
  first-slots (suc (suc zero)) l = refl
  first-slots (suc (suc (suc zero))) l = refl
  first-slots (suc (suc (suc (suc zero)))) l = refl
  first-slots (suc (suc (suc (suc (suc n))))) l = absurd (omega arith)

  pub few-windows : get_or entry 0 0 < 4 → windows_of (block_hours entry) ≡ tab (window_at entry) (get_or entry 0 0)
  unfolding windows_of block_hours
  few-windows l = first-slots (get_or entry 0 0) (omega arith)

  pub all-windows : 4 ≤ get_or entry 0 0 → windows_of (block_hours entry) ≡ tab (window_at entry) 4
  unfolding windows_of block_hours tab
  all-windows l = take_all (get_or entry 0 0) slots (omega arith)

  module _ (p : Window → Bool) (n : ℕ) (e : windows_of (block_hours entry) ≡ tab (window_at entry) n) where
    by_slots : any p (windows_of (block_hours entry)) ≡ any p (tab (window_at entry) n)
    by_slots = ap (any p) e

    pub no-window : None (λ j. p (window_at entry j)) 0 n → any p (windows_of (block_hours entry)) ≡ false
    no-window none = by_slots ∙ any-tab (window_at entry) p n ∙ none_any (λ j. p (window_at entry j)) n none

    pub some-window : (i : ℕ) → i < n → p (window_at entry i) ≡ true → any p (windows_of (block_hours entry)) ≡ true
    some-window i l h = by_slots ∙ any-tab (window_at entry) p n ∙ any_to-found (λ j. p (window_at entry j)) n i l h

  -- ---- whether the hours are refused

  pub fifth-bad : 4 < get_or entry 0 0 → hours_bad (block_hours entry) ≡ true
  unfolding hours_bad block_hours
  fifth-bad l = ap (λ (b : Bool). b || any window_bad (windows_of (block_hours entry))) (lt-ltb 4 (get_or entry 0 0) l)

  pub few-bad : get_or entry 0 0 ≤ 4 → hours_bad (block_hours entry) ≡ any window_bad (windows_of (block_hours entry))
  unfolding hours_bad block_hours
  few-bad l = ap (λ (b : Bool). b || any window_bad (windows_of (block_hours entry))) (le-ltb 4 (get_or entry 0 0) l)

-- ---- one window

pub minute-late : (t : ℕ) → ltb 10079 t ≡ minute_bad t
unfolding minute_bad
minute-late t = go (dec_lt 10079 t)
  where
    go : Dec (10079 < t) → ltb 10079 t ≡ not (within 0 10079 t)
    go (yes l) = lt-ltb 10079 t l ∙ sym (ap not (within-false 0 10079 t (inr l)))
    go (no l) = le-ltb 10079 t (omega arith) ∙ sym (ap not (within-true 0 10079 t (omega arith) (omega arith)))

module _ (w : Window) (t : ℕ) where
  within-week : Bool
  within-week = leb w.start t && ltb t w.end

  over-week : Bool
  over-week = leb w.start t || ltb t w.end

  pub open-over : w.end < w.start → (leb w.start t || ltb t w.end) ≡ open_in t w
  unfolding open_in within-week over-week
  open-over l = ap (λ (b : Bool). cond b over-week within-week) (sym (lt-ltb w.end w.start l))

  pub open-within : w.start ≤ w.end → (leb w.start t && ltb t w.end) ≡ open_in t w
  unfolding open_in within-week over-week
  open-within l = ap (λ (b : Bool). cond b over-week within-week) (sym (le-ltb w.end w.start l))
