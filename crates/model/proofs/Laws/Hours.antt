-- Yard block hours: when a window is open, which entries matter, and what the hours call shows. With all blocks open it shows
-- the list.
use Rattle.std.specs.Prelude.{ℕ, ◌+◌, ◌-◌, ◌%◌, ◌≤◌, ◌<◌, Bool, true, false, ◌&&◌, ◌||◌, ◌⊎◌, ◌≡◌, ltb, leb, eqb, length, take}
use mathlib.Core.List.{List, [], ◌∷◌, Memᴰ}
use Rattle.std.proofs.Math.Logic.{inl, inr}
use Rattle.std.proofs.Common.{sym, le_refl, arith, get_or-take, take-take, ltb-true, ltb-false, lt-ltb, leb-true, leb-false, le-leb}
use Rattle.std.proofs.Math.Path.{ap}
use Rattle.std.proofs.Math.ListN.{get_or-eq_default}
use Rattle.std.proofs.lemmas.Bool.{eqb-false, not-false}
use Rattle.zorder.specs.Refusal.{refusal}
use Rattle.model.specs.Basics.{select, any}
use Rattle.model.specs.Moves.{Move, move_before, ordered}
use Rattle.model.specs.Dominance.{hides}
use Rattle.model.specs.Lists.{hidden, skyline, listed_rows}
use Rattle.model.specs.Hours.{Window, Hours, block_count, windows_of, minute_bad, window_bad, open_in, no_hours, block_open, open_moves}
use Rattle.model.specs.Calls.{refused_with, or_else, Board, list_of, list, hours_query, hours_refusal, query_refusal, query_rows}
use Rattle.model.specs.Sound.{Fit, BlocksFit, SoundBoard}
use Rattle.model.proofs.Laws.Bool.{by_cases, cond_cases, and_left, and_right, and_both, or_cases, or_left, or_right, or-false-left, or-false-right, same_test}
use Rattle.model.proofs.Laws.Basics.{each-mem, each-select, select-all, select-ext, select-mem, mem-select, any_false}
use Rattle.model.proofs.Laws.Sorting.{rising-select}
use Rattle.model.proofs.Laws.Order.{dimension-most, move-order}
use Rattle.model.proofs.Laws.Skyline.{HiderIn, skyline-mem, mem-skyline, skyline-hider}
use Rattle.model.proofs.Laws.Tree.{within-range}
use Rattle.model.proofs.Laws.Blocks.{fit-each}

-- ---- windows

pub minute-most : (t : ℕ) → minute_bad t ≡ false → t ≤ 10079
unfolding minute_bad
minute-most t h = (within-range 0 10079 t (not-false _ h)).1

-- minutes since s, around the week
module _ (t s e : ℕ) (lt : t ≤ 10079) (ls : s ≤ 10079) (le : e ≤ 10079) (n : ¬ (s ≡ e)) where
  abbrev gone : ℕ
  gone = (t + 10080 - s) % 10080

  abbrev lasts : ℕ
  lasts = (e + 10080 - s) % 10080

  over-end : e < s → (leb s t || ltb t e) ≡ ltb gone lasts
  over-end h =
      same_test (leb s t || ltb t e) (ltb gone lasts)
      (λ o. lt-ltb gone lasts (or_cases (leb s t) (ltb t e) o (λ a. omega (arith, leb-true s t a)) (λ a. omega (arith, ltb-true t e a))))
      (λ o. by_cases (leb s t) (or_left (leb s t) (ltb t e))
      (λ a. or_right (leb s t) (ltb t e) (lt-ltb t e (omega (arith, leb-false s t a, ltb-true gone lasts o)))))

  in-week : s ≤ e → (leb s t && ltb t e) ≡ ltb gone lasts
  in-week h =
      same_test (leb s t && ltb t e) (ltb gone lasts)
      (λ o. lt-ltb gone lasts (omega (arith, leb-true s t (and_left (leb s t) (ltb t e) o), ltb-true t e (and_right (leb s t) (ltb t e) o))))
      (λ o. and_both (leb s t) (ltb t e) (le-leb s t (omega (arith, ltb-true gone lasts o))) (lt-ltb t e (omega (arith, ltb-true gone lasts o))))

-- A window is open at t exactly if (t − start) mod 10,080 is below (end − start) mod 10,080.
pub window-open : (t : ℕ) (w : Window) → minute_bad t ≡ false → window_bad w ≡ false
    → open_in t w ≡ ltb ((t + 10080 - w.start) % 10080) ((w.end + 10080 - w.start) % 10080)
unfolding open_in window_bad
window-open t w m h =
    let s = w.start in
    let e = w.end in
    let bounds = or-false-left (minute_bad s || minute_bad e) (eqb s e) h in
    let lt = minute-most t m in
    let ls = minute-most s (or-false-left (minute_bad s) (minute_bad e) bounds) in
    let le = minute-most e (or-false-right (minute_bad s) (minute_bad e) bounds) in
    let n = eqb-false s e (or-false-right (minute_bad s || minute_bad e) (eqb s e) h) in
    cond_cases (λ (b : Bool). b ≡ ltb ((t + 10080 - s) % 10080) ((e + 10080 - s) % 10080)) (ltb e s)
    (λ c. over-end t s e lt ls le n (ltb-true e s c)) (λ c. in-week t s e lt ls le n (ltb-false e s c))

-- ---- entries

-- A block past the lent entries is shut.
pub past-shut : (t : ℕ) (hours : List Hours) (k : ℕ) → length hours ≤ k → block_open t hours k ≡ false
unfolding block_open windows_of any
past-shut t hours k l = ap (λ (h : Hours). any (open_in t) (windows_of h)) (get_or-eq_default hours no_hours l)

module _ (b : Board) (t : ℕ) where
  -- Entries that open the same blocks show the same.
  pub same-open : (hours hours' : List Hours) → BlocksFit b → ((k : ℕ) → k ≤ 63 → block_open t hours k ≡ block_open t hours' k)
      → query_rows b (hours_query t hours) ≡ query_rows b (hours_query t hours')
  unfolding query_rows open_moves
  same-open hours hours' f h =
      ap (λ (ms : List Move). listed_rows (skyline b.dimension ms))
      (select-ext (λ m. block_open t hours (b.blocks m.number)) (λ m. block_open t hours' (b.blocks m.number)) b.moves
      (fit-each (λ k. block_open t hours k ≡ block_open t hours' k) b f h))

  -- All blocks open: the list.
  pub all-open : (hours : List Hours) → BlocksFit b → ((k : ℕ) → k ≤ 63 → block_open t hours k ≡ true)
      → query_rows b (hours_query t hours) ≡ query_rows b list
  unfolding query_rows open_moves list_of
  all-open hours f h =
      ap (λ (ms : List Move). listed_rows (skyline b.dimension ms))
      (select-all (λ m. block_open t hours (b.blocks m.number)) b.moves (fit-each (λ k. block_open t hours k ≡ true) b f h))

  -- Entries past the 64th are not read.
  pub past-unread : (hours : List Hours) → BlocksFit b → query_rows b (hours_query t hours) ≡ query_rows b (hours_query t (take block_count hours))
  unfolding block_open
  past-unread hours f =
      same-open hours (take block_count hours) f
      (λ k l. ap (λ (h : Hours). any (open_in t) (windows_of h)) (sym (get_or-take block_count hours k no_hours (omega arith))))

  pub past-unjudged : (hours : List Hours) → query_refusal b (hours_query t hours) ≡ query_refusal b (hours_query t (take block_count hours))
  unfolding query_refusal
  past-unjudged hours =
      ap (λ (hs : List Hours). or_else (refused_with (refusal ((minute_bad t, 7) ∷ []))) (hours_refusal 0 hs))
      (sym (take-take block_count block_count hours (le_refl block_count)))

-- ---- the moves shown

module _ (b : Board) (t : ℕ) (hours : List Hours) where
  abbrev pub in_open : Move → Bool
  in_open m = block_open t hours (b.blocks m.number)

  abbrev open-moves : List Move
  open-moves = select in_open b.moves

  -- The moves that the call tells the rows of.
  abbrev pub shown : List Move
  shown = skyline b.dimension (open_moves t hours b.blocks b.moves)

  -- A move shown is on the board, in an open block, and no move in an open block hides it.
  pub hours-shown : {m : Move} → Memᴰ m shown
      → Memᴰ m b.moves × (in_open m ≡ true) × ((p : Move) → Memᴰ p b.moves → in_open p ≡ true → hides b.dimension p m ≡ false)
  unfolding open_moves hidden
  hours-shown {m} k =
      let s = skyline-mem b.dimension open-moves k in
      let o = select-mem in_open b.moves s.0 in
      let none = any_false (λ p. hides b.dimension p m) open-moves s.1 in
      (o.0, o.1, λ p j e. each-mem (λ q. hides b.dimension q m ≡ false) none (mem-select in_open j e))

  -- A move of the board in an open block is shown, or a move shown hides it.
  pub hours-hidden : SoundBoard b → {m : Move} → Memᴰ m b.moves → in_open m ≡ true
      → Memᴰ m shown ⊎ HiderIn (move_before b.dimension) (hides b.dimension) shown m
  unfolding open_moves ordered
  hours-hidden s {m} k e =
      let d = b.dimension in
      let l = dimension-most d s.dimension in
      let fit = Fit b.size d in
      by_cases (hidden d open-moves m)
      (λ h. inr
      (skyline-hider d b.size l open-moves (each-select in_open fit b.moves s.fit)
      (rising-select fit (move_before d) (move-order d b.size l) in_open b.moves s.fit s.order) m (each-mem fit s.fit k) h))
      (λ h. inl (mem-skyline d (mem-select in_open k e) h))
