-- A step of each loop over the heights by place: what is left from a place, from what is left after it.
use Prim.Native.Nat.{ℕ, zero, suc, ◌+◌, ◌-◌, ◌≤◌, ◌<◌}
use Rattle.std.specs.Prelude.{Bool, true, false, ◌≡◌, refl, leb, length, take}
use Rattle.std.proofs.Math.Bool.{cond}
use mathlib.Core.List.{List, [], ◌∷◌}
use Rattle.std.proofs.Common.{sym, ◌∙◌, add-zero, add-suc, suc-add, add-one, le-leb, drop-cons}
use Rattle.std.proofs.Math.Path.{ap, ap₂}
use native.Mathlib.Omega.{arith}
use Rattle.std.proofs.lemmas.Bool.{lt-leb}
use Rattle.std.proofs.Math.ListN.{drop, get_or}
use Rattle.std.proofs.Math.Seq.{drop-length}
use Rattle.model.specs.Basics.{select, count}
use Rattle.model.proofs.Laws.Basics.{count-cons}
use Rattle.line.specs.Places.{lower_among, start_among, end_among, entries_among, entry_among}

-- ---- counted until one that ends the count

module _ {A : Type 0} (g : List A → ℕ) (e : ℕ) (rs : List A) where
  count-here : g (drop e rs) ≡ 0 → e + g (drop e rs) ≡ e
  count-here none_left = ap (λ (k : ℕ). e + k) none_left ∙ add-zero e

  count-later : g (drop e rs) ≡ suc (g (drop (suc e) rs)) → e + 1 + g (drop (e + 1) rs) ≡ e + g (drop e rs)
  count-later more =
      ap (λ (k : ℕ). k + g (drop k rs)) (add-one e)
      ∙ suc-add e (g (drop (suc e) rs))
      ∙ sym (ap (λ (k : ℕ). e + k) more ∙ add-suc e (g (drop (suc e) rs)))

  count-last : g [] ≡ 0 → e ≡ length rs → e + g (drop e rs) ≡ e
  count-last end h = count-here (ap (λ (k : ℕ). g (drop k rs)) h ∙ ap g (drop-length rs) ∙ end)

-- ---- where a node ends

module _ (l e : ℕ) (ks : List ℕ) (h : e < length ks) where
  lower-step : (b : Bool) → leb l (get_or ks e 0) ≡ b → lower_among l (drop e ks) ≡ cond b 0 (suc (lower_among l (drop (suc e) ks)))
  unfolding lower_among
  lower-step b test = ap (lower_among l) (drop-cons ks e 0 h) ∙ ap (λ (t : Bool). cond t 0 (suc (lower_among l (drop (suc e) ks)))) test

  pub end-here : l ≤ get_or ks e 0 → e + lower_among l (drop e ks) ≡ e
  end-here g = count-here (lower_among l) e ks (lower-step true (le-leb l (get_or ks e 0) g))

  pub end_later : get_or ks e 0 < l → e + 1 + lower_among l (drop (e + 1) ks) ≡ e + lower_among l (drop e ks)
  end_later g = count-later (lower_among l) e ks (lower-step false (lt-leb l (get_or ks e 0) g))

pub end-first : (l p : ℕ) (ks : List ℕ) → p + 1 + lower_among l (drop (p + 1) ks) ≡ end_among l p ks
unfolding end_among
end-first l p ks = ap (λ (k : ℕ). k + lower_among l (drop k ks)) (add-one p)

pub end-last : (l e : ℕ) (ks : List ℕ) → e ≡ length ks → e + lower_among l (drop e ks) ≡ e
unfolding lower_among
end-last l e ks h = count-last (lower_among l) e ks refl h

-- ---- where it starts

start-step : (l s : ℕ) (ks : List ℕ) → 0 < s → start_among l s ks ≡ cond (leb l (get_or ks s 0)) s (start_among l (s - 1) ks)
unfolding start_among
start-step l zero ks h = absurd (omega arith)
start-step l (suc s) ks h =
    let back : s ≡ suc s - 1 = omega arith in
    ap (λ (k : ℕ). cond (leb l (get_or ks (suc s) 0)) (suc s) (start_among l k ks)) back

module _ (l s : ℕ) (ks : List ℕ) (h : 0 < s) where
  pub start-here : l ≤ get_or ks s 0 → s ≡ start_among l s ks
  start-here g = sym (start-step l s ks h ∙ ap (λ (b : Bool). cond b s (start_among l (s - 1) ks)) (le-leb l (get_or ks s 0) g))

  pub start-earlier : get_or ks s 0 < l → start_among l (s - 1) ks ≡ start_among l s ks
  start-earlier g = sym (start-step l s ks h ∙ ap (λ (b : Bool). cond b s (start_among l (s - 1) ks)) (lt-leb l (get_or ks s 0) g))

pub start_first : (l s : ℕ) (ks : List ℕ) → s ≡ 0 → 0 ≡ start_among l s ks
unfolding start_among
start_first l s ks h = ap (λ (k : ℕ). start_among l k ks) (sym h)

-- ---- how many entries start

module _ (l i e : ℕ) (ks : List ℕ) (h : i < e) (k : e ≤ length ks) where
  entries-step : entries_among l i e ks ≡ cond (leb l (get_or ks i 0)) (suc (entries_among l (i + 1) e ks)) (entries_among l (i + 1) e ks)
  unfolding entries_among
  entries-step =
      let more : e - i ≡ suc (e - (i + 1)) = omega arith in
      ap₂ (λ (n : ℕ) (xs : List ℕ). count (leb l) (take n xs)) more (drop-cons ks i 0 (omega arith) ∙ ap (λ (j : ℕ). get_or ks i 0 ∷ drop j ks) (sym (add-one i)))
      ∙ count-cons (leb l) (get_or ks i 0) (take (e - (i + 1)) (drop (i + 1) ks))

  pub entry_here : l ≤ get_or ks i 0 → entries_among l i e ks ≡ suc (entries_among l (i + 1) e ks)
  entry_here g = entries-step ∙ ap (λ (b : Bool). cond b (suc (entries_among l (i + 1) e ks)) (entries_among l (i + 1) e ks)) (le-leb l (get_or ks i 0) g)

  pub entry-none : get_or ks i 0 < l → entries_among l i e ks ≡ entries_among l (i + 1) e ks
  entry-none g = entries-step ∙ ap (λ (b : Bool). cond b (suc (entries_among l (i + 1) e ks)) (entries_among l (i + 1) e ks)) (lt-leb l (get_or ks i 0) g)

pub entries-end : (l i e : ℕ) (ks : List ℕ) → i ≡ e → entries_among l i e ks ≡ 0
unfolding entries_among count select
entries-end l i e ks h =
    let none_left : e - i ≡ 0 = omega arith in
    ap (λ (n : ℕ). count (leb l) (take n (drop i ks))) none_left

pub entry-turn : (l s k q r : ℕ) (ks : List ℕ) → q ≡ entry_among l s k ks → r ≡ end_among l q ks → r ≡ entry_among l s (k + 1) ks
unfolding entry_among
entry-turn l s k q r ks here next =
    next ∙ ap (λ (i : ℕ). end_among l i ks) here ∙ ap (λ (i : ℕ). entry_among l s i ks) (sym (add-one k))
