-- The list of the entries that no entry hides: its laws, over any relation that hides and any order that it agrees with,
-- then at the list of a board.
use Rattle.std.specs.Prelude.{ℕ, ◌≤◌, Bool, true, false, ◌||◌, ◌≡◌, refl}
use Rattle.std.proofs.Math.Bool.{not, or-false, or_comm}
use Rattle.std.proofs.lemmas.Bool.{false≢true}
use Rattle.std.proofs.Common.{sym, ◌∙◌, ap, subst}
use mathlib.Core.List.Memᴰ
use mathlib.Core.List.{List, [], ◌∷◌, ◌++◌, Memᴰ}
use Rattle.zorder.specs.Between.{row_costs}
use Rattle.model.specs.Basics.{Each, select, any, insert_by, rising}
use Rattle.model.specs.Moves.{Move, move_before, insert, ordered}
use Rattle.model.specs.Dominance.{hides}
use Rattle.model.specs.Lists.{hidden, skyline}
use Rattle.model.specs.Sound.{Fit}
use Rattle.model.proofs.Laws.Bool.{by_cases, not-flip, not_back, same_test, both_ways}
use Rattle.model.proofs.Laws.Basics.{Once, each-mem, mem-each, each_left, each_right, select-append, select-mem, mem-select, select-ext, once-select, any_append, any-mem, any-witness, any_none}
use Rattle.model.proofs.Laws.Sorting.{StrictOrder, BeforeEach, asym, any-insert, rising-left, rising-right, rising-head, rising-across, rising-select}
use Rattle.model.proofs.Laws.Order.{move-order}
use Rattle.model.proofs.Laws.Hiding.{Hiding, move-hiding}

module _ {A : Type 0} (hides : A → A → Bool) where
  -- The list over any relation that hides.
  abbrev pub hidden_in : List A → A → Bool
  hidden_in ms m = any (λ p. hides p m) ms

  abbrev pub unhidden : List A → List A
  unhidden ms = select (λ m. not (hidden_in ms m)) ms

-- An entry of a list that hides m, and stands before it.
pub record HiderIn {A : Type 0} (lt hides : A → A → Bool) (list : List A) (m : A) : Type 0 where
  pub hider : A
  pub listed : Memᴰ hider list
  pub hiding : hides hider m ≡ true
  pub earlier : lt hider m ≡ true

-- ---- what holds of any relation

-- the first entry that passes a test
first_found : {A : Type 0} (p : A → Bool) (xs : List A) → any p xs ≡ true
    → (ys : List A) × (x : A) × (zs : List A) × (xs ≡ ys ++ x ∷ zs) × (any p ys ≡ false) × (p x ≡ true)
unfolding any
first_found p [] e = absurd (false≢true e)
first_found p (x ∷ xs) e =
    by_cases (p x)
    (λ h. ([], x, xs, refl, refl, h))
    (λ h. let f = first_found p xs (subst (λ (b : Bool). (b || any p xs) ≡ true) h e) in
    (x ∷ f.0, f.1, f.2, ap (λ (l : List _). x ∷ l) f.3, ap (λ (b : Bool). b || any p f.0) h ∙ f.4, f.5))

module _ {A : Type 0} (hides : A → A → Bool) where
  pub unhidden-mem : {m : A} (ms : List A) → Memᴰ m (unhidden hides ms) → Memᴰ m ms × (hidden_in hides ms m ≡ false)
  unhidden-mem {m} ms k =
      let s = select-mem (λ n. not (hidden_in hides ms n)) ms k in (s.0, not_back (hidden_in hides ms m) s.1)

  pub mem-unhidden : {m : A} {ms : List A} → Memᴰ m ms → hidden_in hides ms m ≡ false → Memᴰ m (unhidden hides ms)
  mem-unhidden {m} {ms} k e = mem-select (λ n. not (hidden_in hides ms n)) k (not-flip (hidden_in hides ms m) e)

  -- a part that does not hide m
  without-hiders : (xs ys : List A) (m : A) → Each (λ y. hides y m ≡ false) ys → hidden_in hides (xs ++ ys) m ≡ hidden_in hides xs m
  without-hiders xs ys m es =
      any_append (λ p. hides p m) xs ys
      ∙ ap (λ (b : Bool). hidden_in hides xs m || b) (any_none (λ p. hides p m) ys es)
      ∙ or-false (hidden_in hides xs m)

  -- An entry more.
  pub insert-hidden : (lt : A → A → Bool) (x : A) (ms : List A) (m : A) → hidden_in hides (insert_by lt x ms) m ≡ (hidden_in hides ms m || hides x m)
  insert-hidden lt x ms m = any-insert lt (λ p. hides p m) x ms ∙ or_comm (hides x m) (hidden_in hides ms m)

-- ---- what holds of a list in order

module _ {A : Type 0} {P : A → Type 0} {lt hides : A → A → Bool} (o : StrictOrder P lt) (v : Hiding P lt hides) where
  later-hides-not : (x y : A) → P x → P y → lt x y ≡ true → hides y x ≡ false
  later-hides-not x y p q l =
      by_cases (hides y x) (λ e. both_ways (v.earlier y x q p e) (asym P lt o x y p q l)) (λ e. e)

  later-hide-not : (m : A) (ys : List A) → P m → Each P ys → BeforeEach lt m ys → Each (λ y. hides y m ≡ false) ys
  later-hide-not m ys p es b =
      mem-each (λ y. hides y m ≡ false) ys (λ y k. later-hides-not m y p (each-mem P es k) (each-mem (λ z. lt m z ≡ true) b k))

  module _ (xs ys : List A) (es : Each P (xs ++ ys)) (r : rising lt (xs ++ ys) ≡ true) where
    -- an entry of the first part is hidden by the first part, if at all
    hidden-early : (m : A) → Memᴰ m xs → hidden_in hides (xs ++ ys) m ≡ hidden_in hides xs m
    hidden-early m k =
        without-hiders hides xs ys m
        (later-hide-not m ys (each-mem P (each_left P xs ys es) k) (each_right P xs ys es)
        (each-mem (λ x. BeforeEach lt x ys) (rising-across P lt o xs ys (each_left P xs ys es) (each_right P xs ys es) r) k))

    -- The list of the first part begins the list.
    pub unhidden-append : unhidden hides (xs ++ ys) ≡ unhidden hides xs ++ select (λ m. not (hidden_in hides (xs ++ ys) m)) ys
    unhidden-append =
        select-append shown xs ys
        ∙ ap (λ (l : List A). l ++ select shown ys)
        (select-ext shown (λ m. not (hidden_in hides xs m)) xs
        (mem-each (λ m. shown m ≡ not (hidden_in hides xs m)) xs (λ m k. ap not (hidden-early m k))))
      where
        shown : A → Bool
        shown m = not (hidden_in hides (xs ++ ys) m)

  module _ (xs : List A) (m : A) (ys : List A) (es : Each P (xs ++ m ∷ ys)) (r : rising lt (xs ++ m ∷ ys) ≡ true) where
    here : Each P (m ∷ ys)
    here = each_right P xs (m ∷ ys) es

    -- Only earlier entries need to be looked at.
    pub earlier-enough : hidden_in hides (xs ++ m ∷ ys) m ≡ hidden_in hides xs m
    earlier-enough =
        without-hiders hides xs (m ∷ ys) m (
          v.irrefl m here.0,
          later-hide-not m ys here.0 here.1 (rising-head P lt o m ys here.0 here.1 (rising-right lt xs (m ∷ ys) r)),
        )

    -- the first entry that hides another is hidden by none
    first-unhidden : (n : A) → P n → hidden_in hides xs n ≡ false → hides m n ≡ true → hidden_in hides (xs ++ m ∷ ys) m ≡ false
    first-unhidden n q none e = earlier-enough ∙ by_cases (hidden_in hides xs m) found (λ h. h)
      where
        found : hidden_in hides xs m ≡ true → hidden_in hides xs m ≡ false
        found h =
            let w = any-witness (λ p. hides p m) xs h in
            both_ways
            (any-mem (λ p. hides p n) w.1 (v.trans w.0 m n (each-mem P (each_left P xs (m ∷ ys) es) w.1) here.0 q w.2 e))
            none

    first-hider : (n : A) → P n → hidden_in hides xs n ≡ false → hides m n ≡ true → HiderIn lt hides (unhidden hides (xs ++ m ∷ ys)) n
    first-hider n q none e =
        record {
          hider = m;
          listed = mem-unhidden hides (Memᴰ.append_right xs (Memᴰ.head refl)) (first-unhidden n q none e);
          hiding = e;
          earlier = v.earlier m n here.0 q e;
        }

  module _ (ms : List A) (es : Each P ms) (r : rising lt ms ≡ true) where
    -- What is hidden is hidden by a listed entry, which stands earlier.
    pub hidden-by-listed : (m : A) → P m → hidden_in hides ms m ≡ true → HiderIn lt hides (unhidden hides ms) m
    hidden-by-listed m q e =
        let f = first_found (λ p. hides p m) ms e in
        subst (λ (l : List A). HiderIn lt hides (unhidden hides l) m) (sym f.3)
        (first-hider f.0 f.1 f.2 (subst (Each P) f.3 es) (subst (λ (l : List A). rising lt l ≡ true) f.3 r) m q f.4 f.5)

    -- So the listed entries alone say what is hidden.
    pub listed-enough : (m : A) → P m → hidden_in hides ms m ≡ hidden_in hides (unhidden hides ms) m
    listed-enough m q =
        same_test (hidden_in hides ms m) (hidden_in hides (unhidden hides ms) m)
        (λ e. let h = hidden-by-listed m q e in any-mem (λ p. hides p m) h.listed h.hiding)
        (λ e. let w = any-witness (λ p. hides p m) (unhidden hides ms) e in any-mem (λ p. hides p m) (unhidden-mem hides ms w.1).0 w.2)

    pub unhidden-rising : rising lt (unhidden hides ms) ≡ true
    unhidden-rising = rising-select P lt o (λ m. not (hidden_in hides ms m)) ms es r

  -- Of the earlier entries only the listed need to be looked at.
  pub earlier-listed-enough : (xs : List A) (m : A) (ys : List A) → Each P (xs ++ m ∷ ys) → rising lt (xs ++ m ∷ ys) ≡ true
      → hidden_in hides (xs ++ m ∷ ys) m ≡ hidden_in hides (unhidden hides xs) m
  earlier-listed-enough xs m ys es r =
      earlier-enough xs m ys es r
      ∙ listed-enough xs (each_left P xs (m ∷ ys) es) (rising-left lt xs (m ∷ ys) r) m (each_right P xs (m ∷ ys) es).0

  -- ---- an entry more

  pub insert-hidden-self : (x : A) (ms : List A) → P x → hidden_in hides (insert_by lt x ms) x ≡ hidden_in hides ms x
  insert-hidden-self x ms p =
      any-insert lt (λ q. hides q x) x ms ∙ ap (λ (b : Bool). b || hidden_in hides ms x) (v.irrefl x p)

-- ---- the list of a board

module _ (d : ℕ) where
  pub skyline-mem : {m : Move} (ms : List Move) → Memᴰ m (skyline d ms) → Memᴰ m ms × (hidden d ms m ≡ false)
  unfolding skyline hidden
  skyline-mem ms = unhidden-mem (hides d) ms

  pub mem-skyline : {m : Move} {ms : List Move} → Memᴰ m ms → hidden d ms m ≡ false → Memᴰ m (skyline d ms)
  unfolding skyline hidden
  mem-skyline = mem-unhidden (hides d)

  pub enter-hidden : (x : Move) (ms : List Move) (m : Move) → hidden d (insert d x ms) m ≡ (hidden d ms m || hides d x m)
  unfolding hidden insert
  enter-hidden = insert-hidden (hides d) (move_before d)

  pub skyline-once : (ms : List Move) → Once ms → Once (skyline d ms)
  unfolding skyline
  skyline-once ms = once-select (λ m. not (hidden d ms m)) ms

module _ (d c : ℕ) (l : d ≤ row_costs) where
  module _ (ms : List Move) (es : Each (Fit c d) ms) (r : ordered d ms ≡ true) where
    pub skyline-hider : (m : Move) → Fit c d m → hidden d ms m ≡ true → HiderIn (move_before d) (hides d) (skyline d ms) m
    unfolding skyline hidden ordered
    skyline-hider = hidden-by-listed (move-order d c l) (move-hiding d c l) ms es r

    pub skyline-enough : (m : Move) → Fit c d m → hidden d ms m ≡ hidden d (skyline d ms) m
    unfolding skyline hidden ordered
    skyline-enough = listed-enough (move-order d c l) (move-hiding d c l) ms es r

    pub skyline-ordered : ordered d (skyline d ms) ≡ true
    unfolding skyline hidden ordered
    skyline-ordered = unhidden-rising (move-order d c l) (move-hiding d c l) ms es r

  module _ (xs : List Move) (m : Move) (ys : List Move) (es : Each (Fit c d) (xs ++ m ∷ ys)) (r : ordered d (xs ++ m ∷ ys) ≡ true) where
    pub skyline-earlier-listed : hidden d (xs ++ m ∷ ys) m ≡ hidden d (skyline d xs) m
    unfolding skyline hidden ordered
    skyline-earlier-listed = earlier-listed-enough (move-order d c l) (move-hiding d c l) xs m ys es r

  pub skyline-append : (xs ys : List Move) → Each (Fit c d) (xs ++ ys) → ordered d (xs ++ ys) ≡ true
      → skyline d (xs ++ ys) ≡ skyline d xs ++ select (λ m. not (hidden d (xs ++ ys) m)) ys
  unfolding skyline hidden ordered
  skyline-append = unhidden-append (move-order d c l) (move-hiding d c l)

  pub enter-hidden-self : (x : Move) (ms : List Move) → Fit c d x → hidden d (insert d x ms) x ≡ hidden d ms x
  unfolding hidden insert
  enter-hidden-self = insert-hidden-self (move-order d c l) (move-hiding d c l)
