-- Lists by places: `tab f n` is f 0, f 1, .., n entries in all.
use Prim.Native.Nat.{ℕ, zero, suc, ◌+◌, ◌-◌, ◌≤◌, ◌<◌}
use mathlib.Core.List.{List, [], ◌∷◌, ◌++◌, map, append-nil, append_assoc, map-append}
use Rattle.std.specs.Prelude.{◌≢◌, ◌≡◌, length, take, drop, set}
use Rattle.std.proofs.Math.Path.{refl, sym, ap, ap₂}
use Rattle.std.proofs.Common.{◌∙◌, add-zero, add-suc, add-sub_of_le, length-set, take_at, drop_at, ext_get_or, get_or-set_same, get_or-set_other}
use Rattle.std.proofs.Math.Decide.{dec_lt, ℕ_discrete}
use Rattle.std.proofs.Math.Numerals.{add-one}
use native.Mathlib.Omega.{arith}
use Rattle.std.proofs.Math.ListN.{get_or, length-append, get_or-append, get_or-eq_default}
use Rattle.std.proofs.Math.Seq.{get_or-append_seam}
use Rattle.model.specs.Basics.{Each}
use Rattle.model.proofs.Laws.Basics.{each_append}
use Rattle.promises.specs.Layout.{tab}

module _ {A : Type 0} (f : ℕ → A) where
  pub length-tab : (n : ℕ) → length (tab f n) ≡ n
  unfolding tab
  length-tab zero = refl
  length-tab (suc n) = length-append (tab f n) (f n ∷ []) ∙ ap (λ (k : ℕ). k + 1) (length-tab n) ∙ add-one n

  pub get_or-tab : (z : A) (n i : ℕ) → i < n → get_or (tab f n) i z ≡ f i
  unfolding tab
  get_or-tab z zero i h = absurd (omega arith)
  get_or-tab z (suc n) i h = go (dec_lt i n) (get_or-tab z n i)
    where
      go : Dec (i < n) → (i < n → get_or (tab f n) i z ≡ f i) → get_or (tab f n ++ f n ∷ []) i z ≡ f i
      go (yes l) g = get_or-append (tab f n) (f n ∷ []) z i (omega (arith, length-tab n)) ∙ g l
      go (no k) g =
          let e : i ≡ n = omega arith in
          ap (λ (j : ℕ). get_or (tab f n ++ f n ∷ []) j z) (e ∙ sym (length-tab n)) ∙ get_or-append_seam (tab f n) (f n) [] z ∙ ap f (sym e)

  pub get_or-tab-past : (z : A) (n i : ℕ) → n ≤ i → get_or (tab f n) i z ≡ z
  get_or-tab-past z n i h = get_or-eq_default (tab f n) z (omega (arith, length-tab n))

  pub each-tab : (P : A → Type 0) (n : ℕ) → ((i : ℕ) → i < n → P (f i)) → Each P (tab f n)
  unfolding tab
  each-tab P zero h = tt
  each-tab P (suc n) h = each_append P (tab f n) (f n ∷ []) (each-tab P n (λ i l. h i (omega arith))) (h n (omega arith), tt)

-- ---- two tables, and a table in parts

module _ {A : Type 0} where
  pub tab-ext : (f g : ℕ → A) (n : ℕ) → ((i : ℕ) → i < n → f i ≡ g i) → tab f n ≡ tab g n
  unfolding tab
  tab-ext f g zero h = refl
  tab-ext f g (suc n) h = ap₂ (λ (l : List A) (x : A). l ++ x ∷ []) (tab-ext f g n (λ i k. h i (omega arith))) (h n (omega arith))

  -- A list of n entries that holds f i at each place i.
  pub tab-of : (f : ℕ → A) (z : A) (n : ℕ) (l : List A) → length l ≡ n → ((i : ℕ) → i < n → get_or l i z ≡ f i) → l ≡ tab f n
  tab-of f z n l count h =
      ext_get_or z l (tab f n) (count ∙ sym (length-tab f n)) (λ i k. h i (omega arith) ∙ sym (get_or-tab f z n i (omega arith)))

  pub tab-append : (f : ℕ → A) (n k : ℕ) → tab f (n + k) ≡ tab f n ++ tab (λ i. f (n + i)) k
  unfolding tab
  tab-append f n zero = ap (tab f) (add-zero n) ∙ sym (append-nil (tab f n))
  tab-append f n (suc k) =
      ap (tab f) (add-suc n k)
      ∙ ap (λ (l : List A). l ++ f (n + k) ∷ []) (tab-append f n k)
      ∙ append_assoc (tab f n) (tab (λ i. f (n + i)) k) (f (n + k) ∷ [])

  -- From the front.
  pub tab-cons : (f : ℕ → A) (n : ℕ) → tab f (suc n) ≡ f 0 ∷ tab (λ i. f (suc i)) n
  unfolding tab
  tab-cons f zero = refl
  tab-cons f (suc n) = ap (λ (l : List A). l ++ f (suc n) ∷ []) (tab-cons f n)

  module _ (f : ℕ → A) (n k : ℕ) (h : k ≤ n) where
    parts : tab f n ≡ tab f k ++ tab (λ i. f (k + i)) (n - k)
    parts = ap (tab f) (sym (add-sub_of_le h)) ∙ tab-append f k (n - k)

    pub take-tab : take k (tab f n) ≡ tab f k
    take-tab = ap (take k) parts ∙ take_at (tab f k) (tab (λ i. f (k + i)) (n - k)) k (length-tab f k)

    pub drop-tab : drop k (tab f n) ≡ tab (λ i. f (k + i)) (n - k)
    drop-tab = ap (drop k) parts ∙ drop_at (tab f k) (tab (λ i. f (k + i)) (n - k)) k (length-tab f k)

  -- ---- changed

  pub tab-set : (f g : ℕ → A) (n i : ℕ) (x : A) → i < n → g i ≡ x → ((j : ℕ) → j < n → j ≢ i → g j ≡ f j) → tab g n ≡ set (tab f n) i x
  tab-set f g n i x more at others =
      sym (tab-of g x n (set (tab f n) i x) (length-set (tab f n) i x ∙ length-tab f n) (λ j h. go j h (ℕ_discrete j i)))
    where
      go : (j : ℕ) → j < n → Dec (j ≡ i) → get_or (set (tab f n) i x) j x ≡ g j
      go j h (yes e) = ap (λ (k : ℕ). get_or (set (tab f n) i x) k x) e ∙ get_or-set_same (tab f n) i x x (omega (arith, length-tab f n)) ∙ sym (ap g e ∙ at)
      go j h (no e) = get_or-set_other (tab f n) i j x x e ∙ get_or-tab f x n j h ∙ sym (others j h e)

  -- An entry put in at place p.
  pub tab-insert : (f g : ℕ → A) (n p : ℕ) (x : A) → p ≤ n → ((i : ℕ) → i < p → g i ≡ f i) → g p ≡ x → ((i : ℕ) → p ≤ i → i < n → g (suc i) ≡ f i) → tab g (suc n) ≡ take p (tab f n) ++ x ∷ drop p (tab f n)
  tab-insert f g n p x h before at after =
      let cut : suc n ≡ p + suc (n - p) = omega arith in
      ap (tab g) cut
      ∙ tab-append g p (suc (n - p))
      ∙ ap (λ (l : List A). tab g p ++ l) (tab-cons (λ i. g (p + i)) (n - p))
      ∙ ap₂ (λ (l r : List A). l ++ g (p + 0) ∷ r) (tab-ext g f p before ∙ sym (take-tab f n p h)) (tab-ext (λ i. g (p + suc i)) (λ i. f (p + i)) (n - p) rest ∙ sym (drop-tab f n p h))
      ∙ ap (λ (y : A). take p (tab f n) ++ y ∷ drop p (tab f n)) (ap g (add-zero p) ∙ at)
    where
      rest : (i : ℕ) → i < n - p → g (p + suc i) ≡ f (p + i)
      rest i k = ap g (add-suc p i) ∙ after (p + i) (omega arith) (omega arith)

  -- The entries from place p up to place e taken out.
  pub tab-cut : (f g : ℕ → A) (n p e : ℕ) → p ≤ e → e ≤ n → ((i : ℕ) → i < p → g i ≡ f i) → ((i : ℕ) → e + i < n → g (p + i) ≡ f (e + i)) → tab g (p + (n - e)) ≡ take p (tab f n) ++ drop e (tab f n)
  tab-cut f g n p e h k before after =
      tab-append g p (n - e)
      ∙ ap₂ (λ (l r : List A). l ++ r)
      (tab-ext g f p before ∙ sym (take-tab f n p (omega arith)))
      (tab-ext (λ i. g (p + i)) (λ i. f (e + i)) (n - e) (λ i j. after i (omega arith)) ∙ sym (drop-tab f n e k))

pub map-tab : {A B : Type 0} (g : A → B) (f : ℕ → A) (n : ℕ) → map g (tab f n) ≡ tab (λ i. g (f i)) n
unfolding tab
map-tab g f zero = refl
map-tab {B = B} g f (suc n) = map-append g (tab f n) (f n ∷ []) ∙ ap (λ (l : List B). l ++ g (f n) ∷ []) (map-tab g f n)
