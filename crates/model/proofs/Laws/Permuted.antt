-- Lists of the same entries in whatever order. Two of them are equal if in both no entry comes before an earlier one.
use Rattle.std.specs.Prelude.{◌≤◌, ◌<◌, Bool, ◌≡◌, length}
use Rattle.std.proofs.Math.Bool.{true, false}
use Rattle.std.proofs.Math.Path.{refl, sym, ap}
use Rattle.std.proofs.Common.{◌∙◌, subst, arith}
use mathlib.Core.List.Permᴰ
use mathlib.Core.List.{List, [], ◌∷◌, ◌++◌, Permᴰ, Sublistᴰ}
use Rattle.model.specs.Basics.{Each, cons_if, select, insert_by, sort_by, rising, first_or, last_or}
use Rattle.model.proofs.Laws.Bool.{by_cases, cond_cases, both_ways}
use Rattle.model.proofs.Laws.Basics.{each_left, each_right, each-mem, last_mem}
use Rattle.model.proofs.Laws.Sorting.{StrictOrder, asym, each-insert, each-sort, insert-here, insert-later, rising-next, rising-tail}

-- ---- parts of a list

module _ {A : Type 0} where
  pub each-sublist : (P : A → Type 0) {xs ys : List A} → Sublistᴰ xs ys → Each P ys → Each P xs
  each-sublist P Sublistᴰ.slnil h = tt
  each-sublist P (Sublistᴰ.cons s) h = each-sublist P s h.1
  each-sublist P (Sublistᴰ.cons-cons e s) h = (subst P (sym e) h.0, each-sublist P s h.1)

  pub select-sublist : (p : A → Bool) (xs : List A) → Sublistᴰ (select p xs) xs
  unfolding select
  select-sublist p [] = Sublistᴰ.slnil
  select-sublist p (x ∷ xs) = keep (p x) (select-sublist p xs)
    where
      keep : (b : Bool) {ys zs : List A} → Sublistᴰ ys zs → Sublistᴰ (cons_if b x ys) (x ∷ zs)
      keep true s = Sublistᴰ.cons-cons refl s
      keep false s = Sublistᴰ.cons s

  pub sublist-length : {xs ys : List A} → Sublistᴰ xs ys → length xs ≤ length ys
  sublist-length Sublistᴰ.slnil = omega arith
  sublist-length (Sublistᴰ.cons s) = omega (arith, sublist-length s)
  sublist-length (Sublistᴰ.cons-cons e s) = omega (arith, sublist-length s)

  -- ---- the same entries

  pub each-perm : (P : A → Type 0) {xs ys : List A} → Permᴰ xs ys → Each P xs → Each P ys
  each-perm P Permᴰ.nil h = tt
  each-perm P (Permᴰ.cons e m) h = (subst P e h.0, each-perm P m h.1)
  each-perm P (Permᴰ.swap e f) h = (subst P f h.1.0, (subst P e h.0, h.1.1))
  each-perm P (Permᴰ.trans m n) h = each-perm P n (each-perm P m h)

  pub perm-equal : {xs ys : List A} → xs ≡ ys → Permᴰ xs ys
  perm-equal {xs} {ys} e = subst (Permᴰ xs) e (Permᴰ.refl xs)

  pub perm-append : {xs xs' ys ys' : List A} → Permᴰ xs xs' → Permᴰ ys ys' → Permᴰ (xs ++ ys) (xs' ++ ys')
  perm-append {xs' = xs'} {ys = ys} m n = Permᴰ.trans (Permᴰ.append_right ys m) (Permᴰ.append_left xs' n)

  perm-exchange : (xs ys zs : List A) → Permᴰ (xs ++ (ys ++ zs)) (ys ++ (xs ++ zs))
  perm-exchange [] ys zs = Permᴰ.refl (ys ++ zs)
  perm-exchange (x ∷ xs) ys zs =
      Permᴰ.trans (Permᴰ.cons refl (perm-exchange xs ys zs)) (Permᴰ.symm (Permᴰ.middle x ys (xs ++ zs)))

  -- Four lists put end to end, the two in the middle exchanged.
  pub perm-four : (ws xs ys zs : List A) → Permᴰ ((ws ++ xs) ++ (ys ++ zs)) ((ws ++ ys) ++ (xs ++ zs))
  perm-four [] xs ys zs = perm-exchange xs ys zs
  perm-four (w ∷ ws) xs ys zs = Permᴰ.cons refl (perm-four ws xs ys zs)

module _ {A : Type 0} (lt : A → A → Bool) where
  pub perm-insert : (x : A) (xs : List A) → Permᴰ (insert_by lt x xs) (x ∷ xs)
  unfolding insert_by
  perm-insert x [] = Permᴰ.refl (x ∷ [])
  perm-insert x (y ∷ ys) =
      cond_cases (λ (zs : List A). Permᴰ zs (x ∷ y ∷ ys)) (lt x y)
      (λ e. Permᴰ.refl (x ∷ y ∷ ys))
      (λ e. Permᴰ.trans (Permᴰ.cons refl (perm-insert x ys)) (Permᴰ.swap refl refl))

  pub perm-sort : (xs : List A) → Permᴰ (sort_by lt xs) xs
  unfolding sort_by
  perm-sort [] = Permᴰ.nil
  perm-sort (x ∷ xs) = Permᴰ.trans (perm-insert x (sort_by lt xs)) (Permᴰ.cons refl (perm-sort xs))

  -- ---- no entry before an earlier one

  abbrev pub NotBefore : A → A → Type 0
  NotBefore x y = lt y x ≡ false

  abbrev pub Sorted : List A → Type 0
  Sorted [] = Unit {0}
  Sorted (x ∷ xs) = Each (NotBefore x) xs × Sorted xs

  pub sorted-left : (xs ys : List A) → Sorted (xs ++ ys) → Sorted xs
  sorted-left [] ys s = tt
  sorted-left (x ∷ xs) ys s = (each_left (NotBefore x) xs ys s.0, sorted-left xs ys s.1)

  pub sorted-right : (xs ys : List A) → Sorted (xs ++ ys) → Sorted ys
  sorted-right [] ys s = s
  sorted-right (x ∷ xs) ys s = sorted-right xs ys s.1

  pub sorted-sublist : {xs ys : List A} → Sublistᴰ xs ys → Sorted ys → Sorted xs
  sorted-sublist Sublistᴰ.slnil s = tt
  sorted-sublist (Sublistᴰ.cons l) s = sorted-sublist l s.1
  sorted-sublist (Sublistᴰ.cons-cons {b = y} {l₁ = xs} e l) s =
      (subst (λ (x : A). Each (NotBefore x) xs) (sym e) (each-sublist (NotBefore y) l s.0), sorted-sublist l s.1)

  -- the first of what stands behind
  pub sorted-behind : (z : A) (xs ys zs : List A) → 0 < length ys → Sorted (xs ++ (ys ++ zs)) → Each (λ x. NotBefore x (first_or z ys)) xs
  unfolding first_or
  sorted-behind z [] ys zs g s = tt
  sorted-behind z (x ∷ xs) [] zs g s = absurd (omega arith)
  sorted-behind z (x ∷ xs) (y ∷ ys) zs g s =
      ((each_right (NotBefore x) xs (y ∷ ys ++ zs) s.0).0, sorted-behind z xs (y ∷ ys) zs g s.1)

  module _ (P : A → Type 0) (o : StrictOrder P lt) where
    pub not-before-trans : (x y z : A) → P x → P y → P z → NotBefore x y → NotBefore y z → NotBefore x z
    not-before-trans x y z p q r f g =
        by_cases (lt z x)
        (λ t. by_cases (lt x y)
        (λ u. both_ways (o.trans z x y r p q t u) g)
        (λ u. both_ways (ap (lt z) (sym (o.total x y p q u f)) ∙ t) g))
        (λ t. t)

    pub not-before-each : (x y : A) (zs : List A) → P x → P y → Each P zs → NotBefore x y → Each (NotBefore y) zs → Each (NotBefore x) zs
    not-before-each x y [] p q h e f = tt
    not-before-each x y (z ∷ zs) p q h e f = (not-before-trans x y z p q h.0 e f.0, not-before-each x y zs p q h.1 e f.1)

    pub rising-sorted : (xs : List A) → Each P xs → rising lt xs ≡ true → Sorted xs
    rising-sorted [] h r = tt
    rising-sorted (x ∷ []) h r = (tt, tt)
    rising-sorted (x ∷ y ∷ ys) h r =
        let e = asym P lt o x y h.0 h.1.0 (rising-next lt x y ys r) in
        let s = rising-sorted (y ∷ ys) h.1 (rising-tail lt x (y ∷ ys) r) in
        ((e, not-before-each x y ys h.0 h.1.0 h.1.1 e s.0), s)

    pub sorted_insert : (x : A) (xs : List A) → P x → Each P xs → Sorted xs → Sorted (insert_by lt x xs)
    unfolding insert_by
    sorted_insert x [] p h s = (tt, tt)
    sorted_insert x (y ∷ ys) p h s =
        cond_cases Sorted (lt x y)
        (λ e. let n = asym P lt o x y p h.0 e in ((n, not-before-each x y ys p h.0 h.1 n s.0), s))
        (λ e. (each-insert lt (NotBefore y) x ys e s.0, sorted_insert x ys p h.1 s.1))

    pub sorted-last : (x : A) (xs : List A) → Each P (x ∷ xs) → Sorted (x ∷ xs) → Each (λ y. NotBefore y (last_or x xs)) (x ∷ xs)
    unfolding last_or
    sorted-last x [] h s = (o.irrefl x h.0, tt)
    sorted-last x (y ∷ ys) h s = (each-mem (NotBefore x) s.0 (last_mem y ys), sorted-last y ys h.1 s.1)

    -- ---- entries put in

    -- x and y put in either order, where x comes before y
    module _ (x y : A) (p : P x) (q : P y) (e : lt x y ≡ true) where
      in-front : (zs : List A) → insert_by lt x (insert_by lt y zs) ≡ x ∷ insert_by lt y zs → insert_by lt x zs ≡ x ∷ zs
          → insert_by lt x (insert_by lt y zs) ≡ insert_by lt y (insert_by lt x zs)
      in-front zs f g = f ∙ sym (insert-later lt y x zs (asym P lt o x y p q e)) ∙ ap (insert_by lt y) (sym g)

      insert-comm-before : (zs : List A) → Each P zs → insert_by lt x (insert_by lt y zs) ≡ insert_by lt y (insert_by lt x zs)
      unfolding insert_by
      insert-comm-before [] h = in-front [] (insert-here lt x y [] e) refl
      insert-comm-before (z ∷ zs) h =
          by_cases (lt x z)
          (λ t. in-front (z ∷ zs)
          (cond_cases (λ (ws : List A). insert_by lt x ws ≡ x ∷ ws) (lt y z)
          (λ u. insert-here lt x y (z ∷ zs) e)
          (λ u. insert-here lt x z (insert_by lt y zs) t))
          (insert-here lt x z zs t))
          (λ f.
          let g : lt y z ≡ false = by_cases (lt y z) (λ u. both_ways (o.trans x y z p q h.0 e u) f) (λ u. u) in
          ap (insert_by lt x) (insert-later lt y z zs g)
          ∙ insert-later lt x z (insert_by lt y zs) f
          ∙ ap (λ (ws : List A). z ∷ ws) (insert-comm-before zs h.1)
          ∙ sym (insert-later lt y z (insert_by lt x zs) g)
          ∙ ap (insert_by lt y) (sym (insert-later lt x z zs f)))

    pub insert_comm : (x y : A) → P x → P y → (zs : List A) → Each P zs → insert_by lt x (insert_by lt y zs) ≡ insert_by lt y (insert_by lt x zs)
    insert_comm x y p q zs h =
        by_cases (lt x y)
        (λ t. insert-comm-before x y p q t zs h)
        (λ f. by_cases (lt y x)
        (λ t. sym (insert-comm-before y x q p t zs h))
        (λ g. let e = o.total x y p q f g in
        ap (λ (w : A). insert_by lt x (insert_by lt w zs)) (sym e) ∙ ap (λ (w : A). insert_by lt w (insert_by lt x zs)) e))

    insert-sorted : (x : A) (xs : List A) → P x → Each P xs → Each (NotBefore x) xs → insert_by lt x xs ≡ x ∷ xs
    unfolding insert_by
    insert-sorted x [] p h f = refl
    insert-sorted x (y ∷ ys) p h f =
        by_cases (lt x y) (insert-here lt x y ys)
        (λ g. let e = o.total x y p h.0 g f.0 in
        insert-later lt x y ys g
        ∙ ap (λ (zs : List A). y ∷ zs) (insert-sorted x ys p h.1 f.1)
        ∙ ap (λ (z : A). z ∷ x ∷ ys) (sym e)
        ∙ ap (λ (z : A). x ∷ z ∷ ys) e)

    -- ---- lists put in order

    pub sort-perm : {xs ys : List A} → Permᴰ xs ys → Each P xs → sort_by lt xs ≡ sort_by lt ys
    unfolding sort_by
    sort-perm Permᴰ.nil h = refl
    sort-perm (Permᴰ.cons {b = y} {l₁ = xs} e m) h =
        ap (λ (w : A). insert_by lt w (sort_by lt xs)) e ∙ ap (insert_by lt y) (sort-perm m h.1)
    sort-perm (Permᴰ.swap {a = x} {b = y} {a' = v} {l = xs} e f) h =
        insert_comm x y h.0 h.1.0 (sort_by lt xs) (each-sort lt P xs h.1.1)
        ∙ ap (λ (w : A). insert_by lt w (insert_by lt x (sort_by lt xs))) f
        ∙ ap (λ (w : A). insert_by lt v (insert_by lt w (sort_by lt xs))) e
    sort-perm (Permᴰ.trans m n) h = sort-perm m h ∙ sort-perm n (each-perm P m h)

    pub sort_sorted : (xs : List A) → Each P xs → Sorted xs → sort_by lt xs ≡ xs
    unfolding sort_by
    sort_sorted [] h s = refl
    sort_sorted (x ∷ xs) h s = ap (insert_by lt x) (sort_sorted xs h.1 s.1) ∙ insert-sorted x xs h.0 h.1 s.0

    pub sorted_ext : {xs ys : List A} → Permᴰ xs ys → Each P xs → Sorted xs → Sorted ys → xs ≡ ys
    sorted_ext {xs} {ys} m h s r = sym (sort_sorted xs h s) ∙ sort-perm m h ∙ sort_sorted ys (each-perm P m h) r
