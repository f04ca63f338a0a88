-- How the moves of a tree stand to a new one, and the child that the descent then takes.
use Rattle.std.specs.Prelude.{ℕ, suc, ◌+◌, ◌<◌, Bool, true, false, ◌⊎◌, ◌≡◌, length}
use Rattle.std.proofs.Math.Bool.{cond}
use Rattle.std.proofs.Common.{true≢false, sym, ◌∙◌, zero-add, arith, length-append}
use Rattle.std.proofs.Math.Logic.{inl, inr}
use Rattle.std.proofs.Math.Path.{refl, ap, ap₂}
use mathlib.Core.List.{List, [], ◌∷◌, ◌++◌, flat_map}
use Rattle.std.proofs.Math.Nat.{add-zero}
use Rattle.std.proofs.Math.Seq.{append_snoc}
use Rattle.model.specs.Basics.{Each, first_or, last_or}
use Rattle.model.specs.Moves.{Move, no_move, move_before}
use Rattle.model.specs.Tree.{Entry, moves_under, first_move, last_move}
use Rattle.model.specs.Entering.{earlier_in_gap, goes_into, child_place}
use Rattle.model.proofs.Laws.Basics.{each_append, each_left, each_right}
use Rattle.model.proofs.Laws.Entering.{each_first}
use Rattle.line.specs.Laws.Line.{Whole, whole-moves}

-- ---- a property of each entry of parts

pub each_last : {A : Type 0} (P : A → Type 0) (z : A) (xs : List A) → 0 < length xs → Each P xs → P (last_or z xs)
unfolding last_or
each_last P z [] g p = absurd (omega arith)
each_last P z (x ∷ []) g p = p.0
each_last P z (x ∷ y ∷ ys) g p = each_last P x (y ∷ ys) (omega arith) p.1

module _ {A B : Type 0} (P : B → Type 0) (f : A → List B) where
  pub each-parts : (xs : List A) → Each P (flat_map f xs) → Each (λ x. Each P (f x)) xs
  unfolding flat_map
  each-parts [] p = tt
  each-parts (x ∷ xs) p = (each_left P (f x) (flat_map f xs) p, each-parts xs (each_right P (f x) (flat_map f xs) p))

  pub parts-each : (xs : List A) → Each (λ x. Each P (f x)) xs → Each P (flat_map f xs)
  unfolding flat_map
  parts-each [] p = tt
  parts-each (x ∷ xs) p = each_append P (f x) (flat_map f xs) p.0 (parts-each xs p.1)

-- ---- moves before and after the new one

module _ (d : ℕ) (x : Move) where
  abbrev pub Before : Move → Type 0
  Before m = (move_before d m x ≡ true) × (move_before d x m ≡ false)

  abbrev pub After : Move → Type 0
  After m = (move_before d m x ≡ false) × (move_before d x m ≡ true)

  -- Those before the new one come first.
  abbrev pub Front : List Move → Type 0
  Front [] = Unit {0}
  Front (m ∷ ms) = (Before m × Front ms) ⊎ (After m × Each After ms)

  pub front : (ms ns : List Move) → Each Before ms → Each After ns → Front (ms ++ ns)
  front [] [] bs rs = tt
  front [] (n ∷ ns) bs rs = inr rs
  front (m ∷ ms) ns bs rs = inl (bs.0, front ms ns bs.1 rs)

  pub not-both : {A : Type 0} (m : Move) → Before m → After m → A
  not-both m b a = absurd (true≢false (sym b.0 ∙ a.0))

  -- All of the first part before, or the first part ends after the new one and so do all behind it.
  front-parts : (z : Move) (ms ns : List Move) → Front (ms ++ ns)
      → (Each Before ms × Front ns) ⊎ ((After (last_or z ms) × Front ms) × Each After ns)
  unfolding last_or
  front-parts z [] ns f = inl (tt, f)
  front-parts z (m ∷ ms) ns (inl f) = step (front-parts m ms ns f.1)
    where
      step : (Each Before ms × Front ns) ⊎ ((After (last_or m ms) × Front ms) × Each After ns)
          → ((Before m × Each Before ms) × Front ns) ⊎ ((After (last_or m ms) × Front (m ∷ ms)) × Each After ns)
      step (inl g) = inl ((f.0, g.0), g.1)
      step (inr g) = inr ((g.0.0, inl (f.0, g.0.1)), g.1)
  front-parts z (m ∷ ms) ns (inr f) =
      inr ((each_last After z (m ∷ ms) (omega arith) (f.0, each_left After ms ns f.1), inr (f.0, each_left After ms ns f.1)), each_right After ms ns f.1)

  front-first : (ms : List Move) → 0 < length ms → Front ms → Before (first_or no_move ms) ⊎ Each After ms
  unfolding first_or
  front-first [] g f = absurd (omega arith)
  front-first (m ∷ ms) g (inl f) = inl f.0
  front-first (m ∷ ms) g (inr f) = inr f

-- ---- entries before, after and around the new move

module _ (d : ℕ) (x : Move) (h : ℕ) where
  abbrev pub AllBefore : Entry h → Type 0
  AllBefore e = Each (Before d x) (moves_under h e)

  abbrev pub AllAfter : Entry h → Type 0
  AllAfter e = Each (After d x) (moves_under h e)

  -- The new move lies between the entry's first and its last.
  pub record Around (e : Entry h) : Type 0 where
    pub first : Before d x (first_move h e)
    pub last : After d x (last_move h e)
    pub front : Front d x (moves_under h e)

  -- One entry's moves, then others.
  pub data Stand (e : Entry h) (ns : List Move) : Type 0 where
    before : AllBefore e → Front d x ns → Stand e ns
    around : Around e → Each (After d x) ns → Stand e ns
    after : AllAfter e → Each (After d x) ns → Stand e ns

  pub stand : (e : Entry h) (ns : List Move) → Whole h e → Front d x (moves_under h e ++ ns) → Stand e ns
  unfolding first_move last_move
  stand e ns w f = go (front-parts d x no_move (moves_under h e) ns f)
    where
      go : (AllBefore e × Front d x ns) ⊎ ((After d x (last_or no_move (moves_under h e)) × Front d x (moves_under h e)) × Each (After d x) ns) → Stand e ns
      go (inl g) = before g.0 g.1
      go (inr g) = last (front-first d x (moves_under h e) (whole-moves h e w) g.0.1)
        where
          last : Before d x (first_or no_move (moves_under h e)) ⊎ AllAfter e → Stand e ns
          last (inl b) = around (record { first = b; last = g.0.0; front = g.0.1 }) g.1
          last (inr a) = after a g.1

  -- The entries of a node: the new move after all, before all, within one, or in the gap between two.
  pub data Standing : List (Entry h) → Type 0 where
    all_before : (es : List (Entry h)) → Each AllBefore es → Standing es
    all_after : (es : List (Entry h)) → Each AllAfter es → Standing es
    within : (us : List (Entry h)) (c : Entry h) (vs : List (Entry h)) → Each AllBefore us → Around c → Each AllAfter vs → Standing (us ++ c ∷ vs)
    between : (us : List (Entry h)) (e f : Entry h) (vs : List (Entry h)) → Each AllBefore us → AllBefore e → AllAfter f → Each AllAfter vs → Standing (us ++ e ∷ f ∷ vs)

  more-after : (e : Entry h) (es : List (Entry h)) → AllBefore e → Each AllAfter es → Standing (e ∷ es)
  more-after e [] b rs = all_before (e ∷ []) (b, tt)
  more-after e (f ∷ fs) b rs = between [] e f fs tt b rs.0 rs.1

  more : (e : Entry h) (es : List (Entry h)) → AllBefore e → Standing es → Standing (e ∷ es)
  more e es b (all_before fs bs) = all_before (e ∷ fs) (b, bs)
  more e es b (all_after fs rs) = more-after e fs b rs
  more e es b (within us c vs bs m rs) = within (e ∷ us) c vs (b, bs) m rs
  more e es b (between us g f vs bs p q rs) = between (e ∷ us) g f vs (b, bs) p q rs

  pub standing : (es : List (Entry h)) → Each (Whole h) es → Front d x (moves_under (suc h) es) → Standing es
  unfolding moves_under flat_map
  standing [] w f = all_before [] tt
  standing (e ∷ es) w f = go (stand e (flat_map (moves_under h) es) w.0 f) (standing es w.1)
    where
      go : Stand e (flat_map (moves_under h) es) → (Front d x (moves_under (suc h) es) → Standing es) → Standing (e ∷ es)
      go (before b f) rest = more e es b (rest f)
      go (around m r) rest = within [] e es tt m (each-parts (After d x) (moves_under h) es r)
      go (after a r) rest = all_after (e ∷ es) (a, each-parts (After d x) (moves_under h) es r)

-- ---- the child that the descent takes

module _ (d h : ℕ) (x : Move) where
  past : (e f : Entry h) (fs : List (Entry h)) → move_before d x (first_move h f) ≡ false
      → child_place d h x (e ∷ f ∷ fs) ≡ suc (child_place d h x (f ∷ fs))
  unfolding child_place goes_into
  past e f fs n =
      ap (λ (b : Bool). cond (cond b (cond (move_before d (last_move h e) x) (earlier_in_gap d h x e f) true) false) 0 (suc (child_place d h x (f ∷ fs)))) n

  skip : (us : List (Entry h)) (c : Entry h) (vs : List (Entry h)) → Each (λ u. move_before d x (first_move h u) ≡ false) us
      → move_before d x (first_move h c) ≡ false → child_place d h x (us ++ c ∷ vs) ≡ length us + child_place d h x (c ∷ vs)
  skip [] c vs bs b = sym (zero-add (child_place d h x (c ∷ vs)))
  skip (u ∷ []) c vs bs b = omega (arith, past u c vs b)
  skip (u ∷ v ∷ us) c vs bs b = omega (arith, past u v (us ++ c ∷ vs) bs.1.0, skip (v ∷ us) c vs bs.1 b)

  stop : (c : Entry h) (vs : List (Entry h)) → move_before d (last_move h c) x ≡ false → Each (λ v. move_before d x (first_move h v) ≡ true) vs
      → child_place d h x (c ∷ vs) ≡ 0
  unfolding child_place goes_into
  stop c [] n rs = refl
  stop c (v ∷ vs) n rs =
      ap₂ (λ (a b : Bool). cond (cond a (cond b (earlier_in_gap d h x c v) true) false) 0 (suc (child_place d h x (v ∷ vs)))) rs.0 n

  gap : (e f : Entry h) (fs : List (Entry h)) → move_before d x (first_move h f) ≡ true → move_before d (last_move h e) x ≡ true
      → child_place d h x (e ∷ f ∷ fs) ≡ cond (earlier_in_gap d h x e f) 0 (suc (child_place d h x (f ∷ fs)))
  unfolding child_place goes_into
  gap e f fs m n =
      ap₂ (λ (a b : Bool). cond (cond a (cond b (earlier_in_gap d h x e f) true) false) 0 (suc (child_place d h x (f ∷ fs)))) m n

  pub first-before : (e : Entry h) → Whole h e → AllBefore d x h e → Before d x (first_move h e)
  unfolding first_move
  first-before e w = each_first (Before d x) no_move (moves_under h e) (whole-moves h e w)

  pub last-before : (e : Entry h) → Whole h e → AllBefore d x h e → Before d x (last_move h e)
  unfolding last_move
  last-before e w = each_last (Before d x) no_move (moves_under h e) (whole-moves h e w)

  pub first-after : (e : Entry h) → Whole h e → AllAfter d x h e → After d x (first_move h e)
  unfolding first_move
  first-after e w = each_first (After d x) no_move (moves_under h e) (whole-moves h e w)

  pub last-after : (e : Entry h) → Whole h e → AllAfter d x h e → After d x (last_move h e)
  unfolding last_move
  last-after e w = each_last (After d x) no_move (moves_under h e) (whole-moves h e w)

  befores : (us : List (Entry h)) → Each (Whole h) us → Each (AllBefore d x h) us → Each (λ u. move_before d x (first_move h u) ≡ false) us
  befores [] w bs = tt
  befores (u ∷ us) w bs = ((first-before u w.0 bs.0).1, befores us w.1 bs.1)

  afters : (us : List (Entry h)) → Each (Whole h) us → Each (AllAfter d x h) us → Each (λ u. move_before d x (first_move h u) ≡ true) us
  afters [] w bs = tt
  afters (u ∷ us) w bs = ((first-after u w.0 bs.0).1, afters us w.1 bs.1)

  module _ (us : List (Entry h)) (c : Entry h) (vs : List (Entry h)) (w : Each (Whole h) (us ++ c ∷ vs)) where
    whole_before : Each (Whole h) us
    whole_before = each_left (Whole h) us (c ∷ vs) w

    whole_here : Whole h c
    whole_here = (each_right (Whole h) us (c ∷ vs) w).0

    whole-after : Each (Whole h) vs
    whole-after = (each_right (Whole h) us (c ∷ vs) w).1

    pub child-within : Each (AllBefore d x h) us → Before d x (first_move h c) → After d x (last_move h c) → Each (AllAfter d x h) vs
        → child_place d h x (us ++ c ∷ vs) ≡ length us
    child-within bs b a rs =
        skip us c vs (befores us whole_before bs) b.1
        ∙ ap (λ (n : ℕ). length us + n) (stop c vs a.0 (afters vs whole-after rs))
        ∙ add-zero (length us)

    before_here : Each (AllBefore d x h) us → AllBefore d x h c → child_place d h x (us ++ c ∷ vs) ≡ length us + child_place d h x (c ∷ vs)
    before_here bs b = skip us c vs (befores us whole_before bs) (first-before c whole_here b).1

  pub child-first : (c : Entry h) (vs : List (Entry h)) → Each (Whole h) (c ∷ vs) → Each (AllAfter d x h) (c ∷ vs) → child_place d h x (c ∷ vs) ≡ 0
  child-first c vs w rs = stop c vs (last-after c w.0 rs.0).0 (afters vs w.1 rs.1)

  pub child-last : (us : List (Entry h)) (c : Entry h) → Each (Whole h) (us ++ c ∷ []) → Each (AllBefore d x h) us → AllBefore d x h c
      → child_place d h x (us ++ c ∷ []) ≡ length us
  unfolding child_place
  child-last us c w bs b = before_here us c [] w bs b ∙ add-zero (length us)

  module _ (us : List (Entry h)) (e f : Entry h) (vs : List (Entry h)) (w : Each (Whole h) (us ++ e ∷ f ∷ vs))
      (bs : Each (AllBefore d x h) us) (b : AllBefore d x h e) (a : AllAfter d x h f) (rs : Each (AllAfter d x h) vs) where
    child-gap : child_place d h x (us ++ e ∷ f ∷ vs) ≡ length us + cond (earlier_in_gap d h x e f) 0 1
    child-gap =
        let v = whole-after us e (f ∷ vs) w in
        before_here us e (f ∷ vs) w bs b
        ∙ ap (λ (n : ℕ). length us + n)
        (gap e f vs (first-after f v.0 a).1 (last-before e (whole_here us e (f ∷ vs) w) b).0
        ∙ ap (λ (n : ℕ). cond (earlier_in_gap d h x e f) 0 (suc n)) (child-first f vs v (a, rs)))

    pub child-earlier : earlier_in_gap d h x e f ≡ true → child_place d h x (us ++ e ∷ f ∷ vs) ≡ length us
    child-earlier t = child-gap ∙ ap (λ (c : Bool). length us + cond c 0 1) t ∙ add-zero (length us)

    pub child-later : earlier_in_gap d h x e f ≡ false → child_place d h x ((us ++ e ∷ []) ++ f ∷ vs) ≡ length (us ++ e ∷ [])
    child-later t =
        ap (child_place d h x) (append_snoc us e (f ∷ vs))
        ∙ child-gap
        ∙ ap (λ (c : Bool). length us + cond c 0 1) t
        ∙ sym (length-append us (e ∷ []))
