-- The test of the flags passes exactly if the flagged moves are the list.
use Prim.Native.Nat.{ℕ, zero, suc, ◌≤◌}
use Rattle.std.specs.Prelude.{Bool, true, false, ◌&&◌, ◌≡◌}
use Rattle.std.proofs.Math.Bool.{not}
use Rattle.std.specs.Bool.{beq}
use Rattle.std.proofs.lemmas.Bool.{false≢true}
use mathlib.Core.List.{List, [], ◌∷◌, ◌++◌, append_cancel_right}
use Rattle.std.proofs.Math.Path.{refl, sym, ap, ap₂}
use Rattle.std.proofs.Common.{◌∙◌}
use Rattle.zorder.specs.Between.{row_costs}
use Rattle.model.specs.Basics.{Each, cons_if, select}
use Rattle.model.specs.Moves.{Move, move_before, ordered}
use Rattle.model.specs.Dominance.{hides}
use Rattle.model.specs.Lists.{hidden, skyline}
use Rattle.model.specs.Sound.{Fit}
use Rattle.model.proofs.Laws.Bool.{and_left, and_right, and_both}
use Rattle.model.proofs.Laws.Basics.{select-same, each_left, each_right, select-append, select-ext, any-select}
use Rattle.model.proofs.Laws.Sorting.{rising-left}
use Rattle.model.proofs.Laws.Skyline.{skyline-append, skyline-earlier-listed}
use Rattle.promises.specs.Layout.{tab}
use Rattle.memory.specs.Tests.{all_to, any_to}
use Rattle.memory.specs.Laws.Places.{any-tab}

beq_same : (a b : Bool) → beq a b ≡ true → a ≡ b
beq_same true true e = refl
beq_same true false e = absurd (false≢true e)
beq_same false true e = absurd (false≢true e)
beq_same false false e = refl

same-beq : (a b : Bool) → a ≡ b → beq a b ≡ true
same-beq true b e = ap (beq true) (sym e)
same-beq false b e = ap (beq false) (sym e)

module _ (d c : ℕ) (l : d ≤ row_costs) (listed : Move → Bool) where
  -- ---- one move more, which stands last

  module _ (xs : List Move) (x : Move) (es : Each (Fit c d) (xs ++ x ∷ [])) (r : ordered d (xs ++ x ∷ []) ≡ true) where
    shown : Move → Bool
    shown m = not (hidden d (xs ++ x ∷ []) m)

    shown-last : shown x ≡ not (hidden d (skyline d xs) x)
    unfolding shown
    shown-last = ap not (skyline-earlier-listed d c l xs x [] es r)

    kept_more : select listed xs ≡ skyline d xs → listed x ≡ not (hidden d (select listed xs) x) → select listed (xs ++ x ∷ []) ≡ skyline d (xs ++ x ∷ [])
    unfolding shown select
    kept_more e h =
        select-append listed xs (x ∷ [])
        ∙ ap₂ (λ (ys : List Move) (b : Bool). ys ++ cons_if b x []) e (h ∙ ap (λ (ys : List Move). not (hidden d ys x)) e ∙ sym shown-last)
        ∙ sym (skyline-append d c l xs (x ∷ []) es r)

    kept_less : select listed (xs ++ x ∷ []) ≡ skyline d (xs ++ x ∷ []) → (select listed xs ≡ skyline d xs) × (listed x ≡ not (hidden d (select listed xs) x))
    unfolding shown skyline
    kept_less e = (front, (each_right Same xs (x ∷ []) same).0 ∙ shown-last ∙ ap (λ (ys : List Move). not (hidden d ys x)) (sym front))
      where
        Same : Move → Type 0
        Same m = listed m ≡ shown m

        same : Each Same (xs ++ x ∷ [])
        same = select-same listed shown (xs ++ x ∷ []) e

        front : select listed xs ≡ skyline d xs
        front =
            select-ext listed shown xs (each_left Same xs (x ∷ []) same)
            ∙ append_cancel_right (select shown xs) (skyline d xs) (select shown (x ∷ []))
            (sym (select-append shown xs (x ∷ [])) ∙ skyline-append d c l xs (x ∷ []) es r)

  -- ---- place by place

  module _ (f : ℕ → Move) where
    -- The move at place i is listed exactly if no listed move before it hides it.
    abbrev right_at : ℕ → Bool
    right_at i = beq (listed (f i)) (not (any_to (λ j. listed (f j) && hides d (f j) (f i)) i))

    pub hidden-listed : (i : ℕ) (x : Move) → any_to (λ j. listed (f j) && hides d (f j) x) i ≡ hidden d (select listed (tab f i)) x
    unfolding hidden
    hidden-listed i x = sym (any-tab f (λ y. listed y && hides d y x) i) ∙ sym (any-select (λ y. hides d y x) listed (tab f i))

    pub flags-kept : (n : ℕ) → Each (Fit c d) (tab f n) → ordered d (tab f n) ≡ true → all_to right_at n ≡ true → select listed (tab f n) ≡ skyline d (tab f n)
    unfolding tab all_to ordered select skyline
    flags-kept zero es r h = refl
    flags-kept (suc n) es r h =
        kept_more (tab f n) (f n) es r
        (flags-kept n (each_left (Fit c d) (tab f n) (f n ∷ []) es) (rising-left (move_before d) (tab f n) (f n ∷ []) r) (and_left (all_to right_at n) (right_at n) h))
        (beq_same (listed (f n)) _ (and_right (all_to right_at n) (right_at n) h) ∙ ap not (hidden-listed n (f n)))

    pub kept-flags : (n : ℕ) → Each (Fit c d) (tab f n) → ordered d (tab f n) ≡ true → select listed (tab f n) ≡ skyline d (tab f n) → all_to right_at n ≡ true
    unfolding tab all_to ordered
    kept-flags zero es r e = refl
    kept-flags (suc n) es r e =
        let k = kept_less (tab f n) (f n) es r e in
        and_both (all_to right_at n) (right_at n)
        (kept-flags n (each_left (Fit c d) (tab f n) (f n ∷ []) es) (rising-left (move_before d) (tab f n) (f n ∷ []) r) k.0)
        (same-beq (listed (f n)) _ (k.1 ∙ ap not (sym (hidden-listed n (f n)))))
