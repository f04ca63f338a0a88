-- The rows that the steps choose are the notice: the difference of the lists before and after the change.
use Rattle.std.specs.Prelude.{ℕ, Bool, true, false, cond, ◌&&◌, ◌≡◌, refl, eqb}
use Rattle.std.proofs.Math.Bool.{not}
use mathlib.Core.List.Memᴰ
use mathlib.Core.List.{List, [], ◌∷◌, ◌++◌, map, map-append, Memᴰ}
use Rattle.std.proofs.Math.Path.{sym, ap}
use Rattle.std.proofs.Common.{ap₂, ◌∙◌, subst}
use Rattle.model.specs.Basics.{Each, select, rising, insert_by}
use Rattle.model.specs.Moves.{Move, move_before}
use Rattle.model.specs.Lists.{hidden, skyline}
use Rattle.model.proofs.Laws.Bool.{by_cases, test_cases, same_test, and_both, and_left, and_right, not-flip, not_back}
use Rattle.model.proofs.Laws.Basics.{mem-each, select-mem, select-ext, select-select, select-map, select-append}
use Rattle.model.proofs.Laws.Sorting.{StrictOrder, select-insert, insert-append-right, insert-before}
use Rattle.model.proofs.Laws.Skyline.{skyline-mem, mem-skyline}
use Rattle.model.proofs.Laws.Notice.{among, gone, mem-among, among-mem}

enter-order : (s l : Bool) → (s && not l) ≡ (not l && s)
enter-order true true = refl
enter-order true false = refl
enter-order false true = refl
enter-order false false = refl

and_assoc : (a b c : Bool) → (a && (b && c)) ≡ ((a && b) && c)
and_assoc true b c = refl
and_assoc false b c = refl

-- ---- lists by places: moves f i, of which that at g goes; `after` are the moves afterwards

unfoldable pub stay : ℕ → (ℕ → Move) → ℕ → List Move → ℕ → Bool
stay d f g after i = not (eqb i g) && not (hidden d after (f i))

pub record Places (d : ℕ) (f : ℕ → Move) (is : List ℕ) (g : ℕ) (after : List Move) (listed : ℕ → Bool) : Type 0 where
  pub flags : (i : ℕ) → Memᴰ i is → listed i ≡ not (hidden d (map f is) (f i))
  pub there : (i : ℕ) → Memᴰ i is → eqb i g ≡ false → Memᴰ (f i) after
  pub away : (i : ℕ) → Memᴰ i is → eqb i g ≡ true → ¬ Memᴰ (f i) after

module _ (d : ℕ) (f : ℕ → Move) (is : List ℕ) (g : ℕ) (after : List Move) (listed : ℕ → Bool) (q : Places d f is g after listed) where
  listed-among : (i : ℕ) → Memᴰ i is → among (f i) (skyline d (map f is)) ≡ listed i
  listed-among i k =
      same_test (among (f i) (skyline d (map f is))) (listed i)
      (λ h. q.flags i k ∙ not-flip (hidden d (map f is) (f i)) (skyline-mem d (map f is) (among-mem (f i) (skyline d (map f is)) h)).1)
      (λ h. mem-among (mem-skyline d (Memᴰ.map f k) (not_back (hidden d (map f is) (f i)) (sym (q.flags i k) ∙ h))))

  stay-among : (i : ℕ) → Memᴰ i is → among (f i) (skyline d after) ≡ stay d f g after i
  unfolding stay
  stay-among i k =
      same_test (among (f i) (skyline d after)) (not (eqb i g) && not (hidden d after (f i)))
      (λ h. let r = skyline-mem d after (among-mem (f i) (skyline d after) h) in
      and_both (not (eqb i g)) (not (hidden d after (f i)))
      (by_cases (eqb i g) (λ e. absurd (q.away i k e r.0)) (λ e. not-flip (eqb i g) e))
      (not-flip (hidden d after (f i)) r.1))
      (λ h. let a = not_back (eqb i g) (and_left (not (eqb i g)) (not (hidden d after (f i))) h) in
      mem-among (mem-skyline d (q.there i k a) (not_back (hidden d after (f i)) (and_right (not (eqb i g)) (not (hidden d after (f i))) h))))

  listed-places : skyline d (map f is) ≡ map f (select listed is)
  unfolding skyline
  listed-places =
      select-map (λ x. not (hidden d (map f is) x)) f is
      ∙ ap (map f) (select-ext (λ i. not (hidden d (map f is) (f i))) listed is
      (mem-each (λ i. not (hidden d (map f is) (f i)) ≡ listed i) is (λ i k. sym (q.flags i k))))

  pub left-places : gone (skyline d (map f is)) (skyline d after) ≡ map f (select (λ i. listed i && not (stay d f g after i)) is)
  unfolding gone
  left-places =
      ap (select (λ x. not (among x (skyline d after)))) listed-places
      ∙ select-map (λ x. not (among x (skyline d after))) f (select listed is)
      ∙ ap (map f) (select-select (λ i. not (among (f i) (skyline d after))) listed is)
      ∙ ap (map f) (select-ext (λ i. listed i && not (among (f i) (skyline d after))) (λ i. listed i && not (stay d f g after i)) is
      (mem-each (λ i. (listed i && not (among (f i) (skyline d after))) ≡ (listed i && not (stay d f g after i))) is
      (λ i k. ap (λ (t : Bool). listed i && not t) (stay-among i k))))

  -- who of the moves afterwards enters the list
  abbrev enters : Move → Bool
  enters x = not (hidden d after x) && not (among x (skyline d (map f is)))

  pub entered-after : gone (skyline d after) (skyline d (map f is)) ≡ select enters after
  unfolding gone skyline
  entered-after = select-select (λ x. not (among x (skyline d (map f is)))) (λ x. not (hidden d after x)) after

  pub entered-rest : select enters (map f (select (λ i. not (eqb i g)) is)) ≡ map f (select (λ i. not (listed i) && stay d f g after i) is)
  unfolding stay
  entered-rest =
      select-map enters f (select (λ i. not (eqb i g)) is)
      ∙ ap (map f) (select-select (λ i. enters (f i)) (λ i. not (eqb i g)) is)
      ∙ ap (map f) (select-ext (λ i. not (eqb i g) && enters (f i)) (λ i. not (listed i) && (not (eqb i g) && not (hidden d after (f i)))) is
      (mem-each (λ i. (not (eqb i g) && enters (f i)) ≡ (not (listed i) && (not (eqb i g) && not (hidden d after (f i))))) is
      (λ i k. and_assoc (not (eqb i g)) (not (hidden d after (f i))) (not (among (f i) (skyline d (map f is))))
      ∙ ap (λ (t : Bool). (not (eqb i g) && not (hidden d after (f i))) && not t) (listed-among i k)
      ∙ enter-order (not (eqb i g) && not (hidden d after (f i))) (listed i))))

  -- A coming move enters at its place: those that enter from is₁ stand before it, those from is₂ after it.
  module _ (P : Move → Type 0) (o : StrictOrder P (move_before d)) (x : Move) (px : P x) (rest : List Move)
      (rests : map f (select (λ i. not (eqb i g)) is) ≡ rest) (es : Each P rest) (r : rising (move_before d) rest ≡ true)
      (comes : after ≡ insert_by (move_before d) x rest) (new : among x (skyline d (map f is)) ≡ false)
      (is₁ is₂ : List ℕ) (parts : is ≡ is₁ ++ is₂)
      (low : (i : ℕ) → Memᴰ i is₁ → move_before d x (f i) ≡ false)
      (high : (i : ℕ) → Memᴰ i is₂ → (not (listed i) && stay d f g after i) ≡ true → move_before d x (f i) ≡ true) where
    abbrev enter : ℕ → Bool
    enter i = not (listed i) && stay d f g after i

    abbrev first : List Move
    first = map f (select enter is₁)

    abbrev last : List Move
    last = map f (select enter is₂)

    enter-parts : select enters rest ≡ first ++ last
    enter-parts =
        ap (select enters) (sym rests) ∙ entered-rest
        ∙ ap (λ (js : List ℕ). map f (select enter js)) parts
        ∙ ap (map f) (select-append enter is₁ is₂) ∙ map-append f (select enter is₁) (select enter is₂)

    coming-in : insert_by (move_before d) x (first ++ last) ≡ first ++ (x ∷ last)
    coming-in =
        insert-append-right (move_before d) x first last
        (mem-each (λ z. move_before d x z ≡ false) first (λ z k.
        let w = Memᴰ.of_map f (select enter is₁) k in
        subst (λ (y : Move). move_before d x y ≡ false) w.2 (low w.0 (select-mem enter is₁ w.1).0)))
        ∙ ap (λ (ys : List Move). first ++ ys)
        (insert-before (move_before d) x last
        (mem-each (λ z. move_before d x z ≡ true) last (λ z k.
        let w = Memᴰ.of_map f (select enter is₂) k in
        let s = select-mem enter is₂ w.1 in
        subst (λ (y : Move). move_before d x y ≡ true) w.2 (high w.0 s.0 s.1))))

    pub entered-coming : gone (skyline d after) (skyline d (map f is)) ≡ first ++ (cond (not (hidden d after x)) (x ∷ []) [] ++ last)
    entered-coming =
        entered-after
        ∙ ap (select enters) comes
        ∙ select-insert P (move_before d) o enters x rest px es r
        ∙ ap₂ (λ (ys zs : List Move). cond (enters x) ys zs) (ap (insert_by (move_before d) x) enter-parts ∙ coming-in) enter-parts
        ∙ ap (λ (t : Bool). cond (not (hidden d after x) && not t) (first ++ (x ∷ last)) (first ++ last)) new
        ∙ test_cases (λ (t : Bool). cond (t && true) (first ++ (x ∷ last)) (first ++ last) ≡ first ++ (cond t (x ∷ []) [] ++ last)) (not (hidden d after x)) (λ _. refl) (λ _. refl)
