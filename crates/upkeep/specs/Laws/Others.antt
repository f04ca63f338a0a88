-- What hides a move besides the going one, through the search over the places before it.
use Rattle.std.specs.Prelude.{ℕ, ◌+◌, ◌≤◌, ◌<◌, Bool, true, ◌&&◌, List, ◌≡◌, eqb, ltb}
use Rattle.std.proofs.Math.Bool.{false, not}
use Rattle.std.proofs.Math.Path.{sym, ap}
use Rattle.std.proofs.Common.{◌∙◌, subst, arith, eq-eqb, ne_eqb, lt-ltb, le-ltb}
use Rattle.std.proofs.Math.Decide.{ℕ_discrete, dec_lt}
use Rattle.zorder.specs.Address.{row_costs}
use Rattle.model.specs.Moves.{Move, move_before, ordered}
use Rattle.model.specs.Dominance.{hides}
use Rattle.model.specs.Sound.{Fit}
use Rattle.model.proofs.Laws.Bool.{by_cases, both_ways, and_both, and-false-right, not-flip}
use Rattle.model.proofs.Laws.Order.{move-order, before-trans, before-irrefl}
use Rattle.model.proofs.Laws.Hiding.{earlier-hides, move-hiding}
use Rattle.dominance.specs.Lanes.{Lanes, bound, is_first}
use Rattle.line.specs.Places.{move_at}
use Rattle.line.specs.Enter.{place_for}
use Rattle.promises.specs.Layout.{number_in, move_in, line_from}
use Rattle.promises.specs.Run.{Bytes}
use Rattle.memory.specs.Held.{SoundRows}
use Rattle.search.specs.Search.{looks, looks_at, seen, seen_at, fits, First}
use Rattle.memory.specs.Tests.{any_to}
use Rattle.memory.specs.Laws.Places.{all_to-all, any_to-found}
use Rattle.memory.specs.Laws.Costs.{row-length}
use Rattle.search.specs.Laws.Hiders.{words-within}
use Rattle.memory.specs.Laws.Held.{held-dimension, held-order, held-ordered, held-fit, held-fit-at}
use Rattle.memory.specs.Laws.Lines.{length-line, move_at-line}
use Rattle.search.specs.declared.search.Among.TheVariants.{All}
use Rattle.upkeep.specs.Change.{hidden_by_others, Parted}
use Rattle.upkeep.specs.Laws.Place.{place-low, place-high}

-- ---- places that part the moves

module _ (c d n : ℕ) (m : List ℕ) (s : SoundRows c d n m) (b : Bytes m) where
  -- What hides stands earlier.
  later-not : (x : Move) → Fit c d x → (j : ℕ) → j < n → move_before d (move_in c d m j) x ≡ false → hides d (move_in c d m j) x ≡ false
  later-not x fit j l e =
      by_cases (hides d (move_in c d m j) x)
      (λ h. both_ways ((move-hiding d c (held-dimension c d n m s)).earlier (move_in c d m j) x (held-fit-at c d n m s b j l) fit h) e) (λ h. h)

  -- A move on the board parts by its own place.
  pub own-place : (i : ℕ) → i < n → Parted c d n i (move_in c d m i) m
  unfolding move_in
  own-place i l = record {
    within = omega arith;
    before = λ j k. held-ordered c d n m s j i k l;
    after = λ j k g. later-not (move_in c d m i) (held-fit-at c d n m s b i l) j g (back j k g (ℕ_discrete i j));
    wide = row-length c d m (number_in c m i) (held-dimension c d n m s);
  }
    where
      back : (j : ℕ) → i ≤ j → j < n → Dec (i ≡ j) → move_before d (move_in c d m j) (move_in c d m i) ≡ false
      back j k g (yes e) = ap (λ (z : ℕ). move_before d (move_in c d m j) (move_in c d m z)) e ∙ before-irrefl d (move_in c d m j)
      back j k g (no e) =
          by_cases (move_before d (move_in c d m j) (move_in c d m i))
          (λ h. both_ways (before-trans d (move_in c d m i) (move_in c d m j) (move_in c d m i) (held-ordered c d n m s i j (omega arith) g) h) (before-irrefl d (move_in c d m i)))
          (λ h. h)

  -- A new one parts by the place it gets.
  pub new-place : (x : Move) → Fit c d x → (p : ℕ) → p ≤ n → p ≡ place_for d x (line_from c d n m) → Parted c d n p x m
  unfolding move_at ordered
  new-place x fit p within at = record {
    within = within;
    before = λ j k.
        ap (λ (y : Move). move_before d y x) (sym (move_at-line c d n m j (omega arith)))
        ∙ place-low d x (line_from c d n m) j (subst (λ (q : ℕ). j < q) at k);
    after = λ j k g.
        later-not x fit j g
        (ap (λ (y : Move). move_before d y x) (sym (move_at-line c d n m j g))
        ∙ place-high d x (Fit c d) (move-order d c (held-dimension c d n m s)) fit (line_from c d n m) (held-fit c d n m s b) (held-order c d n m s) j
        (subst (λ (q : ℕ). q ≤ j) at k) (omega (arith, length-line c d n m)));
    wide = fit.costs.count;
  }

-- ---- the search before the place

module _ (c d n goes i : ℕ) (x : Move) (q m : List ℕ) (few : d ≤ row_costs) (b : Bytes m) (parted : Parted c d n i x m)
    (bounds : Lanes (bound (is_first d) x.costs) q) where
  other : ℕ → Bool
  other j = not (eqb j goes) && hides d (move_in c d m j) x

  fits-hides : (j : ℕ) → j < i → fits All c m q j ≡ hides d (move_in c d m j) x
  unfolding fits looks_at looks seen_at seen move_in
  fits-hides j l =
      words-within c d m few b (number_in c m j) x.costs q parted.wide bounds
      ∙ sym (earlier-hides d (move_in c d m j) x (parted.before j l) (row-length c d m (number_in c m j) few ∙ sym parted.wide))

  unhidden : ((j : ℕ) → j < i → other j ≡ false) → hidden_by_others c d n goes x m ≡ false
  unfolding hidden_by_others any_to other
  unhidden h = ap not (all_to-all (λ j. not (other j)) n (λ j l. not-flip (other j) (go j l (dec_lt j i))))
    where
      go : (j : ℕ) → j < n → Dec (j < i) → other j ≡ false
      go j l (yes k) = h j k
      go j l (no k) = and-false-right (not (eqb j goes)) (hides d (move_in c d m j) x) (parted.after j (omega arith) l)

  unfit : (j : ℕ) → j < i → fits All c m q j ≡ false → other j ≡ false
  unfolding other
  unfit j l e = and-false-right (not (eqb j goes)) (hides d (move_in c d m j) x) (sym (fits-hides j l) ∙ e)

  -- Nothing fits.
  pub others-none : (r : ℕ) → First (fits All c m q) 0 i r → i ≤ r → hidden_by_others c d n goes x m ≡ false
  others-none r f l = unhidden (λ j k. unfit j k (f.passed j (omega arith) (omega arith)))

  -- Another one fits.
  pub others-found : (r : ℕ) → fits All c m q r ≡ true → r < i → ¬ (r ≡ goes) → hidden_by_others c d n goes x m ≡ true
  unfolding hidden_by_others other
  others-found r e l apart =
      any_to-found other n r (omega (arith, parted.within)) (and_both (not (eqb r goes)) (hides d (move_in c d m r) x) (ap not (ne_eqb r goes apart)) (sym (fits-hides r l) ∙ e))

  -- The going one alone fits.
  others-past : (r t : ℕ) → First (fits All c m q) 0 i r → r ≡ goes → First (fits All c m q) (r + 1) i t → i ≤ t → hidden_by_others c d n goes x m ≡ false
  unfolding other
  others-past r t f e g l = unhidden (λ j k. go j k (dec_lt j r) (ℕ_discrete j r))
    where
      go : (j : ℕ) → j < i → Dec (j < r) → Dec (j ≡ r) → other j ≡ false
      go j k (yes h) w = unfit j k (f.passed j (omega arith) h)
      go j k (no h) (yes w) = ap (λ (t : Bool). not t && hides d (move_in c d m j) x) (eq-eqb j goes (w ∙ e))
      go j k (no h) (no w) = unfit j k (g.passed j (omega arith) (omega arith))

  -- The going one fits first: the next that fits is another one.
  pub others-next : (r t : ℕ) → First (fits All c m q) 0 i r → r ≡ goes → First (fits All c m q) (r + 1) i t → hidden_by_others c d n goes x m ≡ ltb t i
  others-next r t f e g = go (dec_lt t i)
    where
      go : Dec (t < i) → hidden_by_others c d n goes x m ≡ ltb t i
      go (yes l) = others-found t (g.found l) l (λ h. omega (arith, g.from)) ∙ sym (lt-ltb t i l)
      go (no l) = others-past r t f e g (omega arith) ∙ sym (le-ltb t i (omega arith))
