-- The search for what hides a move: of the places before it, those with a listed move that is nowhere greater.
use Rattle.std.specs.Prelude.{ℕ, ◌≤◌, ◌<◌, Bool, false, not, ◌&&◌, List, ◌≡◌, ltb, length, take, Option, unwrap_or, is_some, IfSome}
use Rattle.std.specs.Prelude as std
use Rattle.std.proofs.Math.Path.{sym, ap}
use Rattle.std.proofs.Common.{◌∙◌, arith, lt-ltb, le-ltb}
use Rattle.std.proofs.Math.Decide.{dec_lt}
use Rattle.zorder.specs.Address.{row_costs}
use Rattle.model.specs.Dominance.{nowhere_greater, hides}
use Rattle.model.proofs.Laws.Bool.{not-flip}
use Rattle.model.proofs.Laws.Hiding.{earlier-hides}
use Rattle.dominance.specs.Lanes.{Lanes, bound, is_first}
use Rattle.dominance.specs.Laws.Lanes.{bounds-first}
use Rattle.promises.specs.Layout.{number_in, costs_in, move_in}
use Rattle.promises.specs.Run.{Bytes}
use Rattle.memory.specs.Room.{Ordered}
use Rattle.memory.specs.Tests.{any_to, is_listed, hidden_before, hidden_at}
use Rattle.search.specs.Search.{looks, looks_at, seen, seen_at, bounds_at, fits, None, Some, SomeFound}
use Rattle.memory.specs.Laws.Costs.{row-length, words-first, words_small}
use Rattle.memory.specs.Laws.Places.{all_to-all, any_to-found}
use Rattle.search.specs.Laws.Search.{bounds-lanes}
use Rattle.search.specs.declared.search.Among.TheVariants.{Listed}

-- ---- some place, as a test of all

pub none_any : (test : ℕ → Bool) (n : ℕ) → None test 0 n → any_to test n ≡ false
unfolding any_to
none_any test n h = ap not (all_to-all (λ j. not (test j)) n (λ k g. not-flip (test k) (h k (omega arith) g)))

pub some-any : (test : ℕ → Bool) (n r : ℕ) → Some test n r → any_to test n ≡ ltb r n
some-any test n r s = go (dec_lt r n)
  where
    go : Dec (r < n) → any_to test n ≡ ltb r n
    go (yes l) = any_to-found test n r l (s.found l) ∙ sym (lt-ltb r n l)
    go (no l) = none_any test n (s.none (omega arith)) ∙ sym (le-ltb r n (omega arith))

pub some-ext : {p q : ℕ → Bool} {n r : ℕ} → ((j : ℕ) → j < n → p j ≡ q j) → Some p n r → Some q n r
some-ext e s = record { to = s.to; found = λ l. sym (e _ l) ∙ s.found l; none = λ l k a g. sym (e k g) ∙ s.none l k a g }

-- One is found if it stands before the end.
pub found-before : (n : ℕ) (r : Option ℕ) → IfSome r (λ j. j < n) → ltb (unwrap_or r n) n ≡ is_some r
found-before n std.None h = le-ltb n n (omega arith)
found-before n (std.Some j) h = lt-ltb j n h

-- ---- what is nowhere greater on the first d costs

module _ (c d : ℕ) (m : List ℕ) (few : d ≤ row_costs) (b : Bytes m) where
  -- The words of a row against bounds of x: those past d are left out.
  pub words-within : (k : ℕ) (x q : List ℕ) → length x ≡ row_costs → Lanes (bound (is_first d) x) q
      → nowhere_greater (costs_in c row_costs m k) q ≡ nowhere_greater (take d (costs_in c d m k)) (take d x)
  words-within k x q wide h =
      bounds-first d (costs_in c row_costs m k) x q few h (row-length c row_costs m k (omega arith)) wide (words_small c m k b)
      ∙ ap (λ (p : List ℕ). nowhere_greater p (take d x)) (words-first c m k d few)

  -- The places that a search among the listed moves finds.
  pub listed-fits : (j : ℕ) (x q : List ℕ) → length x ≡ row_costs → Lanes (bound (is_first d) x) q
      → fits Listed c m q j ≡ (is_listed c m j && nowhere_greater (take d (move_in c d m j).costs) (take d x))
  unfolding fits looks_at looks seen_at seen is_listed move_in
  listed-fits j x q wide h = ap (λ (t : Bool). is_listed c m j && t) (words-within (number_in c m j) x q wide h)

  -- Before place i, they hide the move there.
  pub hider-fits : (n i j : ℕ) (q : List ℕ) → Ordered c d n m → i < n → j < i → Lanes (bound (is_first d) (costs_in c row_costs m (number_in c m i))) q
      → fits Listed c m q j ≡ (is_listed c m j && hides d (move_in c d m j) (move_in c d m i))
  unfolding move_in
  hider-fits n i j q o l k h =
      listed-fits j (costs_in c row_costs m (number_in c m i)) q (row-length c row_costs m (number_in c m i) (omega arith)) h
      ∙ ap (λ (t : Bool). is_listed c m j && t)
      (ap (nowhere_greater (take d (move_in c d m j).costs)) (words-first c m (number_in c m i) d few)
      ∙ sym (earlier-hides d (move_in c d m j) (move_in c d m i) (o j i k l) (row-length c d m (number_in c m j) few ∙ sym (row-length c d m (number_in c m i) few))))

  pub hider-hidden : (n i r : ℕ) (q : List ℕ) → Ordered c d n m → i < n → Lanes (bound (is_first d) (costs_in c row_costs m (number_in c m i))) q
      → Some (fits Listed c m q) i r → hidden_at c d m i ≡ ltb r i
  unfolding hidden_before
  hider-hidden n i r q o l h s =
      some-any (λ j. is_listed c m j && hides d (move_in c d m j) (move_in c d m i)) i r (some-ext (λ j k. hider-fits n i j q o l k h) s)

  -- The same by the bounds of place i.
  pub hidden-at : (n : ℕ) → Ordered c d n m → (i r : ℕ) → i < n → Some (fits Listed c m (bounds_at c d m i)) i r → hidden_at c d m i ≡ ltb r i
  unfolding seen_at seen
  hidden-at n o i r l s = hider-hidden n i r (bounds_at c d m i) o l (bounds-lanes c d m i) s

  pub hidden-found : (n : ℕ) → Ordered c d n m → (i : ℕ) (r : Option ℕ) → i < n → SomeFound (fits Listed c m (bounds_at c d m i)) i r → hidden_at c d m i ≡ is_some r
  hidden-found n o i r l f = hidden-at n o i (unwrap_or r i) l f.some ∙ found-before i r f.below
