-- What the steps of a change compute is what the list of the moves afterwards says: a listed move stays exactly if the
-- coming one does not hide it; a hidden one comes up exactly if no move left hides it, and then the going one was listed
-- and hid it; the coming one is listed exactly if no move left hides it.
use Rattle.std.specs.Prelude.{ℕ, ◌<◌, Bool, true, false, ◌&&◌, ◌||◌, ◌≡◌, eqb, ltb}
use Rattle.std.proofs.Math.Bool.{not, or_comm, or-false}
use Rattle.std.specs.Bool.{beq}
use Rattle.std.specs.Prelude.{Option, Some, None}
use Rattle.std.specs.Option.{option_map_or}
use mathlib.Core.List.Memᴰ
use mathlib.Core.List.{List, map, Memᴰ}
use Rattle.std.proofs.Math.Path.{refl, sym, ap}
use Rattle.std.proofs.Common.{◌∙◌, subst}
use borrow.Author.Tests.{eq-eqb, eqb-true, lt-ltb, ltb-true, not-false}
use Rattle.std.proofs.Math.ListN.{length}
use Rattle.model.specs.Basics.{select, any, count, numbers_from}
use Rattle.model.specs.Moves.{Move, move_before, insert}
use Rattle.model.specs.Dominance.{hides}
use Rattle.model.specs.Lists.{hidden, skyline}
use Rattle.model.specs.Tree.{Tree}
use Rattle.model.specs.Opening.{withdraw_opens}
use Rattle.model.specs.Withdrawing.{without}
use Rattle.model.specs.Sound.{Fit}
use Rattle.model.proofs.Laws.Bool.{same_test, both_ways, and_both, and_left, and_right, and-drop-left, and-false-right}
use Rattle.model.proofs.Laws.Basics.{select-map, select-ext, any-map, any-select, any-mem, any-mono, count-ext}
use Rattle.model.proofs.Laws.Range.{each-place}
use Rattle.model.proofs.Laws.Skyline.{HiderIn, skyline-mem, enter-hidden, skyline-hider, enter-hidden-self}
use Rattle.line.specs.Line.{moves_in}
use Rattle.promises.specs.Layout.{number_in, move_in, line_from}
use Rattle.promises.specs.Sound.{Stands}
use Rattle.promises.specs.Run.{Bytes}
use Rattle.dominance.specs.Move.{as_move}
use Rattle.dominance.specs.declared.Move as dominance
use Rattle.memory.specs.Held.{SoundRows}
use Rattle.memory.specs.Tests.{is_listed}
use Rattle.memory.specs.Laws.Lines.{moves_in-line}
use Rattle.memory.specs.Laws.Held.{held-dimension, held-order, held-listed, held-fit, held-fit-at, held-once}
use Rattle.numbers.specs.Set.{in_set}
use Rattle.upkeep.specs.Change.{drop_at, moves_after, stays, coming_listed, goes_listed, hidden_by_others, hidden_by_coming, comes_up, leaves, leaves_at, enters_at, Passing, UpkeptRows}
use Rattle.upkeep.specs.Laws.Places.{place-below, places-all, tab-places, any_to-places, drop-places}
use Rattle.upkeep.specs.Laws.Passing.{passing-adds, passing-at}
use Rattle.upkeep.specs.declared.exchange.Exchange.{Exchange}
use Rattle.upkeep.specs.declared.exchange.Upkeep.{Upkeep}

-- ---- tests

leave-test : (listed gone coming others : Bool) → (others ≡ true → listed ≡ false)
    → (listed && (gone || coming)) ≡ (listed && not (not gone && not (others || coming)))
leave-test false gone coming others q = refl
leave-test true gone coming true q = both_ways refl (q refl)
leave-test true true coming false q = refl
leave-test true false true false q = refl
leave-test true false false false q = refl

enter-test : (listed gone hid coming others : Bool) → (listed ≡ false → others ≡ false → hid ≡ true)
    → (not listed && (not gone && (hid && not coming && not others))) ≡ (not listed && (not gone && not (others || coming)))
enter-test true gone hid coming others q = refl
enter-test false true hid coming others q = refl
enter-test false false true true true q = refl
enter-test false false true true false q = refl
enter-test false false true false true q = refl
enter-test false false true false false q = refl
enter-test false false false coming true q = refl
enter-test false false false coming false q = both_ways (q refl refl) refl

change-test : (listed stays : Bool) → ((listed && not stays) || (not listed && stays)) ≡ not (beq listed stays)
change-test true true = refl
change-test true false = refl
change-test false true = refl
change-test false false = refl

-- ---- the moves by places

module _ (c d n : ℕ) (m : List ℕ) where
  pub line-places : moves_in (line_from c d n m) ≡ map (move_in c d m) (numbers_from 0 n)
  line-places = moves_in-line c d n m ∙ tab-places (move_in c d m) n

  pub rest-places : (g : ℕ) → drop_at g (moves_in (line_from c d n m)) ≡ map (move_in c d m) (select (λ j. not (eqb j g)) (numbers_from 0 n))
  rest-places g = ap (drop_at g) line-places ∙ drop-places (move_in c d m) n g

  hidden-line : (x : Move) → hidden d (moves_in (line_from c d n m)) x ≡ any (λ j. hides d (move_in c d m j) x) (numbers_from 0 n)
  unfolding hidden
  hidden-line x = ap (any (λ p. hides d p x)) line-places ∙ any-map (λ p. hides d p x) (move_in c d m) (numbers_from 0 n)

  module _ (g : ℕ) (x : Move) where
    hidden-rest : hidden d (drop_at g (moves_in (line_from c d n m))) x ≡ any (λ j. not (eqb j g) && hides d (move_in c d m j) x) (numbers_from 0 n)
    unfolding hidden
    hidden-rest =
        ap (any (λ p. hides d p x)) (rest-places g)
        ∙ any-map (λ p. hides d p x) (move_in c d m) (select (λ j. not (eqb j g)) (numbers_from 0 n))
        ∙ any-select (λ j. hides d (move_in c d m j) x) (λ j. not (eqb j g)) (numbers_from 0 n)

    pub others-hide : hidden_by_others c d n g x m ≡ hidden d (drop_at g (moves_in (line_from c d n m))) x
    unfolding hidden_by_others
    others-hide = any_to-places (λ j. not (eqb j g) && hides d (move_in c d m j) x) n ∙ sym hidden-rest

    -- what is left hides no more than all did
    rest-hides : hidden d (drop_at g (moves_in (line_from c d n m))) x ≡ true → hidden d (moves_in (line_from c d n m)) x ≡ true
    rest-hides e =
        hidden-line x
        ∙ any-mono (λ j. not (eqb j g) && hides d (move_in c d m j) x) (λ j. hides d (move_in c d m j) x) (numbers_from 0 n)
        (λ j _. and_right (not (eqb j g)) (hides d (move_in c d m j) x)) (sym hidden-rest ∙ e)

-- Two places are the same exactly if their numbers are.
pub same-place : (c d n : ℕ) (m : List ℕ) → SoundRows c d n m → Bytes m → (i g : ℕ) → i < n → g < n → eqb i g ≡ eqb (number_in c m i) (number_in c m g)
same-place c d n m s b i g h l =
    same_test (eqb i g) (eqb (number_in c m i) (number_in c m g))
    (λ e. eq-eqb (number_in c m i) (number_in c m g) (ap (number_in c m) (eqb-true i g e)))
    (λ e. eq-eqb i g (held-once c d n m s b i g h l (eqb-true (number_in c m i) (number_in c m g) e)))

-- The moves left are those of other numbers.
pub rest-without : (c d n g : ℕ) (m : List ℕ) → SoundRows c d n m → Bytes m → g < n
    → drop_at g (moves_in (line_from c d n m)) ≡ without (number_in c m g) (moves_in (line_from c d n m))
unfolding without move_in
rest-without c d n g m s b l =
    rest-places c d n m g
    ∙ ap (map (move_in c d m))
    (select-ext (λ j. not (eqb j g)) (λ j. not (eqb (number_in c m j) (number_in c m g))) (numbers_from 0 n)
    (each-place (λ j. not (eqb j g) ≡ not (eqb (number_in c m j) (number_in c m g))) n (λ j k. ap not (same-place c d n m s b j g k l))))
    ∙ sym (select-map (λ x. not (eqb x.number (number_in c m g))) (move_in c d m) (numbers_from 0 n))
    ∙ sym (ap (without (number_in c m g)) (line-places c d n m))

changed-hidden : (d : ℕ) (k : Exchange) (ms : List Move) (x : Move) → hidden d (moves_after d k ms) x ≡ (hidden d (drop_at k.goes ms) x || hidden_by_coming d k x)
unfolding moves_after hidden_by_coming
changed-hidden d k ms x =
    by_coming (drop_at k.goes ms) k.coming
  where
    by_coming : (rest : List Move) (o : Option dominance.Move)
        → hidden d (option_map_or (λ y. insert d (as_move y) rest) o rest) x ≡ (hidden d rest x || option_map_or (λ y. hides d (as_move y) x) o false)
    by_coming rest None = sym (or-false (hidden d rest x))
    by_coming rest (Some y) = enter-hidden d (as_move y) rest x

-- A listed move goes: it is on the board, and flagged.
module _ (c n g : ℕ) (m : List ℕ) (e : goes_listed c n g m ≡ true) where
  pub goes-on-board : g < n
  unfolding goes_listed
  goes-on-board = ltb-true g n (and_left (ltb g n) (is_listed c m g) e)

  pub goes-flagged : is_listed c m g ≡ true
  unfolding goes_listed
  goes-flagged = and_right (ltb g n) (is_listed c m g) e

-- No listed move goes: it is not flagged, and none enters.
pub goes-unflagged : (c n g : ℕ) (m : List ℕ) → goes_listed c n g m ≡ false → g < n → is_listed c m g ≡ false
unfolding goes_listed
goes-unflagged c n g m e l = and-drop-left (ltb g n) (is_listed c m g) (lt-ltb g n l) e

pub enters_none : (c d n : ℕ) (k : Exchange) (m : List ℕ) (i : ℕ) → goes_listed c n k.goes m ≡ false → enters_at c d n k m i ≡ false
unfolding enters_at comes_up
enters_none c d n k m i e =
    ap (λ (t : Bool). not (is_listed c m i) && (not (eqb i k.goes) && (t && hides d (move_in c d m k.goes) x && not (hidden_by_coming d k x) && not (hidden_by_others c d n k.goes x m)))) e
    ∙ and-false-right (not (is_listed c m i)) (not (eqb i k.goes) && false) (and-false-right (not (eqb i k.goes)) false refl)
  where
    x : Move
    x = move_in c d m i

module _ (c d n : ℕ) (k : Exchange) (m : List ℕ) (s : SoundRows c d n m) (b : Bytes m) where
  abbrev before : List Move
  before = moves_in (line_from c d n m)

  abbrev rest : List Move
  rest = drop_at k.goes before

  stays-rest : (i : ℕ) → stays c d n k m i ≡ (not (eqb i k.goes) && not (hidden d rest (move_in c d m i) || hidden_by_coming d k (move_in c d m i)))
  unfolding stays
  stays-rest i = ap (λ (t : Bool). not (eqb i k.goes) && not t) (changed-hidden d k before (move_in c d m i))

  pub leaves-law : (i : ℕ) → i < n → leaves_at c d k m i ≡ (is_listed c m i && not (stays c d n k m i))
  unfolding leaves_at leaves
  leaves-law i h =
      let x = move_in c d m i in
      leave-test (is_listed c m i) (eqb i k.goes) (hidden_by_coming d k x) (hidden d rest x)
      (λ e. held-listed c d n m s i h ∙ ap not (rest-hides c d n m k.goes x e))
      ∙ ap (λ (t : Bool). is_listed c m i && not t) (sym (stays-rest i))

  -- What no move left hides was hidden by the going one, and that one was listed.
  went : (i : ℕ) → i < n → is_listed c m i ≡ false → hidden d rest (move_in c d m i) ≡ false
      → (goes_listed c n k.goes m && hides d (move_in c d m k.goes) (move_in c d m i)) ≡ true
  unfolding goes_listed
  went i h unlisted shown = by_place (eqb j k.goes) refl
    where
      x : Move
      x = move_in c d m i

      hider : HiderIn (move_before d) (hides d) (skyline d before) x
      hider =
          skyline-hider d c (held-dimension c d n m s) before (held-fit c d n m s b) (held-order c d n m s) x (held-fit-at c d n m s b i h)
          (not-false (hidden d before x) (sym (held-listed c d n m s i h) ∙ unlisted))

      at : (j : ℕ) × Memᴰ j (numbers_from 0 n) × (move_in c d m j ≡ hider.hider)
      at =
          Memᴰ.of_map (move_in c d m) (numbers_from 0 n)
          (subst (Memᴰ hider.hider) (line-places c d n m) (skyline-mem d before hider.listed).0)

      j : ℕ
      j = at.0

      on-board : j < n
      on-board = place-below n at.1

      hides-x : hides d (move_in c d m j) x ≡ true
      hides-x = ap (λ (y : Move). hides d y x) at.2 ∙ hider.hiding

      is-listed : is_listed c m j ≡ true
      is-listed =
          held-listed c d n m s j on-board
          ∙ ap not (ap (hidden d before) at.2 ∙ (skyline-mem d before hider.listed).1)

      by_place : (t : Bool) → eqb j k.goes ≡ t → (ltb k.goes n && is_listed c m k.goes && hides d (move_in c d m k.goes) x) ≡ true
      by_place true e =
          subst (λ (g : ℕ). (ltb g n && is_listed c m g && hides d (move_in c d m g) x) ≡ true) (eqb-true j k.goes e)
          (and_both (ltb j n && is_listed c m j) (hides d (move_in c d m j) x) (and_both (ltb j n) (is_listed c m j) (lt-ltb j n on-board) is-listed) hides-x)
      by_place false e =
          both_ways
          (hidden-rest c d n m k.goes x
          ∙ any-mem (λ j. not (eqb j k.goes) && hides d (move_in c d m j) x) at.1
          (and_both (not (eqb j k.goes)) (hides d (move_in c d m j) x) (ap not e) hides-x))
          shown

  pub enters-law : (i : ℕ) → i < n → enters_at c d n k m i ≡ (not (is_listed c m i) && stays c d n k m i)
  unfolding enters_at comes_up
  enters-law i h =
      let x = move_in c d m i in
      let hid = goes_listed c n k.goes m && hides d (move_in c d m k.goes) x in
      ap (λ (t : Bool). not (is_listed c m i) && (not (eqb i k.goes) && (hid && not (hidden_by_coming d k x) && not t))) (others-hide c d n m k.goes x)
      ∙ enter-test (is_listed c m i) (eqb i k.goes) hid (hidden_by_coming d k x) (hidden d rest x) (went i h)
      ∙ ap (λ (t : Bool). not (is_listed c m i) && t) (sym (stays-rest i))

  pub listed-law : (x : dominance.Move) → k.coming ≡ Some x → Fit c d (as_move x) → not (hidden_by_others c d n k.goes (as_move x) m) ≡ coming_listed c d n k m
  unfolding moves_after
  listed-law x e fit =
      let y = as_move x in
      ap not (others-hide c d n m k.goes y ∙ sym (enter-hidden-self d c (held-dimension c d n m s) y rest fit))
      ∙ ap (λ (o : Option dominance.Move). option_map_or (λ z. not (hidden d (option_map_or (λ w. insert d (as_move w) rest) o rest) (as_move z))) o false) (sym e)

  pub unlisted-law : k.coming ≡ None → false ≡ coming_listed c d n k m
  unlisted-law e = ap (λ (o : Option dominance.Move). option_map_or (λ x. not (hidden d (moves_after d k before) (as_move x))) o false) (sym e)

  -- ---- the sets and the counts

  same_at : (test : ℕ → Bool) (i : ℕ) → i < n → (j : ℕ) → j < n → number_in c m i ≡ number_in c m j → test j ≡ true → test i ≡ true
  same_at test i h j l e t = ap test (held-once c d n m s b i j h l e) ∙ t

  count_at : {ws ws' : List ℕ} {k : ℕ} (p q : ℕ → Bool) → Passing c m p ws 0 n ws' k → ((i : ℕ) → i < n → p i ≡ q i) → k ≡ count q (numbers_from 0 n)
  unfolding count
  count_at p q found same = found.counts ∙ ap length (places-all p n) ∙ count-ext p q (numbers_from 0 n) (each-place (λ i. p i ≡ q i) n same)

  changes-law : (i : ℕ) → i < n → (enters_at c d n k m i || leaves_at c d k m i) ≡ not (beq (is_listed c m i) (stays c d n k m i))
  changes-law i h =
      or_comm (enters_at c d n k m i) (leaves_at c d k m i)
      ∙ (λ j. leaves-law i h j || enters-law i h j)
      ∙ change-test (is_listed c m i) (stays c d n k m i)

  -- First those that leave are put into an empty set, then those that enter.
  pub upkept : (u : Upkeep) {ws ws' : List ℕ}
      → ((j : ℕ) → in_set ws j ≡ false)
      → Passing c m (leaves_at c d k m) ws 0 n ws' u.left
      → Passing c m (enters_at c d n k m) ws' 0 n u.changed u.entered
      → (k.goes < n → (t : Tree) → Stands m t → u.opened ≡ withdraw_opens d (number_in c m k.goes) t)
      → u.listed ≡ coming_listed c d n k m
      → UpkeptRows c d n k m u
  upkept u none out up opens e =
      record {
        changed = λ i h.
            passing-adds c m (enters_at c d n k m) up i h (same_at (enters_at c d n k m) i h)
            ∙ ap (λ (t : Bool). enters_at c d n k m i || t) (passing-at c m (leaves_at c d k m) out i h (same_at (leaves_at c d k m) i h) none)
            ∙ changes-law i h;
        left = count_at (leaves_at c d k m) (λ i. is_listed c m i && not (stays c d n k m i)) out leaves-law;
        entered = count_at (enters_at c d n k m) (λ i. not (is_listed c m i) && stays c d n k m i) up enters-law;
        opened = opens;
        listed = e;
      }
