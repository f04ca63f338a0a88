-- The flags after a change, and the moves that it leaves.
use Rattle.std.specs.Prelude.{ℕ, ◌<◌, true, false, ◌&&◌, List, ◌≢◌, ◌≡◌, Option, Some, None, refl}
use Rattle.std.proofs.Math.Bool.{Bool, cond, not}
use Rattle.std.specs.Bool.{beq}
use Rattle.std.specs.Option.{ForSome, option_map_or}
use Rattle.std.proofs.Math.Path.{sym, ap}
use Rattle.std.proofs.Common.{◌∙◌, subst, eq-eqb, ne_eqb}
use Rattle.std.proofs.lemmas.Bool.{eqb-false, not-true}
use Rattle.std.proofs.Math.Dec.{eqb}
use Rattle.model.specs.Basics.{Each, insert_by, select, any, numbers_from}
use Rattle.model.specs.Moves.{Move, move_before, insert}
use Rattle.model.specs.Lists.{hidden}
use Rattle.model.specs.Calls.{on_board}
use Rattle.model.proofs.Laws.Bool.{both_ways, and_both, not-flip}
use Rattle.model.proofs.Laws.Basics.{each-mem, mem-each, each_map, select-mem, any-map, any-select}
use Rattle.model.proofs.Laws.Range.{each-place}
use Rattle.model.proofs.Laws.Sorting.{each-insert}
use Rattle.line.specs.Line.{moves_in}
use Rattle.promises.specs.Layout.{number_in, flag_in, move_in, line_from}
use Rattle.dominance.specs.Move.{as_move}
use Rattle.dominance.specs.declared.Move as dominance
use Rattle.memory.specs.Tests.{is_listed}
use Rattle.memory.specs.Laws.Places.{any_to-found}
use Rattle.memory.specs.Stores.{set_listed}
use Rattle.memory.specs.Laws.Frames.{room-over}
use Rattle.memory.specs.Laws.Stored.{flag-set_listed-other, listed-set_listed}
use Rattle.memory.specs.Laws.Held.{held-room, held-numbers}
use Rattle.upkeep.specs.Change.{drop_at, moves_after, stays, AskedRows, UpkeptRows}
use Rattle.upkeep.specs.Flag.{listed_then, SetFlags}
use Rattle.upkeep.specs.Laws.Places.{any_to-places}
use Rattle.upkeep.specs.Laws.Change.{rest-places}
use Rattle.upkeep.specs.declared.exchange.Exchange.{Exchange}
use Rattle.upkeep.specs.declared.exchange.Upkeep.{Upkeep}
use Rattle.planning.proofs.Laws.Coming.{only, never}
use Rattle.board.specs.Laws.Made.{FlagsRight}

-- ---- the moves left

-- A property of the moves left, by their places.
module _ (c d n g : ℕ) (m : List ℕ) where
  pub each-rest : (P : Move → Type 0) → ((i : ℕ) → i < n → i ≢ g → P (move_in c d m i)) → Each P (drop_at g (moves_in (line_from c d n m)))
  each-rest P f =
      subst (Each P) (sym (rest-places c d n m g))
      (each_map P (move_in c d m) places
      (mem-each (λ i. P (move_in c d m i)) places
      (λ i k.
      let w = select-mem (λ j. not (eqb j g)) (numbers_from 0 n) k in
      f i (each-mem (λ j. j < n) (each-place (λ j. j < n) n (λ j l. l)) w.0) (eqb-false i g (not-true (eqb i g) w.1)))))
    where
      places : List ℕ
      places = select (λ j. not (eqb j g)) (numbers_from 0 n)

  -- A number that none of them has stands at no other place.
  pub rest-absent : (k : ℕ) → on_board k (drop_at g (moves_in (line_from c d n m))) ≡ false → (i : ℕ) → i < n → i ≢ g → number_in c m i ≢ k
  unfolding on_board move_in
  rest-absent k off i l ne e =
      both_ways
      (ap (any has) (rest-places c d n m g)
      ∙ any-map has (move_in c d m) (select (λ j. not (eqb j g)) (numbers_from 0 n))
      ∙ any-select (λ j. has (move_in c d m j)) (λ j. not (eqb j g)) (numbers_from 0 n)
      ∙ sym (any_to-places here n)
      ∙ any_to-found here n i l (and_both (not (eqb i g)) (eqb (number_in c m i) k) (not-flip (eqb i g) (ne_eqb i g ne)) (eq-eqb (number_in c m i) k e)))
      off
    where
      has : Move → Bool
      has x = eqb x.number k

      here : ℕ → Bool
      here j = not (eqb j g) && has (move_in c d m j)

-- ---- the flags

flag-test : (listed stays : Bool) → cond (not (beq listed stays)) (not listed) listed ≡ stays
flag-test true true = refl
flag-test true false = refl
flag-test false true = refl
flag-test false false = refl

module _ {c d n : ℕ} {k : Exchange} {m : List ℕ} {u : Upkeep} (up : UpkeptRows c d n k m u) where
  abbrev before : List Move
  before = moves_in (line_from c d n m)

  abbrev after : List Move
  after = moves_after d k before

  then-stays : (i : ℕ) → i < n → listed_then c u.changed m i ≡ stays c d n k m i
  unfolding listed_then
  then-stays i l =
      ap (λ (p : Bool). cond p (not (is_listed c m i)) (is_listed c m i)) (up.changed i l) ∙ flag-test (is_listed c m i) (stays c d n k m i)

  flags-stay : {m₁ : List ℕ} → SetFlags c n u.changed m m₁ → (i : ℕ) → i < n → eqb (flag_in c m₁ (number_in c m i)) 1 ≡ stays c d n k m i
  flags-stay set i l = set.flags i l ∙ then-stays i l

  -- Flags right at the places of the moves left, and at the coming one's number.
  flags-right : (m₁ : List ℕ)
      → ((i : ℕ) → i < n → i ≢ k.goes → eqb (flag_in c m₁ (number_in c m i)) 1 ≡ stays c d n k m i)
      → ForSome k.coming (λ x. eqb (flag_in c m₁ x.number) 1 ≡ u.listed)
      → FlagsRight c d m₁ after
  unfolding moves_after insert stays move_in
  flags-right m₁ old new = by_coming k.coming refl
    where
      Right : Move → Type 0
      Right x = eqb (flag_in c m₁ x.number) 1 ≡ not (hidden d after x)

      rest : Each Right (drop_at k.goes before)
      rest =
          each-rest c d n k.goes m Right
          (λ i l ne. old i l ne ∙ ap (λ (b : Bool). not b && not (hidden d after (move_in c d m i))) (ne_eqb i k.goes ne))

      fresh : (x : dominance.Move) → k.coming ≡ Some x → Right (as_move x)
      fresh x e = new x e ∙ up.listed ∙ ap (λ (o : Option dominance.Move). option_map_or (λ y. not (hidden d after (as_move y))) o false) e

      by_coming : (o : Option dominance.Move) → k.coming ≡ o → Each Right (option_map_or (λ x. insert_by (move_before d) (as_move x) (drop_at k.goes before)) o (drop_at k.goes before))
      by_coming None e = rest
      by_coming (Some x) e = each-insert (move_before d) Right (as_move x) (drop_at k.goes before) (fresh x e) rest

-- Of memory whose flags were set, and whatever else was written afterwards.
module _ {c d n : ℕ} {k : Exchange} {m m₁ : List ℕ} {u : Upkeep} (asked : AskedRows c d n k m) (up : UpkeptRows c d n k m u)
    (set : SetFlags c n u.changed m m₁) (m' : List ℕ) where
  pub flags-gone : k.coming ≡ None → ((v : ℕ) → v < c → flag_in c m' v ≡ flag_in c m₁ v) → FlagsRight c d m' (moves_after d k (moves_in (line_from c d n m)))
  flags-gone none same =
      flags-right up m'
      (λ i l ne. ap (λ (v : ℕ). eqb v 1) (same (number_in c m i) (held-numbers c d n m asked.sound i l)) ∙ flags-stay up set i l)
      (λ x e. never (λ y. eqb (flag_in c m' y.number) 1 ≡ u.listed) x (sym none ∙ e))

  pub flags-come : (y : dominance.Move) → k.coming ≡ Some y → ((v : ℕ) → v < c → flag_in c m' v ≡ flag_in c (set_listed c y.number u.listed m₁) v)
      → FlagsRight c d m' (moves_after d k (moves_in (line_from c d n m)))
  flags-come y one same =
      flags-right up m'
      (λ i l ne.
      ap (λ (v : ℕ). eqb v 1)
      (same (number_in c m i) (held-numbers c d n m asked.sound i l)
      ∙ flag-set_listed-other c x m₁ (number_in c m i) (rest-absent c d n k.goes m x (asked.new y one) i l ne) u.listed)
      ∙ flags-stay up set i l)
      (λ z e.
      let own = only (λ w. w.number ≡ x) refl z (sym one ∙ e) in
      ap (λ (v : ℕ). eqb (flag_in c m' v) 1) own
      ∙ ap (λ (v : ℕ). eqb v 1) (same x (asked.fit y one).number)
      ∙ listed-set_listed c x m₁ (room-over c set.frame (held-room c d n m asked.sound)) (asked.fit y one).number u.listed)
    where
      x : ℕ
      x = y.number
