-- Moves found by number, place after place, and by a test of moves.
use Rattle.std.specs.Prelude.{ℕ, ◌+◌, ◌≤◌, ◌<◌, Bool, false, ◌||◌, List, [], map, ◌≡◌, refl}
use Rattle.std.proofs.Math.Path.{sym, ap}
use Rattle.std.proofs.Common.{◌∙◌, subst, arith}
use Rattle.std.proofs.Math.ListN.{length}
use Rattle.std.proofs.lemmas.List.{length-map}
use Rattle.model.specs.Basics.{Each, cons_if, select, count, numbers_from, has}
use Rattle.model.specs.Moves.{Move}
use Rattle.model.proofs.Laws.Basics.{select-ext, select-map}
use Rattle.line.specs.Line.{moves_in}
use Rattle.promises.specs.Layout.{number_in, move_in, line_from, line_in, board_in}
use Rattle.promises.proofs.Laws.Tab.{each-tab}
use Rattle.memory.specs.Held.{SoundRows}
use Rattle.memory.specs.Laws.Lines.{moves_in-line}
use Rattle.memory.specs.declared.head.Head.{Head}
use Rattle.numbers.specs.Set.{in_set}
use Rattle.upkeep.specs.Found.{Finds, FindsRows, found_moves, move_of}
use Rattle.upkeep.specs.Change.{Passing}
use Rattle.upkeep.specs.Laws.Places.{places-all, places-one}
use Rattle.upkeep.specs.Laws.Passing.{passing-few, passing-none, passing-join, passing-at}
use Rattle.upkeep.specs.Laws.Change.{line-places}
use Rattle.upkeep.specs.declared.found.Found.{Found}

-- ---- found place after place

-- The numbers of the first i moves that pass, added to a set.
abbrev pub FindsTo : (c : ℕ) (m : List ℕ) → (ℕ → Bool) → List ℕ → ℕ → List ℕ → ℕ → Type 0
FindsTo c m test ws = Passing c m (λ i. test (number_in c m i)) ws 0

pub finds-few : (c : ℕ) (m : List ℕ) (test : ℕ → Bool) {ws ws' : List ℕ} {i k : ℕ} → FindsTo c m test ws i ws' k → k ≤ i
finds-few c m test h = omega (arith, passing-few c m (λ i. test (number_in c m i)) h)

pub finds-none : (c : ℕ) (m : List ℕ) (test : ℕ → Bool) (ws : List ℕ) → FindsTo c m test ws 0 ws 0
finds-none c m test ws = passing-none c m (λ i. test (number_in c m i)) ws 0

pub adds-few : (c : ℕ) (m : List ℕ) (b : Bool) {ws ws' : List ℕ} {i k : ℕ} → Passing c m (λ _. b) ws i (i + 1) ws' k → k ≤ 1
adds-few c m b h = omega (arith, passing-few c m (λ _. b) h)

-- One place more, whose move was added if it passes.
pub finds-more : (c : ℕ) (m : List ℕ) (test : ℕ → Bool) {ws ws' ws'' : List ℕ} {i k k' k'' : ℕ} {b : Bool} → FindsTo c m test ws i ws' k → test (number_in c m i) ≡ b
    → Passing c m (λ _. b) ws' i (i + 1) ws'' k' → k'' ≡ k + k' → FindsTo c m test ws (i + 1) ws'' k''
finds-more c m test {ws' = ws'} {i = i} {k'' = k''} {b = b} h e one f =
    let at : ℕ → Bool = λ j. test (number_in c m j) in
    let same = places-one (λ _. b) i ∙ sym (places-one at i ∙ ap (λ (t : Bool). cons_if t i []) e) in
    passing-join c m at h
    (record { numbers = λ j. one.numbers j ∙ ap (λ (is : List ℕ). has j (map (number_in c m) is) || in_set ws' j) same; counts = one.counts ∙ ap length same })
    (omega arith) (omega arith) k'' f

pub finds-all : (c : ℕ) (m : List ℕ) (test : ℕ → Bool) (n i : ℕ) (r : Found) {ws : List ℕ} → i ≡ n → ((j : ℕ) → in_set ws j ≡ false) → FindsTo c m test ws i r.numbers r.count → FindsRows c n test m r
unfolding count
finds-all c m test n i r e none h =
    let at : ℕ → Bool = λ i. test (number_in c m i) in
    record {
      numbers = λ j l. passing-at c m at h j (omega arith) (λ i _ same passes. ap test same ∙ passes) none;
      counts = h.counts ∙ ap length (places-all at i) ∙ ap (λ (x : ℕ). count at (numbers_from 0 x)) e;
    }

pub board-line : {c d n : ℕ} {m : List ℕ} → SoundRows c d n m → moves_in (line_from c d n m) ≡ (board_in m).moves
unfolding board_in line_in
board-line {m = m} h = λ j. moves_in (line_from (h.size j) (h.dimension j) (h.count j) m)

module _ (h : Head) (test : ℕ → Bool) (m : List ℕ) (r : Found) (f : Finds h test m r) where
  abbrev c : ℕ
  c = h.size

  abbrev d : ℕ
  d = h.dimension

  abbrev n : ℕ
  n = h.count

  pub found-places : found_moves c d n test m ≡ map (move_in c d m) (select (λ i. test (number_in c m i)) (numbers_from 0 n))
  unfolding move_in
  found-places =
      ap (select (λ x. test x.number)) (line-places c d n m)
      ∙ select-map (λ x. test x.number) (move_in c d m) (numbers_from 0 n)

  pub found_number : r.count ≡ length (found_moves c d n test m)
  unfolding count
  found_number =
      f.counts
      ∙ sym (length-map (select (λ i. test (number_in c m i)) (numbers_from 0 n)) (move_in c d m))
      ∙ ap length (sym found-places)

-- ---- a test of moves

module _ (c d n : ℕ) (m : List ℕ) where
  pub each-move : (P : Move → Type 0) → ((i : ℕ) → i < n → P (move_in c d m i)) → Each P (moves_in (line_from c d n m))
  each-move P h = subst (Each P) (sym (moves_in-line c d n m)) (each-tab (move_in c d m) P n h)

  pub found-selected : (test : Move → Bool) → found_moves c d n (λ k. test (move_of c d m k)) m ≡ select test (moves_in (line_from c d n m))
  unfolding move_in
  found-selected test =
      select-ext (λ x. test (move_of c d m x.number)) test (moves_in (line_from c d n m))
      (each-move (λ x. test (move_of c d m x.number) ≡ test x) (λ i _. refl))
