-- What a change does to the list. `Upkept` says it by the definition: who is in the list of the moves afterwards; the
-- definitions before it are what the steps compute.
use Rattle.std.specs.Prelude.{ℕ, suc, ◌-◌, ◌<◌, ◌≤◌, Bool, true, false, not, ◌&&◌, ◌||◌, ◌≡◌, List, ◌++◌, map, eqb, ltb, length, take, drop}
use Rattle.std.specs.Bool.{beq}
use Rattle.std.specs.Option.{ForSome, option_map_or}
use Rattle.zorder.specs.Address.{row_costs}
use Rattle.model.specs.Basics.{select, count, numbers_from, has}
use Rattle.model.specs.Moves.{Move, move_before, insert}
use Rattle.model.specs.Dominance.{hides}
use Rattle.model.specs.Lists.{hidden}
use Rattle.model.specs.Tree.{Tree}
use Rattle.model.specs.Calls.{on_board}
use Rattle.model.specs.Opening.{withdraw_opens}
use Rattle.model.specs.Sound.{Fit}
use Rattle.line.specs.Line.{moves_in}
use Rattle.line.specs.Enter.{place_for}
use Rattle.promises.specs.Layout.{number_in, move_in, line_from}
use Rattle.promises.specs.Sound.{Stands}
use Rattle.memory.specs.Tests.{any_to, is_listed}
use Rattle.memory.specs.Held.{SoundAt, SoundRows}
use Rattle.search.specs.Search.{Corners}
use Rattle.search.specs.declared.search.Among.TheVariants.{All}
use Rattle.memory.specs.declared.head.Head.{Head}
use Rattle.dominance.specs.Move.{as_move}
use Rattle.numbers.specs.Set.{in_set}
use Rattle.upkeep.specs.declared.exchange.Exchange.{Exchange}
use Rattle.upkeep.specs.declared.entering.Entered.{Entered}
use Rattle.upkeep.specs.declared.exchange.Upkeep.{Upkeep}

-- The moves after the change: one gone, one come.
unfoldable pub drop_at : ℕ → List Move → List Move
drop_at i ms = take i ms ++ drop (suc i) ms

unfoldable pub moves_after : ℕ → Exchange → List Move → List Move
moves_after d k ms = option_map_or (λ x. insert d (as_move x) (drop_at k.goes ms)) k.coming (drop_at k.goes ms)

-- Whether the move at place i is in the list afterwards.
unfoldable pub stays : ℕ → ℕ → ℕ → Exchange → List ℕ → ℕ → Bool
stays c d n k m i =
    not (eqb i k.goes) && not (hidden d (moves_after d k (moves_in (line_from c d n m))) (move_in c d m i))

-- Whether a coming move is in the list afterwards.
abbrev pub coming_listed : ℕ → ℕ → ℕ → Exchange → List ℕ → Bool
coming_listed c d n k m = option_map_or (λ x. not (hidden d (moves_after d k (moves_in (line_from c d n m))) (as_move x))) k.coming false

pub record AskedRows (c d n : ℕ) (k : Exchange) (m : List ℕ) : Type 0 where
  pub sound : SoundRows c d n m
  pub goes : k.goes ≤ n
  pub fit : ForSome k.coming (λ x. Fit c d (as_move x))
  pub new : ForSome k.coming (λ x. on_board x.number (drop_at k.goes (moves_in (line_from c d n m))) ≡ false)

abbrev pub ChangeAsked : Head → Exchange → List ℕ → Type 0
ChangeAsked h = AskedRows h.size h.dimension h.count

-- The place that a coming move gets among the moves before the change; any where none comes.
pub record PlaceRows (c d n : ℕ) (k : Exchange) (m : List ℕ) (r : ℕ) : Type 0 where
  pub within : r ≤ n
  pub is : ForSome k.coming (λ x. r ≡ place_for d (as_move x) (line_from c d n m))

abbrev pub ComingPlace : Head → Exchange → List ℕ → ℕ → Type 0
ComingPlace h = PlaceRows h.size h.dimension h.count

-- Whose flag changes, and how many leave the list and enter it, by the list of the moves afterwards; and the nodes opened where
-- a move goes, as of its withdrawal (Card 1).
pub record UpkeptRows (c d n : ℕ) (k : Exchange) (m : List ℕ) (u : Upkeep) : Type 0 where
  pub changed : (i : ℕ) → i < n → in_set u.changed (number_in c m i) ≡ not (beq (is_listed c m i) (stays c d n k m i))
  pub left : u.left ≡ count (λ i. is_listed c m i && not (stays c d n k m i)) (numbers_from 0 n)
  pub entered : u.entered ≡ count (λ i. not (is_listed c m i) && stays c d n k m i) (numbers_from 0 n)
  pub opened : k.goes < n → (t : Tree) → Stands m t → u.opened ≡ withdraw_opens d (number_in c m k.goes) t
  pub listed : u.listed ≡ coming_listed c d n k m

abbrev pub Upkept : Head → Exchange → List ℕ → Upkeep → Type 0
Upkept h = UpkeptRows h.size h.dimension h.count

-- What the steps compute. A move goes, and it is listed.
unfoldable pub goes_listed : ℕ → ℕ → ℕ → List ℕ → Bool
goes_listed c n goes m = ltb goes n && is_listed c m goes

unfoldable pub hidden_by_others : ℕ → ℕ → ℕ → ℕ → Move → List ℕ → Bool
hidden_by_others c d n goes x m = any_to (λ j. not (eqb j goes) && hides d (move_in c d m j) x) n

unfoldable pub hidden_by_coming : ℕ → Exchange → Move → Bool
hidden_by_coming d k x = option_map_or (λ y. hides d (as_move y) x) k.coming false

unfoldable pub comes_up : ℕ → ℕ → ℕ → Exchange → Move → List ℕ → Bool
comes_up c d n k x m =
    goes_listed c n k.goes m
    && hides d (move_in c d m k.goes) x
    && not (hidden_by_coming d k x)
    && not (hidden_by_others c d n k.goes x m)

unfoldable pub leaves : ℕ → Exchange → ℕ → Move → Bool
leaves d k i x = eqb i k.goes || hidden_by_coming d k x

unfoldable pub leaves_at : ℕ → ℕ → Exchange → List ℕ → ℕ → Bool
leaves_at c d k m i = is_listed c m i && leaves d k i (move_in c d m i)

unfoldable pub enters_at : ℕ → ℕ → ℕ → Exchange → List ℕ → ℕ → Bool
enters_at c d n k m i = not (is_listed c m i) && (not (eqb i k.goes) && comes_up c d n k (move_in c d m i) m)

-- The places from one up to another that pass a test.
unfoldable pub places_in : ℕ → ℕ → (ℕ → Bool) → List ℕ
places_in from to test = select test (numbers_from from (to - from))

-- A set to which the numbers of the moves at places from a up to b that pass a test were added, and how many these are.
pub record Passing (c : ℕ) (m : List ℕ) (test : ℕ → Bool) (ws : List ℕ) (a b : ℕ) (ws' : List ℕ) (k : ℕ) : Type 0 where
  pub numbers : (j : ℕ) → in_set ws' j ≡ (has j (map (number_in c m) (places_in a b test)) || in_set ws j)
  pub counts : k ≡ length (places_in a b test)

-- The moves that enter are added to a set. The nodes opened on the way are those that document 02 counts of the tree before: the
-- list is that before the change, and none where the going move is not listed.
pub record Entering (c d n : ℕ) (k : Exchange) (m ws ws' : List ℕ) (r : Entered) : Type 0 where
  pub moves : Passing c m (enters_at c d n k m) ws 0 n ws' r.count
  pub opened : k.goes < n → (t : Tree) → Stands m t → r.opened ≡ withdraw_opens d (number_in c m k.goes) t

-- What the steps ask: a move goes, and it is listed.
pub record GoesListed (h : Head) (k : Exchange) (m : List ℕ) : Type 0 where
  pub sound : SoundAt h m
  pub goes : goes_listed h.size h.count k.goes m ≡ true

abbrev pub AllCorners : Head → List ℕ → List (List ℕ) → Type 0
AllCorners h m = Corners All h.size m h.count

-- Place i parts the moves by x: those before it stand before x, and none of the others hides it.
pub record Parted (c d n i : ℕ) (x : Move) (m : List ℕ) : Type 0 where
  pub within : i ≤ n
  pub before : (j : ℕ) → j < i → move_before d (move_in c d m j) x ≡ true
  pub after : (j : ℕ) → i ≤ j → j < n → hides d (move_in c d m j) x ≡ false
  pub wide : length x.costs ≡ row_costs
