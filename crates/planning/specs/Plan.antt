-- What a plan of a change says, and what carrying it out asks and leaves.
use Rattle.std.specs.Prelude.{ℕ, ◌+◌, ◌-◌, ◌<◌, ◌≤◌, Bool, true, false, cond, ◌&&◌, Option, None, ◌≡◌, List, ◌++◌, ltb, length}
use Rattle.std.specs.Option.{ForSome, ForNone, option_map_or}
use Rattle.model.specs.Basics.{equal}
use Rattle.model.specs.Moves.{Row, left, entered}
use Rattle.model.specs.Calls.{refused_with, change_refusal, change_notice, keeps_moves}
use Rattle.model.specs.Opening.{change_opens}
use Rattle.promises.specs.Layout.{size_in, dimension_in, number_in, costs_in, board_in}
use Rattle.promises.specs.Sound.{Sound}
use Rattle.promises.specs.Answers.{Verdict, number_of, counted}
use Rattle.dominance.specs.declared.Move.{Move}
use Rattle.memory.specs.Room.{Room}
use Rattle.memory.specs.Stores.{set_block}
use Rattle.search.specs.declared.search.Among.TheVariants.{Listed, Hidden}
use Rattle.memory.specs.declared.head.Head.{Head}
use Rattle.upkeep.specs.Change.{AskedRows}
use Rattle.upkeep.specs.declared.exchange.Upkeep.{Upkeep}
use Rattle.upkeep.specs.declared.exchange.Exchange.{Exchange}
use Rattle.rows.specs.Telling.{nobody, filled_rows}
use Rattle.rows.specs.Planned.{Foreseen, Tells}
use Rattle.rows.specs.declared.telling.Coming.{Coming}
use Rattle.rows.specs.declared.telling.View.{View}
use Rattle.rows.specs.declared.telling.Telling.{Telling}
use Rattle.planning.specs.Kind.{call_of, asked_number, coming_of, given_block}
use Rattle.planning.specs.Change.{Made, ToEnter, ToWithdraw, ToRecost}
use Rattle.planning.specs.declared.change.Change.{Change}
use Rattle.planning.specs.declared.change.Change.TheVariants.{Enter, Withdraw, Recost}
use Rattle.planning.specs.declared.plan.ChangePlan.{ChangePlan}

-- ---- the exchange of moves

-- Whether a move comes for one that goes, with its costs.
unfoldable pub alike : ℕ → ℕ → ℕ → Exchange → List ℕ → Bool
alike c d n k m =
    option_map_or (λ x. ltb k.goes n && equal x.costs (costs_in c d m (number_in c m k.goes))) k.coming false

-- A move that comes has space, or comes for the one of its number; where none comes one goes.
pub record ReadyRows (c d n : ℕ) (k : Exchange) (m : List ℕ) : Type 0 where
  pub asked : AskedRows c d n k m
  pub space : ForSome k.coming (λ _. n ≤ k.goes → n < c)
  pub number : ForSome k.coming (λ x. k.goes < n → number_in c m k.goes ≡ x.number)
  pub place : ForNone k.coming (k.goes < n)

-- ---- carrying a plan out

-- What each change asks of the memory before its moves are made.
unfoldable pub PreparedFor : Change → Head → ℕ → Upkeep → List ℕ → Type 0
PreparedFor (Enter coming block) h goes u m = ToEnter h.size h.dimension h.count coming u m
PreparedFor (Withdraw number) h goes u m = ToWithdraw h.size h.dimension h.count goes u m × (number_in h.size m goes ≡ number)
PreparedFor (Recost coming block) h goes u m = ToRecost h.size h.dimension h.count goes coming u m

abbrev pub MovesReady : ChangePlan → List ℕ → Type 0
MovesReady p m = ForSome p.places (λ x. PreparedFor p.change p.head x.goes p.upkeep m)

-- A block that can be given.
pub record Giveable (c n b : ℕ) (m : List ℕ) : Type 0 where
  pub room : Room c m
  pub number : n < c
  pub block : b ≤ 63

-- What an accepted plan asks.
pub record Able (p : ChangePlan) (m : List ℕ) : Type 0 where
  pub moves : number_of p.verdict ≡ 0 → MovesReady p m
  pub block : number_of p.verdict ≡ 0 → ForSome (given_block p.change) (λ block. Giveable p.head.size (asked_number p.change) block m)

pub record MovesMade (p : ChangePlan) (m m' : List ℕ) : Type 0 where
  pub made : ForSome p.places (λ _. Made (call_of p.change) m m')
  pub idle : ForNone p.places (m' ≡ m)
  pub length : length m' ≡ length m

-- A refused plan leaves every byte; of an accepted one the moves are made, then the block is given.
pub record CarriedOut (p : ChangePlan) (m m' : List ℕ) : Type 0 where
  pub between : List ℕ
  pub refused : 0 < number_of p.verdict → m' ≡ m
  pub moves : number_of p.verdict ≡ 0 → MovesMade p m between
  pub given : number_of p.verdict ≡ 0 → ForSome (given_block p.change) (λ block. m' ≡ set_block p.head.size (asked_number p.change) block between)
  pub kept : number_of p.verdict ≡ 0 → ForNone (given_block p.change) (m' ≡ between)

-- ---- what a plan tells

-- The listed moves whose flag changes leave; the hidden ones enter, and the coming one.
abbrev pub leaving_by : Head → View
leaving_by h = record { head = h; mark = left; among = Listed; coming = nobody }

abbrev pub entering_by : Head → Coming → View
entering_by h x = record { head = h; mark = entered; among = Hidden; coming = x }

abbrev pub left_of : ChangePlan → Telling
left_of p =
    record {
      told = leaving_by p.head;
      numbers = p.upkeep.changed;
      count = counted (number_of p.verdict) p.upkeep.left;
    }

abbrev pub coming_if : Bool → ℕ → Option Move → Coming
coming_if told place x = record { place = place; entrant = cond told x None }

-- Of a plan that changes no move the place is 0.
abbrev pub coming_in : ChangePlan → Coming
coming_in p = coming_if p.upkeep.listed (option_map_or (λ x. x.comes) p.places 0) (coming_of p.change)

abbrev pub entered_of : ChangePlan → Telling
entered_of p =
    record {
      told = entering_by p.head (coming_in p);
      numbers = p.upkeep.changed;
      count = counted (number_of p.verdict) (p.need - p.upkeep.left);
    }

-- The rows afterwards: first those that leave were put, then those that enter.
abbrev pub rows_filled : ChangePlan → List ℕ → List (List ℕ) → List (List ℕ)
rows_filled p m rows =
    filled_rows (entered_of p).told (entered_of p).numbers m (left_of p).count (entered_of p).count
    (filled_rows (left_of p).told (left_of p).numbers m 0 (left_of p).count rows)

-- ---- the plan of a change

-- What the plan foresees and tells with so many lent rows; and what carrying it out finds: the change's own moves are made, or
-- none is where that is what the change does.
pub record Planned (x : Change) (m : List ℕ) (lent : ℕ) (p : ChangePlan) : Type 0 where
  pub foreseen :
      Foreseen (refused_with (change_refusal (board_in m) (call_of x))) (change_notice (board_in m) (call_of x)) (change_opens (dimension_in m) (call_of x)) m lent p.verdict p.need p.opened
  pub lefts : List Row
  pub entereds : List Row
  pub notice : number_of p.verdict ≡ 0 → lefts ++ entereds ≡ change_notice (board_in m) (call_of x)
  pub leaves : Tells p.verdict lefts m (left_of p)
  pub enters : Tells p.verdict entereds m (entered_of p)
  pub within : p.upkeep.left ≤ p.need
  pub enough : (left_of p).count + (entered_of p).count ≤ lent
  pub able : Able p m
  pub change : p.change ≡ x
  pub size : number_of p.verdict ≡ 0 → p.head.size ≡ size_in m
  pub idle : number_of p.verdict ≡ 0 → ForNone p.places (Made (call_of x) m m)
  pub nothing : Sound m → keeps_moves (board_in m) (call_of x) ≡ true → number_of p.verdict ≡ 0 → p.places ≡ None

-- No move changes, and no row is told.
pub record KeepsMoves (h : Head) (x : Change) (v : Verdict) (p : ChangePlan) : Type 0 where
  pub verdict : p.verdict ≡ v
  pub need : p.need ≡ 0
  pub opened : p.opened ≡ 0
  pub places : p.places ≡ None
  pub head : p.head ≡ h
  pub change : p.change ≡ x
  pub none : p.upkeep.left ≡ 0
