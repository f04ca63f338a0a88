-- The three changes as the code has them: the move that comes, with its block, or the number of the one that goes.
use Rattle.std.specs.Prelude.{ℕ, Bool, true, false, Option, ◌≡◌, Some, None, Result, ⊤}
use Rattle.std.specs.Option.{ForSome, option_map_or}
use Rattle.zorder.specs.Address.{row_costs}
use Rattle.zorder.proofs.Laws.Address.{Costs}
use Rattle.zorder.specs.Refusal.{cost_past_bad}
use Rattle.model.specs.Calls as calls
use Rattle.model.specs.Calls.{Board, block_bad, on_board, change_refusal}
use Rattle.promises.specs.Answers.{check_number}
use Rattle.promises.specs.declared.Reason.{Reason}
use Rattle.dominance.specs.declared.Move.{Move}
use Rattle.memory.specs.declared.head.Head.{Head}
use Rattle.upkeep.specs.declared.exchange.Exchange.{Exchange}
use Rattle.planning.specs.declared.change.Change.{Change}
use Rattle.planning.specs.declared.change.Change.TheVariants.{Enter, Withdraw, Recost}

-- The change that is asked for.
abbrev pub call_of : Change → calls.Change
call_of (Enter coming block) = calls.enter coming.number block coming.costs
call_of (Withdraw number) = calls.withdraw number
call_of (Recost coming block) = calls.recost coming.number block coming.costs

abbrev pub asked_number : Change → ℕ
asked_number (Enter coming block) = coming.number
asked_number (Withdraw number) = number
asked_number (Recost coming block) = coming.number

-- The move that comes, and the block that it gets.
abbrev pub coming_of : Change → Option Move
coming_of (Enter coming block) = Some coming
coming_of (Withdraw number) = None
coming_of (Recost coming block) = Some coming

-- Its costs are a row.
abbrev pub CostsOf : Change → Type 0
CostsOf x = ForSome (coming_of x) (λ y. Costs row_costs y.costs)

abbrev pub given_block : Change → Option ℕ
given_block (Enter coming block) = Some block
given_block (Withdraw number) = None
given_block (Recost coming block) = Some block

abbrev pub is_new : Change → Bool
is_new (Enter coming block) = true
is_new (Withdraw number) = false
is_new (Recost coming block) = false

-- A block that there is not, and a cost past the first d.
abbrev pub gets_bad_block : Change → Bool
gets_bad_block x = option_map_or block_bad (given_block x) false

abbrev pub gets_past_cost : ℕ → Change → Bool
gets_past_cost d x = option_map_or (λ y. cost_past_bad d y.costs) (coming_of x) false

-- The exchange of moves where that at a place goes.
abbrev pub exchange_of : Change → ℕ → Exchange
exchange_of x goes = record { goes = goes; coming = coming_of x }

-- The refusal, 3 and 8 apart, on each board with this head where the number is or is not on the board.
pub record JudgesBy (h : Head) (x : Change) (on : Bool) (r : Result ⊤ Reason) : Type 0 where
  pub is :
      (b : Board)
      → b.size ≡ h.size
      → b.dimension ≡ h.dimension
      → on_board (asked_number x) b.moves ≡ on
      → check_number r ≡ change_refusal b (call_of x)
