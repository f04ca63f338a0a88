-- What the parts of the hours call compute.
use Rattle.std.specs.Prelude.{ℕ, ◌/◌, ◌%◌, ◌^◌, ◌≤◌, ◌<◌, Bool, not, ◌&&◌, List, map, ◌≡◌, true, false, eqb, take, Option, unwrap_or, IfSome}
use Rattle.model.specs.Basics.{select}
use Rattle.model.specs.Moves.{Move}
use Rattle.model.specs.Lists.{hidden}
use Rattle.model.specs.Hours.{Hours, block_count, block_open}
use Rattle.model.specs.Calls.{accepted, hours_query, hours_refusal}
use Rattle.line.specs.Line.{moves_in}
use Rattle.promises.specs.Layout.{line_from}
use Rattle.promises.specs.Answers.{block_hours}
use Rattle.memory.specs.declared.head.Head.{Head}
use Rattle.search.specs.Search.{in_blocks}
use Rattle.hours.specs.declared.shown.Standing.{Standing}
use Rattle.hours.specs.declared.shown.Standing.TheVariants.{Shut, Hidden, Shown}
use Rattle.rows.specs.Planned.{QueryPlanned}
use Rattle.rows.specs.declared.plan.Plan.{Plan}

-- The lowest block whose hours are refused, or one past the last.
pub record FirstBad (hours : List Hours) (r : ℕ) : Type 0 where
  pub bad : r < block_count → hours_refusal 0 (take block_count hours) ≡ record { number = 12; detail = r }
  pub none : block_count ≤ r → hours_refusal 0 (take block_count hours) ≡ accepted

-- The same of a block or none: one past the last stands for none.
pub record FirstBadFound (hours : List Hours) (r : Option ℕ) : Type 0 where
  pub first : FirstBad hours (unwrap_or r block_count)
  pub below : IfSome r (λ k. k < block_count)

-- Bit k of the set says whether block k is open.
pub record OpenBlocks (t : ℕ) (hours : List Hours) (set : ℕ) : Type 0 where
  pub bits : (k : ℕ) → k < block_count → eqb (set / 2 ^ k % 2) 1 ≡ block_open t hours k

-- Of the first n moves those in a set of blocks.
abbrev pub moves_in_blocks : ℕ → ℕ → ℕ → ℕ → List ℕ → List Move
moves_in_blocks c d n blocks m = select (λ x. in_blocks blocks c m x.number) (moves_in (line_from c d n m))

-- Whether a move is in one of the blocks, and none of the moves there hides it.
unfoldable pub shown : ℕ → ℕ → ℕ → ℕ → List ℕ → Move → Bool
shown c d n blocks m x = in_blocks blocks c m x.number && not (hidden d (moves_in_blocks c d n blocks m) x)

abbrev pub is_shown : Standing → Bool
is_shown Shut = false
is_shown (Hidden j) = false
is_shown Shown = true

abbrev pub shown_in : Head → ℕ → List ℕ → Move → Bool
shown_in h blocks m = shown h.size h.dimension h.count blocks m

-- The plan of the hours call; the entries of the blocks are numbers.
abbrev pub HoursPlanned : ℕ → List (List ℕ) → List ℕ → ℕ → Plan → Type 0
HoursPlanned minute entries = QueryPlanned (hours_query minute (map block_hours entries))
