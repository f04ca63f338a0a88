-- The flagged moves are the list, so the plan of the moves found is that of a list call.
use Rattle.std.specs.Prelude.{ℕ, List, ◌≡◌}
use Rattle.std.proofs.Math.Path.{refl, ap, subst}
use Rattle.std.proofs.Common.{◌∙◌}
use Rattle.model.specs.Lists.{skyline, listed_rows}
use Rattle.model.specs.Nodes.{nodes_opened}
use Rattle.model.specs.Calls.{accepted, list, list_of, query_refusal, query_rows}
use Rattle.model.specs.Opening.{query_opens}
use Rattle.promises.specs.Layout.{dimension_in, board_in, kept_from}
use Rattle.memory.specs.Held.{SoundAt}
use Rattle.memory.specs.Laws.Held.{held_kept}
use Rattle.nodes.specs.Search.{Opened}
use Rattle.memory.specs.declared.head.Head.{Head}
use Rattle.memory.specs.Tests.{is_flagged}
use Rattle.upkeep.specs.Found.{Finds, found_moves}
use Rattle.upkeep.specs.Laws.Found.{board-line}
use Rattle.upkeep.specs.declared.found.Found.{Found}
use Rattle.rows.specs.Planned.{QueryPlanned, PlansFound}
use Rattle.rows.specs.declared.plan.Plan.{Plan}

module _ {h : Head} {m : List ℕ} (s : SoundAt h m) where
  list-rows : listed_rows (found_moves h.size h.dimension h.count (is_flagged h.size m) m) ≡ query_rows (board_in m) list
  unfolding query_rows list_of kept_from board_in
  list-rows =
      ap listed_rows (held_kept h.size h.dimension h.count m s ∙ (λ j. skyline (s.dimension j) (board-line s j)))

  accepts : query_refusal (board_in m) list ≡ accepted
  unfolding query_refusal
  accepts = refl

  pub list-planned : {found : Found} → Finds h (is_flagged h.size m) m found → {opened : ℕ} → Opened h.dimension m opened
      → {lent : ℕ} {p : Plan} → PlansFound h found opened lent p → QueryPlanned list m lent p
  unfolding query_opens
  list-planned f {opened} search plan =
      plan.plans s f (query_refusal (board_in m) list) accepts (query_rows (board_in m) list) list-rows (query_opens (dimension_in m) list)
      (λ t w. subst (λ (k : ℕ). opened ≡ nodes_opened k t) s.dimension (search.is t w))
