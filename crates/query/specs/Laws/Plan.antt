-- The plan of a list of moves that pass a test.
use Rattle.std.specs.Prelude.{ℕ, Bool, List, ◌≡◌}
use Rattle.std.proofs.Common.{sym, ap, ◌∙◌}
use Rattle.model.specs.Basics.{select}
use Rattle.model.specs.Moves.{Move}
use Rattle.model.specs.Lists.{listed_rows}
use Rattle.model.specs.Tree.{Tree}
use Rattle.model.specs.Calls.{accepted, Query, query_refusal, query_rows}
use Rattle.model.specs.Opening.{query_opens}
use Rattle.promises.specs.Layout.{dimension_in, board_in}
use Rattle.memory.specs.Held.{SoundAt, moves_held}
use Rattle.memory.specs.declared.head.Head.{Head}
use Rattle.upkeep.specs.Found.{FindsMoves}
use Rattle.upkeep.specs.Laws.Found.{board-line, found-selected}
use Rattle.upkeep.specs.declared.found.Found.{Found}
use Rattle.rows.specs.Planned.{QueryPlanned, PlansFound}
use Rattle.rows.specs.declared.plan.Plan.{Plan}

-- The test goes by the number of costs and by all moves.
pub found-planned : (keeps : ℕ → List Move → Move → Bool) (q : Query) {h : Head} {m : List ℕ} {found : Found} {lent : ℕ} {p : Plan}
    → SoundAt h m
    → FindsMoves h (keeps h.dimension (moves_held h m)) m found
    → PlansFound h found 0 lent p
    → query_refusal (board_in m) q ≡ accepted
    → query_rows (board_in m) q ≡ listed_rows (select (keeps (dimension_in m) (board_in m).moves) (board_in m).moves)
    → ((t : Tree) → query_opens (dimension_in m) q t ≡ 0)
    → QueryPlanned q m lent p
found-planned keeps q {h} {m} s f plan ok rows shut =
    plan.plans s f _ ok _
    (ap listed_rows
    (found-selected h.size h.dimension h.count m (keeps h.dimension (moves_held h m))
    ∙ (λ i. select (keeps (s.dimension i) (board-line s i)) (board-line s i)))
    ∙ sym rows)
    (query_opens (dimension_in m) q) (λ t _. sym (shut t))
